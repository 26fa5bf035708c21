-- Laws of lent lists: what they hold while they are cleared or filled, and after a call whose checks gave an answer. Assumes nothing.
use Rattle.std.specs.Prelude.{Result, Ok, Err}
use mathlib.Core.Path.{◌≡◌, refl, sym, ap, ap₂, ◌∙◌}
use mathlib.Core.List.{List, [], ◌∷◌, ◌++◌, append_assoc, append-nil}
use Prim.Native.Nat.{ℕ, zero, suc, ◌+◌, ◌-◌, ◌≤◌, ◌<◌}
use native.Mathlib.Nat.{sub-zero, add-zero}
use native.Mathlib.Numerals.{add-one}
use native.Mathlib.Omega.{arith}
use lib.ListN.{get_or-append, length, take, drop, get_or, set, replicate, length-append, length-replicate, length-set, length-take, length-drop, drop_of_length-le, take-append-drop, replicate-append-replicate}
use lib.Seq.{get_or-drop, get_or-append-add, take_all, take_at, take-suc-set, length-take-le, drop-cons, set_at, append_snoc}
use borrow.Rule.Slice.PartMut.{put_mid}
use Rattle.hybit_core.specs.Answer.{Answer, accepted}
use Rattle.hybit_core.specs.Table.{told}
use Rattle.hybit_core.specs.declared.HybitError.{HybitError}
use Rattle.hybit_core.proofs.AnswerLaws.{accepted_by, refused_by}
use Rattle.lent.specs.Lists.{joined, each}
use Rattle.lent.specs.Lent.{padded, built, kept, handed, Appended}
use Rattle.lent.proofs.ListLaws.{each-suc, length-each, part_mid, zeros_front}

-- ---- padded

module _ {A : Type 0} (z : A) where
  -- nothing written: all zeros
  pub padded-none : (n : ℕ) → padded z n [] ≡ replicate n z
  unfolding padded
  padded-none n = ap (λ (k : ℕ). replicate k z) (sub-zero n)

  pub length-padded : (n : ℕ) (l : List A) → length l ≤ n → length (padded z n l) ≡ n
  unfolding padded
  length-padded n l h = simp (length-append, length-replicate) (omega arith)

  -- no place is left
  pub padded_full : (n : ℕ) (l : List A) → length l ≡ n → padded z n l ≡ l
  unfolding padded
  padded_full n l e = let s : n - length l ≡ 0 = omega arith in rw (s, append-nil)

  -- one place more
  pub padded-suc : (n : ℕ) (l : List A) → length l ≤ n → padded z (n + 1) l ≡ padded z n l ++ (z ∷ [])
  unfolding padded
  padded-suc n l h =
      let s : n + 1 - length l ≡ n - length l + 1 = omega arith in
      rw (s, ← replicate-append-replicate (n - length l) 1 z) (sym (append_assoc l (replicate (n - length l) z) (z ∷ [])))

  -- zeros are as good as nothing
  pub padded_zeros : (n m : ℕ) → m ≤ n → padded z n (replicate m z) ≡ padded z n []
  unfolding padded
  padded_zeros n m h =
      let e : m + (n - length (replicate m z)) ≡ n - 0 = omega (arith, length-replicate m z) in
      replicate-append-replicate m (n - length (replicate m z)) z ∙ ap (λ (k : ℕ). replicate k z) e

  -- a place of the used part
  pub get_or-padded : (n k : ℕ) (l : List A) (d : A) → k < length l → get_or (padded z n l) k d ≡ get_or l k d
  unfolding padded
  get_or-padded n k l d h = get_or-append l (replicate (n - length l) z) d k h

  -- a store in the used part
  pub padded-set : (n k : ℕ) (l : List A) (v : A) → k < length l → set (padded z n l) k v ≡ padded z n (set l k v)
  unfolding padded
  padded-set n k l v h = set_front l (replicate (n - length l) z) k h ∙ ap (λ (m : ℕ). set l k v ++ replicate (n - m) z) (sym (length-set l k v))
    where
      set_front : (a b : List A) (i : ℕ) → i < length a → set (a ++ b) i v ≡ set a i v ++ b
      set_front [] b i l = absurd (omega arith)
      set_front (x ∷ a) b zero l = refl
      set_front (x ∷ a) b (suc i) l = ap (λ (t : List A). x ∷ t) (set_front a b i (omega arith))

-- what an accepted build left, handed on by its used part, is the result
pub handed_used : {A : Type 0} (z : A) (n : ℕ) (a : Answer) (used : ℕ) (l : List A) → a ≡ accepted → length l ≡ used → handed z n a used l ≡ l
unfolding padded
handed_used z n a used l e u = ap (λ (b : Answer). handed z n b used l) e ∙ take_at l (replicate (n - length l) z) used u

-- ---- clearing from a place on: i is the next to be cleared

pub record Cleared {A : Type 0} (z : A) (from : ℕ) (old : List A) (i : ℕ) (new : List A) : Type 0 where
  pub after : from ≤ i
  pub inside : i ≤ length old
  pub same : length new ≡ length old
  pub front : take i new ≡ padded z i (take from old)

module _ {A : Type 0} (z : A) (from : ℕ) (old : List A) where
  pub cleared_past : length old ≤ from → old ≡ padded z (length old) (take from old)
  cleared_past h = let all : take from old ≡ old = take_all from old h in sym (ap (padded z (length old)) all ∙ padded_full z (length old) old refl)

  pub cleared_none : from ≤ length old → Cleared z from old from old
  cleared_none h = record {
    after = omega arith;
    inside = h;
    same = refl;
    front = sym (padded_full z from (take from old) (length-take-le from old h));
  }

  module _ (i : ℕ) (new : List A) (inv : Cleared z from old i new) where
    pub cleared_more : i < length new → Cleared z from old (i + 1) (set new i z)
    cleared_more h =
        let short : length (take from old) ≤ i = rw (length-take-le from old (omega (arith, inv.after, inv.inside))) inv.after in
        record {
          after = omega (arith, inv.after);
          inside = omega (arith, inv.same);
          same = length-set new i z ∙ inv.same;
          front = rw (padded-suc z i (take from old) short, ← inv.front, add-one) (take-suc-set new i z h);
        }

    pub cleared_done : length new ≤ i → new ≡ padded z (length old) (take from old)
    cleared_done h =
        let e : i ≡ length old = omega (arith, inv.inside, inv.same) in
        sym (take_all i new h) ∙ inv.front ∙ ap (λ (n : ℕ). padded z n (take from old)) e

-- the part of s from a place on, cleared from its front
pub cleared_tail : {A : Type 0} (z : A) (s : List A) (from i : ℕ) (new : List A) → from < length s → Cleared z 0 (take (length s - from) (drop from s)) i new
    → length (take (length s - from) (drop from s)) ≤ i → put_mid from (length s - from) s new ≡ padded z (length s) (take from s)
unfolding padded
cleared_tail z s from i new h inv l =
    let long : length (take (length s - from) (drop from s)) ≡ length s - from = simp (length-take, length-drop) (omega arith) in
    let zeros : new ≡ replicate (length s - from) z = cleared_done z 0 _ i new inv (omega (arith, inv.same)) ∙ padded-none z _ ∙ ap (λ (n : ℕ). replicate n z) long in
    let rest : drop (length s - from) (drop from s) ≡ [] = drop_of_length-le (drop from s) (simp length-drop (omega arith)) in
    rw (zeros, rest, append-nil, length-take-le from s (omega arith)) refl

-- ---- filling from the front, one store a turn: the first r are f's, and the others as they were

pub record Filled {A : Type 0} (f : ℕ → A) (old : List A) (r : ℕ) (new : List A) : Type 0 where
  pub is : new ≡ each f r ++ drop r old

module _ {A : Type 0} (f : ℕ → A) (old : List A) where
  pub filled_none : Filled f old 0 old
  unfolding each joined
  filled_none = record { is = refl }

  module _ (r : ℕ) (new : List A) (inv : Filled f old r new) where
    pub filled_length : r ≤ length old → length new ≡ length old
    filled_length h = ap length inv.is ∙ simp (length-append, length-each, length-drop) (omega arith)

    pub filled_more : (v : A) → v ≡ f r → r < length old → Filled f old (r + 1) (set new r v)
    filled_more v e h =
        let front : List A = each f r in
        let rest : List A = drop (suc r) old in
        let was : new ≡ front ++ get_or old r v ∷ rest = inv.is ∙ rw (drop-cons old r v) in
        let then : each f (r + 1) ++ drop (r + 1) old ≡ front ++ v ∷ rest = rw (each-suc f r, add-one, append_snoc, ← e) in
        record { is = ap (λ (t : List A). set t r v) was ∙ set_at front (get_or old r v) rest v r (length-each f r) ∙ sym then }

    -- the next place is as it was
    pub filled_next : (d : A) → r < length old → get_or new r d ≡ get_or old r d
    filled_next d h =
        let place : length (each f r) + 0 ≡ r = omega (arith, length-each f r) in
        ap (λ (k : ℕ). get_or new k d) (sym place) ∙ ap (λ (t : List A). get_or t (length (each f r) + 0) d) inv.is
        ∙ get_or-append-add (each f r) (drop r old) 0 d ∙ get_or-drop r old 0 d ∙ ap (λ (k : ℕ). get_or old k d) (add-zero r)

    pub filled_done : (n : ℕ) → length old ≡ n → r ≤ n → n ≤ r → new ≡ each f n
    filled_done n h o o' =
        let same : r ≡ n = omega arith in
        let all : length old ≤ r = omega arith in
        inv.is ∙ rw (drop_of_length-le, append-nil, same)

-- ---- writing from a place on, part after part

module _ {A : Type 0} where
  pub appended_none : (at : ℕ) (out : List A) → Appended {A = A} [] at at out out
  appended_none at out = record { next = sym (add-zero at); list = sym (append-nil (take at out)) }

  pub appended_join : (new more : List A) (from mid to : ℕ) (old out last : List A) → Appended new from mid old out → Appended more mid to out last → Appended (new ++ more) from to old last
  appended_join new more from mid to old out last a b = record {
    next = omega (arith, a.next, b.next, length-append new more);
    list = b.list ∙ ap (λ (t : List A). t ++ more) a.list ∙ append_assoc (take from old) new more;
  }

  -- one place more
  pub appended_snoc : (new : List A) (from to : ℕ) (old out : List A) (v : A) → Appended new from to old out → to < length out → Appended (new ++ (v ∷ [])) from (to + 1) old (set out to v)
  appended_snoc new from to old out v a h = record {
    next = omega (arith, a.next, length-append new (v ∷ []));
    list = ap (λ (n : ℕ). take n (set out to v)) (add-one to) ∙ take-suc-set out to v h ∙ ap (λ (t : List A). t ++ (v ∷ [])) a.list ∙ append_assoc (take from old) new (v ∷ []);
  }

  -- written from 0 on, and cleared past it
  pub appended_cleared : (z : A) (new : List A) (to : ℕ) (old out last : List A) → Appended new 0 to old out → length out ≡ length old → last ≡ padded z (length out) (take to out) → last ≡ padded z (length old) new
  appended_cleared z new to old out last a s e = e ∙ ap₂ (λ (n : ℕ) (l : List A). padded z n l) s a.list

-- ---- what a list holds after a call whose checks gave the verdict v

module _ {A : Type 0} where
  pub kept_refused : (a : Answer) (v : Result Unit HybitError) (e : HybitError) (new old : List A) → told v ≡ a → v ≡ Err e → old ≡ kept a new old
  kept_refused a v e new old h k = rw (refused_by a v e h k)

  pub kept_accepted : (a : Answer) (v : Result Unit HybitError) (new old out : List A) → told v ≡ a → v ≡ Ok tt → out ≡ new → out ≡ kept a new old
  kept_accepted a v new old out h k r = rw (accepted_by a v h k) r

  pub built_refused : (z : A) (n : ℕ) (a : Answer) (v : Result Unit HybitError) (e : HybitError) (new out : List A) → told v ≡ a → v ≡ Err e → out ≡ padded z n [] → out ≡ built z n a new
  built_refused z n a v e new out h k r = rw (refused_by a v e h k) r

  pub built_accepted : (z : A) (n : ℕ) (a : Answer) (v : Result Unit HybitError) (new out : List A) → told v ≡ a → v ≡ Ok tt → out ≡ padded z n new → out ≡ built z n a new
  built_accepted z n a v new out h k r = rw (accepted_by a v h k) r

pub ruleset lists = (kept_refused, kept_accepted, built_refused, built_accepted)

-- ---- what was written, as a part of the list

pub appended_part : {A : Type 0} (new : List A) (from to : ℕ) (old out : List A) → Appended new from to old out → from ≤ length old → take (to - from) (drop from out) ≡ new
appended_part {A} new from to old out a h =
    part_mid from to (take from old) new (drop to out) out (sym (take-append-drop to out) ∙ ap (λ (t : List A). t ++ drop to out) a.list) (length-take-le from old h) a.next

-- a list whose first n places are written, cleared past them
pub cleared_front : {A : Type 0} (z : A) (n : ℕ) (f : ℕ → A) (front old last : List A) → front ≡ each f n → n ≤ length old → last ≡ padded z (length (front ++ drop n old)) (take n (front ++ drop n old)) → last ≡ padded z (length old) (each f n)
cleared_front z n f front old last e h q =
    let long : length front ≡ n = ap length e ∙ length-each f n in
    let whole : length (front ++ drop n old) ≡ length old = omega (arith, length-append front (drop n old), length-drop n old) in
    let first : take n (front ++ drop n old) ≡ front = take_at front (drop n old) n long in
    q ∙ ap₂ (λ (k : ℕ) (l : List _). padded z k l) whole (first ∙ e)

-- ---- lists of zeros, and what is written to their fronts

module _ {A : Type 0} (z : A) where
  drop_zeros : (k n : ℕ) → drop k (replicate n z) ≡ replicate (n - k) z
  drop_zeros zero n = ap (λ (i : ℕ). replicate i z) (sym (sub-zero n))
  drop_zeros (suc k) zero = let e : 0 - suc k ≡ 0 = omega arith in ap (λ (i : ℕ). replicate i z) (sym e)
  drop_zeros (suc k) (suc n) = let e : suc n - suc k ≡ n - k = omega arith in drop_zeros k n ∙ ap (λ (i : ℕ). replicate i z) (sym e)

  pub front_zeros : (k n : ℕ) (l : List A) → l ≡ padded z n [] → k ≤ n → take k l ≡ replicate k z
  front_zeros k n l e h = ap (take k) (e ∙ padded-none z n) ∙ zeros_front z k n h

  pub written_front : (k n : ℕ) (l new : List A) → l ≡ padded z n [] → length new ≡ k → new ++ drop k l ≡ padded z n new
  unfolding padded
  written_front k n l new e h = ap (λ (t : List A). new ++ t) (ap (drop k) (e ∙ padded-none z n) ∙ drop_zeros k n ∙ ap (λ (i : ℕ). replicate (n - i) z) (sym h))
