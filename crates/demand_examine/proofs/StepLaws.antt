-- Laws that both crates of routes use: what an accepted or refused step says, what the checks before a route accept, and the lists
-- that a build leaves. Assumes nothing.
use mathlib.Core.Bool.{Bool, true, false, ◌&&◌}
use mathlib.Core.List.{List, [], ◌++◌}
use mathlib.Core.Path.{◌≡◌, refl, sym, ap, ap₂, ◌∙◌, subst}
use Prim.Native.Nat.{ℕ, ◌+◌, ◌≤◌, ◌<◌}
use native.Mathlib.Numerals.{add-one}
use native.Mathlib.Omega.{arith}
use lib.Dec.{ltb}
use lib.ListN.{length, take, drop, length-append, length-take, length-drop}
use lib.Ieee.{Float}
use borrow.Author.Tests.{ltb-true}
use Rattle.hybit_core.specs.Answer.{Told, Answer, accepted, refused, Given, gives, refuses, answers, demand, length_is, ◌and_then◌}
use Rattle.hybit_core.specs.Floats.{zero64}
use Rattle.hybit_core.proofs.BoolLaws.{and_right}
use Rattle.lent.specs.Lent.{built, padded}
use Rattle.mask.specs.Mask.{Mask, mask_rules}
use Rattle.csr32.specs.Csr.{Csr, csr_sizes, csr_rules, csr_answer, as_csr}
use Rattle.demand_examine.specs.Steps.{after, PlotLists}
use Rattle.hybit_core.specs.Domain.{few}
use Rattle.hybit_core.proofs.AnswerLaws.{demand_accepted, then_first, then_second, length_accepted}
use Rattle.csr32.specs.Made.{CsrRoom, csr_left}
use Rattle.metadata_first_merge.specs.Merge.{merged_finite}
use Rattle.metadata_first_merge.proofs.MergeLaws.{Packable}
use Rattle.demand_examine.specs.Calls.{records_answer, question_answer}

-- ---- answers with a result

pub gave : {A : Type 0} (a : Answer) (u v : A) → gives v ≡ answers a u → (a ≡ accepted) × (v ≡ u)
gave accepted u v e = (refl, cc)
gave (refused t) u v e = let z : ◌≡◌ {A = ℕ} 0 1 = cc in absurd (omega arith)

pub refused_as : {A : Type 0} (a : Answer) (u : A) (t : Told) → refuses t ≡ answers a u → a ≡ refused t
refused_as accepted u t e = let z : ◌≡◌ {A = ℕ} 0 1 = cc in absurd (omega arith)
refused_as (refused s) u t e = cc

pub after_refused : {A : Type 0} (a : Answer) (g : Given A) (t : Told) → a ≡ refused t → refuses t ≡ after a g
after_refused a g t e = sym (ap (λ (b : Answer). after b g) e)

pub after_accepted : {A : Type 0} (a : Answer) (g h : Given A) → a ≡ accepted → h ≡ g → h ≡ after a g
after_accepted a g h e k = k ∙ sym (ap (λ (b : Answer). after b g) e)

-- ---- what the checks accept

-- a matrix that packing accepts but for its lists, a mask and a vector as long as its columns, and one of its rows
pub record Asked (m : Csr) (a : Mask) (x : List Float) (r : ℕ) : Type 0 where
  pub packs : Packable m
  pub valid_mask : mask_rules a ≡ true
  pub mask_long : a.size ≡ m.cols
  pub vector_long : length x ≡ m.cols
  pub here : r < m.rows

pub asked : (m : Csr) (a : Mask) (x : List Float) (r : ℕ) → records_answer m a ≡ accepted → question_answer m a x r ≡ accepted → Asked m a x r
unfolding records_answer question_answer csr_answer
asked m a x r e q =
    let one : Bool = few a.size && csr_sizes m in
    let five : Answer = demand (mask_rules a) 5 in
    let four : Answer = demand (merged_finite m) 4 in
    let seven : Answer = demand (ltb r m.rows) 7 in
    let la : Answer = length_is m.cols a.size in
    let lx : Answer = length_is m.cols (length x) in
    let sizes : one ≡ true = demand_accepted one 1 (then_first (demand one 1) (csr_rules m and_then five) e) in
    let rest : csr_rules m and_then five ≡ accepted = then_second (demand one 1) (csr_rules m and_then five) e in
    let q1 : lx and_then seven and_then four ≡ accepted = then_second la (lx and_then seven and_then four) q in
    let q2 : seven and_then four ≡ accepted = then_second lx (seven and_then four) q1 in
    record {
      packs = record {
        list = ap₂ (λ (s : Bool) (t : Answer). demand s 1 and_then t) (and_right (few a.size) (csr_sizes m) sizes) (then_first (csr_rules m) five rest);
        finites = demand_accepted (merged_finite m) 4 (then_second seven four q2);
      };
      valid_mask = demand_accepted (mask_rules a) 5 (then_second (csr_rules m) five rest);
      mask_long = length_accepted m.cols a.size (then_first la (lx and_then seven and_then four) q);
      vector_long = length_accepted m.cols (length x) (then_first lx (seven and_then four) q1);
      here = ltb-true r m.rows (demand_accepted (ltb r m.rows) 7 (then_first seven four q2));
    }

-- a chain of three checks that all say 13
pub three_thirteens : (b c d : Bool) → demand b 13 and_then demand c 13 and_then demand d 13 ≡ demand (b && c && d) 13
three_thirteens true true d = refl
three_thirteens true false d = refl
three_thirteens false c d = refl

pub last_accepted : (b : Bool) → demand b 13 and_then accepted ≡ demand b 13
last_accepted true = refl
last_accepted false = refl

-- a call that is made after a check of 13
pub after_13 : {A : Type 0} (b : Bool) (rest : Answer) (g : Given A) (u : A) → (b ≡ true → g ≡ answers rest u) → after (demand b 13) g ≡ answers (demand b 13 and_then rest) u
after_13 true rest g u h = h refl
after_13 false rest g u h = refl

-- ---- zeros

pub plot_zeros : (t : Answer) (e : Told) (m : Csr) (room : CsrRoom) (p c : List ℕ) (v : List Float) → t ≡ refused e
    → p ≡ padded 0 room.ptr [] → c ≡ padded 0 room.col [] → v ≡ padded zero64 room.val [] → PlotLists t m room p c v
plot_zeros t e m room p c v k ep ec ev = subst (λ (u : Answer). PlotLists u m room p c v) (sym k) (record { pointers = ep; columns = ec; values = ev })

-- of a list that had n places when it was cleared, and k at first
pub at_length : {A : Type 0} (z : A) (n k : ℕ) (out : List A) → out ≡ padded z n [] → n ≡ k → out ≡ padded z k []
at_length z n k out e h = e ∙ ap (λ (i : ℕ). padded z i []) h

pub list_zeros : {A : Type 0} (z : A) (n : ℕ) (t : Answer) (e : Told) (new out : List A) → t ≡ refused e → out ≡ padded z n [] → out ≡ built z n t new
list_zeros z n t e new out k h = h ∙ sym (ap (λ (u : Answer). built z n u new) k)

pub answer_refused : {A : Type 0} (t : Answer) (e : Told) (u : A) → t ≡ refused e → refuses e ≡ answers t u
answer_refused t e u k = sym (ap (λ (s : Answer). answers s u) k)

pub front_long : {A : Type 0} (n : ℕ) (front old : List A) → length front ≡ length (take n old) → n ≤ length old → length (front ++ drop n old) ≡ length old
front_long n front old e h = simp (length-append, length-drop) (let k = simp length-take at e in omega arith)

-- ---- a plot list that a build left, by its used parts

pub plot_lent : (t : Answer) (m : Csr) (rc : CsrRoom) (k : ℕ) (op oc : List ℕ) (ov : List Float) → PlotLists t m rc op oc ov → k ≡ length m.val
    → as_csr m.rows m.cols (take (m.rows + 1) op) (take k oc) (take k ov) ≡ csr_left t m rc
unfolding csr_left
plot_lent t m rc k op oc ov ls e =
    let p = ap₂ (λ (i : ℕ) (l : List ℕ). take i l) (add-one m.rows) ls.pointers in
    let c = ap₂ (λ (i : ℕ) (l : List ℕ). take i l) e ls.columns in
    let v = ap₂ (λ (i : ℕ) (l : List Float). take i l) e ls.values in
    λ i. as_csr m.rows m.cols (p i) (c i) (v i)
