-- Laws of lists made row after row, and of tests over lists. Assumes nothing.
use mathlib.Core.Bool.{Bool, true, false, not, ◌&&◌, ◌||◌, and_assoc, or-false, or-true, true≢false, false≢true}
use mathlib.Core.List.{List, [], ◌∷◌, ◌++◌, map, zip, zip_with, foldl, append_assoc, append-nil, map-append}
use mathlib.Core.Path.{◌≡◌, refl, sym, ap, ap₂, ◌∙◌}
use Prim.Native.Nat.{ℕ, zero, suc, ◌+◌, ◌-◌, ◌≤◌, ◌<◌, min}
use native.Mathlib.Nat.{sub-zero, le_refl, not-suc-le-zero}
use native.Mathlib.Numerals.{add-one}
use native.Mathlib.Decide.{le_ind, dec_lt}
use native.Mathlib.Omega.{arith}
use lib.Dec.{leb, eqb}
use Rattle.std.proofs.Math.Nat.{min-eq_left, min-eq_right}
use Rattle.std.proofs.lemmas.List.{get_or_past}
use lib.ListN.{length, get_or, take, drop, set, replicate, length-set, length-replicate, length-drop, take-append-drop, drop_of_length-le, length-append, get_or-append}
use lib.Seq.{ext_get_or, get_or-set_same, get_or-set_other, drop-cons, drop-drop, slice, take_all, take_at, drop_at, get_or-append-add}
use borrow.Author.Tests.{eqb-true, eq-eqb}
use Rattle.hybit_core.proofs.BoolLaws.{and_left, and_right, and_both}
use Rattle.lent.specs.Lists.{joined, each, starts, part, cons_if, only, every, some, rises, spread}

module _ {A : Type 0} where
  slice_mid : (a b c : List A) (i j : ℕ) → i ≡ length a → j ≡ length a + length b → slice i j ((a ++ b) ++ c) ≡ b
  slice_mid a b c i j p q =
      let e : length (a ++ b) ≡ j = length-append a b ∙ sym q in
      ap (drop i) (take_at (a ++ b) c j e) ∙ drop_at a b i (sym p)

  -- the rows before r, row r, and the rest
  pub joined_split : (f : ℕ → List A) (r n : ℕ) → r ≤ n → (rest : List A) × (joined f n ≡ joined f r ++ rest)
  unfolding joined
  joined_split f r n h =
      le_ind (λ (k : ℕ). (rest : List A) × (joined f k ≡ joined f r ++ rest)) ([], sym (append-nil (joined f r)))
      (λ k l e. (e.0 ++ f k, ap (λ (s : List A). s ++ f k) e.1 ∙ append_assoc (joined f r) e.0 (f k))) n h

  pub joined_at : (f : ℕ → List A) (r n : ℕ) → r < n → (rest : List A) × (joined f n ≡ (joined f r ++ f r) ++ rest)
  unfolding joined
  joined_at f r n h = joined_split f (suc r) n h

  pub joined-suc : (f : ℕ → List A) (r : ℕ) → joined f (r + 1) ≡ joined f r ++ f r
  unfolding joined
  joined-suc f r = ap (joined f) (add-one r)

  pub length-joined-suc : (f : ℕ → List A) (r : ℕ) → length (joined f (suc r)) ≡ length (joined f r) + length (f r)
  unfolding joined
  length-joined-suc f r = length-append (joined f r) (f r)

  pub get_or-joined : (f : ℕ → List A) (r n k : ℕ) (d : A) → r < n → k < length (f r) → get_or (joined f n) (length (joined f r) + k) d ≡ get_or (f r) k d
  get_or-joined f r n k d h l =
      let s = joined_at f r n h in
      ap (λ (t : List A). get_or t (length (joined f r) + k) d) (s.1 ∙ append_assoc (joined f r) (f r) s.0)
      ∙ get_or-append-add (joined f r) (f r ++ s.0) k d ∙ get_or-append (f r) s.0 d k l

  pub length-joined-le : (f : ℕ → List A) (r n : ℕ) → r ≤ n → length (joined f r) ≤ length (joined f n)
  length-joined-le f r n h = let s = joined_split f r n h in omega (arith, ap length s.1, length-append (joined f r) s.0)

  -- f 0, f 1, ..

  pub each-suc : (f : ℕ → A) (r : ℕ) → each f (r + 1) ≡ each f r ++ (f r ∷ [])
  unfolding each
  each-suc f r = joined-suc (λ k. f k ∷ []) r

  pub length-each : (f : ℕ → A) (n : ℕ) → length (each f n) ≡ n
  unfolding each joined
  length-each f zero = refl
  length-each f (suc n) = length-append (joined (λ k. f k ∷ []) n) (f n ∷ []) ∙ ap (λ (m : ℕ). m + 1) (length-each f n) ∙ add-one n

  pub get_or-each : (f : ℕ → A) (n k : ℕ) (d : A) → k < n → get_or (each f n) k d ≡ f k
  unfolding each
  get_or-each f n k d h =
      let e : length (joined (λ k. f k ∷ []) k) + 0 ≡ k = omega (arith, length-each f k) in
      ap (λ (m : ℕ). get_or (joined (λ k. f k ∷ []) n) m d) (sym e) ∙ get_or-joined (λ k. f k ∷ []) k n 0 d h (omega arith)

module _ {A : Type 0} where
  pub get_or-starts : (f : ℕ → List A) (n r : ℕ) → r ≤ n → get_or (starts f n) r 0 ≡ length (joined f r)
  unfolding starts
  get_or-starts f n r h = get_or-each (λ r. length (joined f r)) (suc n) r 0 (omega arith)

  pub length-starts : (f : ℕ → List A) (n : ℕ) → length (starts f n) ≡ suc n
  unfolding starts
  length-starts f n = length-each (λ r. length (joined f r)) (suc n)

module _ {A B : Type 0} where
  pub joined_lengths : (f : ℕ → List A) (g : ℕ → List B) (n : ℕ) → ((r : ℕ) → length (f r) ≡ length (g r)) → length (joined f n) ≡ length (joined g n)
  unfolding joined
  joined_lengths f g zero h = refl
  joined_lengths f g (suc n) h = omega (arith, length-append (joined f n) (f n), length-append (joined g n) (g n), joined_lengths f g n h, h n)

  -- row r of a list made row after row, by pointers of rows of the same lengths
  pub part-joined : (g : ℕ → List B) (f : ℕ → List A) (n r : ℕ) → ((r : ℕ) → length (f r) ≡ length (g r)) → r < n → part (starts g n) (joined f n) r ≡ f r
  unfolding part
  part-joined g f n r same h =
      let s = joined_at f r n h in
      let i : get_or (starts g n) r 0 ≡ length (joined f r) = get_or-starts g n r (omega arith) ∙ sym (joined_lengths f g r same) in
      let j : get_or (starts g n) (r + 1) 0 ≡ length (joined f r) + length (f r) =
      get_or-starts g n (r + 1) (omega arith) ∙ ap (λ (m : ℕ). length (joined g m)) (add-one r) ∙ sym (joined_lengths f g (suc r) same) ∙ length-joined-suc f r in
      ap (slice (get_or (starts g n) r 0) (get_or (starts g n) (r + 1) 0)) s.1 ∙ slice_mid (joined f r) (f r) s.0 (get_or (starts g n) r 0) (get_or (starts g n) (r + 1) 0) i j

  pub zip_maps : {C : Type 0} (f : C → A) (g : C → B) (l : List C) → zip (map f l) (map g l) ≡ map (λ c. (f c, g c)) l
  unfolding zip zip_with
  zip_maps f g [] = refl
  zip_maps f g (c ∷ l) = ap (λ (t : List (A × B)). (f c, g c) ∷ t) (zip_maps f g l)

  pub foldl-map : {C : Type 0} (f : C → A → C) (g : B → A) (s : C) (l : List B) → foldl f s (map g l) ≡ foldl (λ (t : C) (b : B). f t (g b)) s l
  foldl-map f g s [] = refl
  foldl-map f g s (b ∷ l) = foldl-map f g (f s (g b)) l

  pub get_or-map-lt : (f : A → B) (l : List A) (k : ℕ) (d : A) (e : B) → k < length l → get_or (map f l) k e ≡ f (get_or l k d)
  get_or-map-lt f [] k d e h = absurd (not-suc-le-zero h)
  get_or-map-lt f (a ∷ l) zero d e h = refl
  get_or-map-lt f (a ∷ l) (suc k) d e h = get_or-map-lt f l k d e (omega arith)

pub map_id : {A : Type 0} (l : List A) → map (λ a. a) l ≡ l
map_id [] = refl
map_id (a ∷ l) = ap (λ (t : List _). a ∷ t) (map_id l)

-- ---- tests over lists

module _ {A : Type 0} where
  -- elements in p are all in q: keeping q first changes nothing
  pub only-only : (p q : A → Bool) (l : List A) → every (λ a. not (p a) || q a) l ≡ true → only p (only q l) ≡ only p l
  unfolding only every
  only-only p q [] e = refl
  only-only p q (a ∷ l) e = go (p a) (q a) refl e (only-only p q l (and_right (not (p a) || q a) (every (λ a. not (p a) || q a) l) e))
    where
      go : (s t : Bool) → p a ≡ s → ((not s || t) && every (λ a. not (p a) || q a) l) ≡ true → only p (only q l) ≡ only p l
          → only p (cons_if t a (only q l)) ≡ cons_if s a (only p l)
      go true true x e h = ap (λ (b : Bool). cons_if b a (only p (only q l))) x ∙ ap (λ (m : List A). a ∷ m) h
      go true false x e h = absurd (false≢true e)
      go false true x e h = ap (λ (b : Bool). cons_if b a (only p (only q l))) x ∙ h
      go false false x e h = h

  pub every-all : (p : A → Bool) (l : List A) → ((a : A) → p a ≡ true) → every p l ≡ true
  unfolding every
  every-all p [] h = refl
  every-all p (a ∷ l) h = and_both (p a) (every p l) (h a) (every-all p l h)

  pub length-only : (p : A → Bool) (l : List A) → length (only p l) ≤ length l
  unfolding only
  length-only p [] = le_refl 0
  length-only p (a ∷ l) = go (p a) (length-only p l)
    where
      go : (t : Bool) → length (only p l) ≤ length l → length (cons_if t a (only p l)) ≤ suc (length l)
      go true h = omega arith
      go false h = omega arith

  pub every-only : (p q : A → Bool) (l : List A) → every p l ≡ true → every p (only q l) ≡ true
  unfolding only every
  every-only p q [] e = refl
  every-only p q (a ∷ l) e = go (q a) (every-only p q l (and_right (p a) (every p l) e))
    where
      go : (t : Bool) → every p (only q l) ≡ true → every p (cons_if t a (only q l)) ≡ true
      go true h = and_both (p a) (every p (only q l)) (and_left (p a) (every p l) e) h
      go false h = h

  pub every_append : (p : A → Bool) (l m : List A) → every p l ≡ true → every p m ≡ true → every p (l ++ m) ≡ true
  unfolding every
  every_append p [] m d e = e
  every_append p (a ∷ l) m d e = and_both (p a) (every p (l ++ m)) (and_left (p a) (every p l) d) (every_append p l m (and_right (p a) (every p l) d) e)

  pub every_join : (p : A → Bool) (l m : List A) → every p (l ++ m) ≡ (every p l && every p m)
  unfolding every
  every_join p [] m = refl
  every_join p (a ∷ l) m = ap (λ (t : Bool). p a && t) (every_join p l m) ∙ sym (and_assoc (p a) (every p l) (every p m))

  pub every-joined : (p : A → Bool) (f : ℕ → List A) (n : ℕ) → ((r : ℕ) → r < n → every p (f r) ≡ true) → every p (joined f n) ≡ true
  unfolding every joined
  every-joined p f zero h = refl
  every-joined p f (suc n) h = every_append p (joined f n) (f n) (every-joined p f n (λ r l. h r (omega arith))) (h n (omega arith))

pub every_map : {A B : Type 0} (p : B → Bool) (f : A → B) (l : List A) → every p (map f l) ≡ every (λ a. p (f a)) l
unfolding every
every_map p f [] = refl
every_map p f (a ∷ l) = ap (λ (t : Bool). p (f a) && t) (every_map p f l)

pub some-map : {A B : Type 0} (p : B → Bool) (f : A → B) (l : List A) → some p (map f l) ≡ some (λ a. p (f a)) l
unfolding some
some-map p f [] = refl
some-map p f (a ∷ l) = ap (λ (t : Bool). p (f a) || t) (some-map p f l)

pub every-get_or : {A : Type 0} (p : A → Bool) (l : List A) (k : ℕ) (d : A) → every p l ≡ true → k < length l → p (get_or l k d) ≡ true
unfolding every
every-get_or p [] k d e h = absurd (not-suc-le-zero h)
every-get_or p (a ∷ l) zero d e h = and_left (p a) (every p l) e
every-get_or p (a ∷ l) (suc k) d e h = every-get_or p l k d (and_right (p a) (every p l) e) (omega arith)

pub joined_cong : {A : Type 0} (f g : ℕ → List A) (n : ℕ) → ((r : ℕ) → r < n → f r ≡ g r) → joined f n ≡ joined g n
unfolding joined
joined_cong f g zero h = refl
joined_cong f g (suc n) h = ap₂ (λ (s t : List _). s ++ t) (joined_cong f g n (λ r l. h r (omega arith))) (h n (omega arith))

pub joined-le : {A B : Type 0} (f : ℕ → List A) (g : ℕ → List B) (n : ℕ) → ((r : ℕ) → r < n → length (f r) ≤ length (g r)) → length (joined f n) ≤ length (joined g n)
unfolding joined
joined-le f g zero h = le_refl 0
joined-le f g (suc n) h = omega (arith, length-append (joined f n) (f n), length-append (joined g n) (g n), joined-le f g n (λ r l. h r (omega arith)), h n (omega arith))

pub every_drop : {A : Type 0} (p : A → Bool) (k : ℕ) (l : List A) → every p l ≡ true → every p (drop k l) ≡ true
unfolding every
every_drop p zero l e = e
every_drop p (suc k) [] e = refl
every_drop p (suc k) (a ∷ l) e = every_drop p k l (and_right (p a) (every p l) e)

pub every_take : {A : Type 0} (p : A → Bool) (k : ℕ) (l : List A) → every p l ≡ true → every p (take k l) ≡ true
unfolding every
every_take p zero l e = refl
every_take p (suc k) [] e = refl
every_take p (suc k) (a ∷ l) e = and_both (p a) (every p (take k l)) (and_left (p a) (every p l) e) (every_take p k l (and_right (p a) (every p l) e))

pub every-part : {A : Type 0} (p : A → Bool) (ptr : List ℕ) (l : List A) (r : ℕ) → every p l ≡ true → every p (part ptr l r) ≡ true
unfolding part
every-part p ptr l r e = every_drop p (get_or ptr r 0) (take (get_or ptr (r + 1) 0) l) (every_take p (get_or ptr (r + 1) 0) l e)

-- the places from a up to b, as a part of a lent list has them
-- what follows place a: up to place b, and from there on
pub drop_apart : {A : Type 0} (a b : ℕ) (l : List A) → a ≤ b → drop a l ≡ take (b - a) (drop a l) ++ drop b l
drop_apart {A} a b l h =
    let end : a + (b - a) ≡ b = omega arith in
    sym (take-append-drop (b - a) (drop a l)) ∙ ap (λ (t : List A). take (b - a) (drop a l) ++ t) (drop-drop (b - a) a l ∙ ap (λ (j : ℕ). drop j l) end)

pub drop-rest : {A : Type 0} (a : ℕ) (l : List A) → take (length l - a) (drop a l) ≡ drop a l
drop-rest a l = take_all (length l - a) (drop a l) (omega (arith, length-drop a l))

pub slice_lent : {A : Type 0} (a b : ℕ) (l : List A) → take (b - a) (drop a l) ≡ slice a b l
slice_lent zero b l = ap (λ (n : ℕ). take n l) (sub-zero b)
slice_lent (suc a) zero l = let e : 0 - suc a ≡ 0 = omega arith in ap (λ (n : ℕ). take n (drop (suc a) l)) e
slice_lent {A} (suc a) (suc b) [] = none (suc b - suc a)
  where
    none : (n : ℕ) → ◌≡◌ {A = List A} (take n []) []
    none zero = refl
    none (suc n) = refl
slice_lent (suc a) (suc b) (x ∷ l) = let e : suc b - suc a ≡ b - a = omega arith in ap (λ (n : ℕ). take n (drop a l)) e ∙ slice_lent a b l

-- row r, from a, its pointer, up to b, the next one
pub part_lent : {A : Type 0} (ptr : List ℕ) (l : List A) (r a b : ℕ) → a ≡ get_or ptr r 0 → b ≡ get_or ptr (r + 1) 0 → take (b - a) (drop a l) ≡ part ptr l r
unfolding part
part_lent ptr l r a b p q = slice_lent a b l ∙ ap₂ (λ (i j : ℕ). slice i j l) p q

-- the same of a list that may be shorter than the next pointer: b is where the part ends in it
module _ {A : Type 0} (ptr : List ℕ) (l : List A) (r e b : ℕ) (q : e ≡ get_or ptr (r + 1) 0) (k : b ≡ min e (length l)) where
  part_end : slice (get_or ptr r 0) b l ≡ part ptr l r
  unfolding part
  part_end = go (dec_lt (length l) e)
    where
      go : Dec (length l < e) → slice (get_or ptr r 0) b l ≡ slice (get_or ptr r 0) (get_or ptr (r + 1) 0) l
      go (yes h) =
          ap (λ (t : List A). drop (get_or ptr r 0) t) (take_all b l (omega (arith, k ∙ min-eq_right (omega arith))) ∙ sym (take_all (get_or ptr (r + 1) 0) l (omega (arith, q))))
      go (no h) = ap (λ (n : ℕ). slice (get_or ptr r 0) n l) (k ∙ min-eq_left (omega arith) ∙ q)

  pub part_within : (a : ℕ) → a ≡ get_or ptr r 0 → take (b - a) (drop a l) ≡ part ptr l r
  part_within a p = slice_lent a b l ∙ ap (λ (i : ℕ). slice i b l) p ∙ part_end

  pub part_empty : (a : ℕ) → a ≡ get_or ptr r 0 → b ≤ a → [] ≡ part ptr l r
  part_empty a p h = let z : b - a ≡ 0 = omega arith in ap (λ (n : ℕ). take n (drop a l)) (sym z) ∙ part_within a p

pub part_past : {A : Type 0} (ptr : List ℕ) (l : List A) (r : ℕ) → length ptr ≤ r → [] ≡ part ptr l r
part_past ptr l r h =
    part_empty ptr l r 0 0 (sym (get_or_past ptr (r + 1) 0 (omega arith))) (sym (min-eq_left (omega arith))) 0 (sym (get_or_past ptr r 0 h)) (omega arith)

pub every-zip : {A B : Type 0} (p : A → Bool) (q : B → Bool) (l : List A) (m : List B) → every p l ≡ true → every q m ≡ true → every (λ (e : A × B). p e.0 && q e.1) (zip l m) ≡ true
unfolding every zip zip_with
every-zip p q [] m d e = refl
every-zip p q (a ∷ l) [] d e = refl
every-zip p q (a ∷ l) (b ∷ m) d e =
    and_both (p a && q b) (every (λ (e : _ × _). p e.0 && q e.1) (zip l m)) (and_both (p a) (q b) (and_left (p a) (every p l) d) (and_left (q b) (every q m) e))
    (every-zip p q l m (and_right (p a) (every p l) d) (and_right (q b) (every q m) e))

pub spread-append : {A B : Type 0} (f : A → List B) (l m : List A) → spread f (l ++ m) ≡ spread f l ++ spread f m
unfolding spread
spread-append f [] m = refl
spread-append f (a ∷ l) m = ap (λ (t : List _). f a ++ t) (spread-append f l m) ∙ sym (append_assoc (f a) (spread f l) (spread f m))

pub only-append : {A : Type 0} (p : A → Bool) (l m : List A) → only p (l ++ m) ≡ only p l ++ only p m
unfolding only
only-append p [] m = refl
only-append p (a ∷ l) m = go (p a) (only-append p l m)
  where
    go : (t : Bool) → only p (l ++ m) ≡ only p l ++ only p m → cons_if t a (only p (l ++ m)) ≡ cons_if t a (only p l) ++ only p m
    go true e = ap (λ (s : List _). a ∷ s) e
    go false e = e

-- t is the test of the last element, as the code finds it
pub only_snoc : {A : Type 0} (p : A → Bool) (l : List A) (a : A) (t : Bool) → t ≡ p a → only p (l ++ (a ∷ [])) ≡ only p l ++ cons_if t a []
unfolding only
only_snoc {A} p l a t e = only-append p l (a ∷ []) ∙ ap (λ (s : Bool). only p l ++ cons_if s a []) (sym e)

pub only-map : {A B : Type 0} (q : B → Bool) (f : A → B) (l : List A) → only q (map f l) ≡ map f (only (λ a. q (f a)) l)
unfolding only
only-map q f [] = refl
only-map {A} {B} q f (a ∷ l) = ap (cons_if (q (f a)) (f a)) (only-map q f l) ∙ go (q (f a))
  where
    go : (t : Bool) → cons_if t (f a) (map f (only (λ a. q (f a)) l)) ≡ map f (cons_if t a (only (λ a. q (f a)) l))
    go true = refl
    go false = refl

-- row after row

pub map-joined : {A B : Type 0} (g : A → B) (f : ℕ → List A) (n : ℕ) → map g (joined f n) ≡ joined (λ r. map g (f r)) n
unfolding joined
map-joined g f zero = refl
map-joined {A} {B} g f (suc n) = map-append g (joined f n) (f n) ∙ ap (λ (l : List B). l ++ map g (f n)) (map-joined g f n)

pub only-joined : {A : Type 0} (p : A → Bool) (f : ℕ → List A) (n : ℕ) → only p (joined f n) ≡ joined (λ r. only p (f r)) n
unfolding joined only
only-joined p f zero = refl
only-joined {A} p f (suc n) = only-append p (joined f n) (f n) ∙ ap (λ (l : List A). l ++ only p (f n)) (only-joined p f n)

-- ---- f 0, f 1, .. with one place stored to, and place by place

pub each_set : {A : Type 0} (d : A) (f g : ℕ → A) (n i : ℕ) (l : List A) (a : A) → l ≡ each f n → i < n → a ≡ g i → ((j : ℕ) → j < n → (j ≡ i → ⊥) → g j ≡ f j) → set l i a ≡ each g n
each_set {A} d f g n i l a e h ea s = ext_get_or d (set l i a) (each g n) (length-set l i a ∙ size ∙ sym (length-each g n)) places
  where
    size : length l ≡ n
    size = ap length e ∙ length-each f n

    other : (j : ℕ) → j < n → (j ≡ i → ⊥) → get_or (set l i a) j d ≡ get_or (each g n) j d
    other j b q = get_or-set_other l i j a d q ∙ ap (λ (t : List A). get_or t j d) e ∙ get_or-each f n j d b ∙ sym (s j b q) ∙ sym (get_or-each g n j d b)

    places : (j : ℕ) → j < length (set l i a) → get_or (set l i a) j d ≡ get_or (each g n) j d
    places j b = go (dec_lt j i) (dec_lt i j)
      where
        bn : j < n
        bn = omega (arith, length-set l i a, size)

        go : Dec (j < i) → Dec (i < j) → get_or (set l i a) j d ≡ get_or (each g n) j d
        go (yes x) y = other j bn (λ q. omega arith)
        go (no x) (yes y) = other j bn (λ q. omega arith)
        go (no x) (no y) =
            let q : j ≡ i = omega arith in
            ap (λ (k : ℕ). get_or (set l i a) k d) q ∙ get_or-set_same l i a d (omega (arith, size)) ∙ ea ∙ sym (ap (λ (k : ℕ). get_or (each g n) k d) q ∙ get_or-each g n i d h)

pub each_cong : {A : Type 0} (f g : ℕ → A) (n : ℕ) → ((k : ℕ) → k < n → f k ≡ g k) → each f n ≡ each g n
unfolding each
each_cong f g n h = joined_cong (λ k. f k ∷ []) (λ k. g k ∷ []) n (λ k l. ap (λ (a : _). a ∷ []) (h k l))

-- a list is the list of its places
pub each_is : {A : Type 0} (d : A) (f : ℕ → A) (n : ℕ) (l : List A) → length l ≡ n → ((k : ℕ) → k < n → get_or l k d ≡ f k) → l ≡ each f n
each_is d f n l e h = ext_get_or d l (each f n) (e ∙ sym (length-each f n)) (λ k b. h k (omega arith) ∙ sym (get_or-each f n k d (omega arith)))

pub each_same : {A : Type 0} (z : A) (n : ℕ) → each (λ k. z) n ≡ replicate n z
each_same z n = sym (each_is z (λ k. z) n (replicate n z) (length-replicate n z) (λ k h. get_d_replicate k n h))
  where
    get_d_replicate : (k n : ℕ) → k < n → get_or (replicate n z) k z ≡ z
    get_d_replicate k zero h = absurd (not-suc-le-zero h)
    get_d_replicate zero (suc n) h = refl
    get_d_replicate (suc k) (suc n) h = get_d_replicate k n (omega arith)

-- ---- every element of a list passes, as a loop over it finds: what is left decides

module _ {A : Type 0} (p : A → Bool) (l : List A) (i : ℕ) (inv : every p l ≡ every p (drop i l)) where
  every_step : (d : A) → i < length l → every p l ≡ (p (get_or l i d) && every p (drop (i + 1) l))
  unfolding every
  every_step d h = inv ∙ rw (add-one, drop-cons l i d)

  pub every_more : (d : A) → i < length l → true ≡ p (get_or l i d) → every p l ≡ every p (drop (i + 1) l)
  every_more d h e = every_step d h ∙ rw (← e)

  pub every_fails : (d : A) → i < length l → false ≡ p (get_or l i d) → false ≡ every p l
  every_fails d h e = sym (every_step d h ∙ rw (← e))

  pub every_done : length l ≤ i → true ≡ every p l
  unfolding every
  every_done h = sym (inv ∙ rw drop_of_length-le)

-- ---- no element of a list is below the one before it, as a loop over it finds: a is the one before what is left

module _ (l : List ℕ) (a i : ℕ) (inv : rises 0 l ≡ rises a (drop i l)) where
  rises_step : i < length l → rises 0 l ≡ (leb a (get_or l i 0) && rises (get_or l i 0) (drop (i + 1) l))
  unfolding rises
  rises_step h = inv ∙ rw (add-one, drop-cons l i 0)

  pub rises_more : i < length l → true ≡ leb a (get_or l i 0) → rises 0 l ≡ rises (get_or l i 0) (drop (i + 1) l)
  rises_more h e = rises_step h ∙ rw (← e)

  pub rises_fails : i < length l → false ≡ leb a (get_or l i 0) → false ≡ rises 0 l
  rises_fails h e = sym (rises_step h ∙ rw (← e))

  pub rises_done : length l ≤ i → true ≡ rises 0 l
  unfolding rises
  rises_done h = sym (inv ∙ rw drop_of_length-le)

-- ---- a test of one of two lists side by side

pub every_right : {A B : Type 0} (p : B → Bool) (l : List A) (m : List B) → every p m ≡ true → every (λ (e : A × B). p e.1) (zip l m) ≡ true
unfolding every zip zip_with
every_right p [] m e = refl
every_right p (a ∷ l) [] e = refl
every_right {A} {B} p (a ∷ l) (b ∷ m) e = and_both (p b) (every (λ (e : A × B). p e.1) (zip l m)) (and_left (p b) (every p m) e) (every_right p l m (and_right (p b) (every p m) e))

pub every-left : {A B : Type 0} (p : A → Bool) (l : List A) (m : List B) → every p l ≡ true → every (λ (e : A × B). p e.0) (zip l m) ≡ true
unfolding every zip zip_with
every-left p [] m e = refl
every-left p (a ∷ l) [] e = refl
every-left p (a ∷ l) (b ∷ m) e = and_both (p a) (every (λ (e : _ × _). p e.0) (zip l m)) (and_left (p a) (every p l) e) (every-left p l m (and_right (p a) (every p l) e))

pub some_left : {A B : Type 0} (p : A → Bool) (l : List A) (m : List B) → length l ≡ length m → some (λ (e : A × B). p e.0) (zip l m) ≡ some p l
unfolding some zip zip_with
some_left p [] m e = refl
some_left p (a ∷ l) [] e = absurd (omega arith)
some_left p (a ∷ l) (b ∷ m) e = ap (λ (t : Bool). p a || t) (some_left p l m (omega arith))

-- an element that passes, of a list of which every element passes another test
pub some-every : {A : Type 0} (p q : A → Bool) (l : List A) → some p l ≡ true → every q l ≡ true → (a : A) × (p a ≡ true) × (q a ≡ true)
unfolding some every
some-every p q [] s e = absurd (false≢true s)
some-every p q (a ∷ l) s e = go (p a) refl s (λ y. some-every p q l y (and_right (q a) (every q l) e))
  where
    go : (t : Bool) → p a ≡ t → (t || some p l) ≡ true → (some p l ≡ true → (b : _) × (p b ≡ true) × (q b ≡ true)) → (b : _) × (p b ≡ true) × (q b ≡ true)
    go true x y f = (a, x, and_left (q a) (every q l) e)
    go false x y f = f y

-- ---- some element of a list passes: one element more

pub some-none : {A : Type 0} (p : A → Bool) → some p [] ≡ false
unfolding some
some-none p = refl

pub some_snoc : {A : Type 0} (p : A → Bool) (l : List A) (a : A) → some p (l ++ (a ∷ [])) ≡ (some p l || p a)
unfolding some
some_snoc p [] a = or-false (p a)
some_snoc p (b ∷ l) a = ap (λ (t : Bool). p b || t) (some_snoc p l a) ∙ sym (or_assoc (p b) (some p l) (p a))
  where
    or_assoc : (s t u : Bool) → ((s || t) || u) ≡ (s || (t || u))
    or_assoc true t u = refl
    or_assoc false t u = refl

-- ---- tests of a list in two parts, and of one of its elements

module _ {A : Type 0} (p : A → Bool) where
  pub every_front : (l m : List A) → every p (l ++ m) ≡ true → every p l ≡ true
  unfolding every
  every_front [] m e = refl
  every_front (a ∷ l) m e = and_both (p a) (every p l) (and_left (p a) (every p (l ++ m)) e) (every_front l m (and_right (p a) (every p (l ++ m)) e))

  pub every_back : (l m : List A) → every p (l ++ m) ≡ true → every p m ≡ true
  unfolding every
  every_back [] m e = e
  every_back (a ∷ l) m e = every_back l m (and_right (p a) (every p (l ++ m)) e)

  pub some-get_or : (l : List A) (k : ℕ) (d : A) → k < length l → p (get_or l k d) ≡ true → some p l ≡ true
  unfolding some
  some-get_or [] k d h e = absurd (not-suc-le-zero h)
  some-get_or (a ∷ l) zero d h e = ap (λ (t : Bool). t || some p l) e
  some-get_or (a ∷ l) (suc k) d h e = ap (λ (t : Bool). p a || t) (some-get_or l k d (omega arith) e) ∙ or-true (p a)

-- the places from a to b, as a part of a list in three parts
pub part_mid : {A : Type 0} (a b : ℕ) (front mid rest l : List A) → l ≡ (front ++ mid) ++ rest → length front ≡ a → b ≡ a + length mid → take (b - a) (drop a l) ≡ mid
part_mid {A} a b front mid rest l e h k =
    ap (λ (t : List A). take (b - a) (drop a t)) (e ∙ append_assoc front mid rest)
    ∙ ap (take (b - a)) (drop_at front (mid ++ rest) a h) ∙ take_at mid rest (b - a) (omega arith)

-- ---- spread

pub spread-map : {A B C : Type 0} (f : B → List C) (g : A → B) (l : List A) → spread f (map g l) ≡ spread (λ a. f (g a)) l
unfolding spread
spread-map {C = C} f g [] = refl
spread-map {C = C} f g (a ∷ l) = ap (λ (t : List C). f (g a) ++ t) (spread-map f g l)

pub spread_lengths : {A B C : Type 0} (f : A → List B) (g : A → List C) (l : List A) → ((a : A) → length (f a) ≡ length (g a)) → length (spread f l) ≡ length (spread g l)
unfolding spread
spread_lengths f g [] h = refl
spread_lengths f g (a ∷ l) h = length-append (f a) (spread f l) ∙ ap₂ (λ (m n : ℕ). m + n) (h a) (spread_lengths f g l h) ∙ sym (length-append (g a) (spread g l))

-- ---- what every and some element says

pub only_none : {A : Type 0} (p : A → Bool) (l : List A) → some p l ≡ false → only p l ≡ []
unfolding some only
only_none p [] h = refl
only_none {A} p (a ∷ l) h = go (p a) h (only_none p l)
  where
    go : (t : Bool) → (t || some p l) ≡ false → (some p l ≡ false → only p l ≡ []) → cons_if t a (only p l) ≡ []
    go true e f = absurd (true≢false e)
    go false e f = f e

-- a test that follows from two others
pub every_by : {A : Type 0} (p q t : A → Bool) (l : List A) → ((a : A) → p a ≡ true → q a ≡ true → t a ≡ true) → every p l ≡ true → every q l ≡ true → every t l ≡ true
unfolding every
every_by p q t [] h e f = refl
every_by p q t (a ∷ l) h e f =
    and_both (t a) (every t l) (h a (and_left (p a) (every p l) e) (and_left (q a) (every q l) f))
    (every_by p q t l h (and_right (p a) (every p l) e) (and_right (q a) (every q l) f))

-- one that passes passes a weaker test
pub some_by : {A : Type 0} (p q : A → Bool) (l : List A) → ((a : A) → p a ≡ true → q a ≡ true) → some p l ≡ true → some q l ≡ true
unfolding some
some_by p q [] h e = e
some_by p q (a ∷ l) h e = go (p a) refl e (some_by p q l h)
  where
    go : (t : Bool) → p a ≡ t → (t || some p l) ≡ true → (some p l ≡ true → some q l ≡ true) → (q a || some q l) ≡ true
    go true x y f = ap (λ (b : Bool). b || some q l) (h a x)
    go false x y f = ap (λ (b : Bool). q a || b) (f y) ∙ or-true (q a)

pub every-at : (p : ℕ → Bool) (l : List ℕ) (c : ℕ) → every p l ≡ true → some (λ d. eqb d c) l ≡ true → p c ≡ true
every-at p l c e s = let w = some-every (λ d. eqb d c) p l s e in ap p (sym (eqb-true w.0 c w.1)) ∙ w.2

pub every-listed : (p : ℕ → Bool) (l : List ℕ) → ((c : ℕ) → some (λ d. eqb d c) l ≡ true → p c ≡ true) → every p l ≡ true
unfolding every some
every-listed p [] h = refl
every-listed p (a ∷ l) h =
    and_both (p a) (every p l) (h a (ap (λ (t : Bool). t || some (λ d. eqb d a) l) (eq-eqb a a refl)))
    (every-listed p l (λ c s. h c (ap (λ (t : Bool). eqb a c || t) s ∙ or-true (eqb a c))))

-- the front of a list of zeros
pub zeros_front : {A : Type 0} (z : A) (m n : ℕ) → m ≤ n → take m (replicate n z) ≡ replicate m z
zeros_front z zero n h = refl
zeros_front z (suc m) zero h = absurd (omega arith)
zeros_front z (suc m) (suc n) h = ap (λ (l : List _). z ∷ l) (zeros_front z m n (omega arith))
