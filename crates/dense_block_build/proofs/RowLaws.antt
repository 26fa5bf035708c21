-- Entries of one row added to the values of the blocks of its block row. Assumes nothing.
use mathlib.Core.Bool.{Bool, true, false, cond}
use mathlib.Core.List.{List, [], ◌∷◌, ◌++◌}
use mathlib.Core.Path.{◌≡◌, refl, sym, ap, ap₂, ◌∙◌}
use Prim.Native.Nat.{ℕ, ◌+◌, ◌-◌, ◌*◌, ◌/◌, ◌%◌, ◌≤◌, ◌<◌}
use native.Mathlib.Nat.{mod-lt, mod-eq_of_lt, mul-zero, mul_assoc, add-mul, mul-le-mul_right, mul-add-mod_self_right, mul-add-div, mul-lt-mul_of_pos_left, one-mul, add-zero, div-add-mod', div-eq_of_lt, div-eq_of_lt-le, div-add-mod, div-lt_iff_lt-mul}
use native.Mathlib.Numerals.{add-one}
use native.Mathlib.Decide.{dec_lt}
use native.Mathlib.Omega.{arith}
use lib.Dec.{eqb}
use lib.ListN.{length, get_or, take, drop, length-append, length-drop, get_or-append}
use lib.Seq.{get_or-take, get_or-drop, get_or-append-add, length-take-le}
use lib.Ieee.{Float, nan}
use borrow.Author.Tests.{eq-eqb, ne_eqb, eqb-true}
use Rattle.hybit_core.proofs.BoolLaws.{same_test, and_left, and_right}
use Rattle.lent.specs.Lists.{only, cons_if, every}
use Rattle.lent.proofs.ListLaws.{each_cong, each_is, get_or-each, length-each}
use Rattle.csr32.specs.Csr.{Entry, of_column}
use Rattle.dense_block_build.specs.Making.{add_values, in_block, in_row}
use Rattle.dense_block_build.proofs.MergeLaws.{at_place, add_none, add-only}

-- ---- tests that agree

pub only_same : {A : Type 0} (r p q : A → Bool) (l : List A) → ((a : A) → r a ≡ true → p a ≡ q a) → every r l ≡ true → only p l ≡ only q l
unfolding only every
only_same r p q [] h e = refl
only_same {A} r p q (a ∷ l) h e = ap₂ (λ (t : Bool) (m : List A). cons_if t a m) (h a (and_left (r a) (every r l) e)) (only_same r p q l h (and_right (r a) (every r l) e))

pub only_never : {A : Type 0} (l : List A) → only (λ a. false) l ≡ []
unfolding only
only_never [] = refl
only_never (a ∷ l) = only_never l

-- ---- a part of a list is replaced, by place

module _ {A : Type 0} (d : A) (a b : ℕ) (l new : List A) (o : a ≤ b) (h : b ≤ length l) (e : length new ≡ b - a) where
  front : length (take a l) ≡ a
  front = length-take-le a l (omega arith)

  pub put_length : length (take a l ++ (new ++ drop (b - a) (drop a l))) ≡ length l
  put_length = omega (arith, length-append (take a l) (new ++ drop (b - a) (drop a l)), length-append new (drop (b - a) (drop a l)), length-drop (b - a) (drop a l), length-drop a l, front, e)

  pub put_before : (q : ℕ) → q < a → get_or (take a l ++ (new ++ drop (b - a) (drop a l))) q d ≡ get_or l q d
  put_before q x = get_or-append (take a l) (new ++ drop (b - a) (drop a l)) d q (omega (arith, front)) ∙ get_or-take a l q d x

  pub put_in : (q : ℕ) → a ≤ q → q < b → get_or (take a l ++ (new ++ drop (b - a) (drop a l))) q d ≡ get_or new (q - a) d
  put_in q x y =
      let k : length (take a l) + (q - a) ≡ q = omega (arith, front) in
      ap (λ (m : ℕ). get_or (take a l ++ (new ++ drop (b - a) (drop a l))) m d) (sym k) ∙ get_or-append-add (take a l) (new ++ drop (b - a) (drop a l)) (q - a) d
      ∙ get_or-append new (drop (b - a) (drop a l)) d (q - a) (omega (arith, e))

  pub put_after : (q : ℕ) → b ≤ q → get_or (take a l ++ (new ++ drop (b - a) (drop a l))) q d ≡ get_or l q d
  put_after q x =
      let k : length (take a l) + (length new + (q - b)) ≡ q = omega (arith, front, e) in
      let m : a + (b - a + (q - b)) ≡ q = omega arith in
      ap (λ (m : ℕ). get_or (take a l ++ (new ++ drop (b - a) (drop a l))) m d) (sym k) ∙ get_or-append-add (take a l) (new ++ drop (b - a) (drop a l)) (length new + (q - b)) d
      ∙ get_or-append-add new (drop (b - a) (drop a l)) (q - b) d ∙ get_or-drop (b - a) (drop a l) (q - b) d ∙ get_or-drop a l (b - a + (q - b)) d ∙ ap (λ (m : ℕ). get_or l m d) m

  pub part_at : (q : ℕ) → q < b - a → get_or (take (b - a) (drop a l)) q d ≡ get_or l (a + q) d
  part_at q x = get_or-take (b - a) (drop a l) q d x ∙ get_or-drop a l q d

-- ---- entries added after others

module _ (w i : ℕ) (cs : List ℕ) where
  -- the column of place q
  abbrev pub column_at : ℕ → ℕ
  column_at q = w * get_or cs (q / (w * w)) 0 + q % w

  abbrev pub value_at : List Entry → List Float → ℕ → Bool → Float
  value_at es old q t = cond t (add_values (get_or old q nan) (only (of_column (column_at q)) es)) (get_or old q nan)

  pub row_length : (es : List Entry) (old : List Float) → length (in_row w i cs es old) ≡ length cs * (w * w)
  unfolding in_row
  row_length es old = length-each (λ q. value_at es old q (eqb (q % (w * w) / w) i)) (length cs * (w * w))

  pub row_at_lem : (es : List Entry) (old : List Float) (q : ℕ) → q < length cs * (w * w) → get_or (in_row w i cs es old) q nan ≡ value_at es old q (eqb (q % (w * w) / w) i)
  unfolding in_row
  row_at_lem es old q h = get_or-each (λ q. value_at es old q (eqb (q % (w * w) / w) i)) (length cs * (w * w)) q nan h

  pub row_none : (old : List Float) → length old ≡ length cs * (w * w) → old ≡ in_row w i cs [] old
  unfolding in_row only add_values
  row_none old e = each_is nan (λ q. value_at [] old q (eqb (q % (w * w) / w) i)) (length cs * (w * w)) old e (λ q h. go q (eqb (q % (w * w) / w) i))
    where
      go : (q : ℕ) (t : Bool) → get_or old q nan ≡ value_at [] old q t
      go q true = refl
      go q false = refl

  pub row_append : (es fs : List Entry) (old : List Float) → in_row w i cs fs (in_row w i cs es old) ≡ in_row w i cs (es ++ fs) old
  unfolding in_row
  row_append es fs old =
      each_cong (λ q. value_at fs (in_row w i cs es old) q (eqb (q % (w * w) / w) i)) (λ q. value_at (es ++ fs) old q (eqb (q % (w * w) / w) i)) (length cs * (w * w))
      (λ q h. go q (eqb (q % (w * w) / w) i) (row_at_lem es old q h))
    where
      go : (q : ℕ) (t : Bool) → get_or (in_row w i cs es old) q nan ≡ value_at es old q t → value_at fs (in_row w i cs es old) q t ≡ value_at (es ++ fs) old q t
      go q true e = ap (λ (x : Float). add_values x (only (of_column (column_at q)) fs)) e ∙ sym (add-only (of_column (column_at q)) (get_or old q nan) es fs)
      go q false e = e

-- ---- entries of one block

-- a column of block column key: its place among the block's columns decides
same_column : (w key c j : ℕ) → 0 < w → j < w → c / w ≡ key → eqb c (w * key + j) ≡ eqb (c % w) j
same_column w key c j pos small e =
    let whole : w * key + c % w ≡ c = ap (λ (k : ℕ). w * k + c % w) (sym e) ∙ div-add-mod c w in
    same_test (eqb c (w * key + j)) (eqb (c % w) j) (λ t. eq-eqb (c % w) j (omega (arith, eqb-true c (w * key + j) t, whole)))
    (λ t. eq-eqb c (w * key + j) (omega (arith, eqb-true (c % w) j t, whole)))

other_column : (w key other c j : ℕ) → 0 < w → j < w → (other ≡ key → ⊥) → c / w ≡ key → eqb c (w * other + j) ≡ false
other_column w key other c j pos small n e =
    ne_eqb c (w * other + j) (λ q. n (sym (ap (λ (k : ℕ). k / w) q ∙ mul-add-div pos other j ∙ ap (λ (k : ℕ). other + k) (div-eq_of_lt small) ∙ add-zero other) ∙ e))

-- the entries are all in the block at place p of the block columns
module _ (w i : ℕ) (cs : List ℕ) (p key : ℕ) (pos : 0 < w) (there : p < length cs) (is : get_or cs p 0 ≡ key) (alone : (k : ℕ) → k < length cs → get_or cs k 0 ≡ key → k ≡ p) (es : List Entry) (all : every (λ (e : Entry). eqb (e.0 / w) key) es ≡ true) where
  square : 0 < w * w
  square = omega (arith, mul-lt-mul_of_pos_left pos pos, mul-zero w)

  here : (q : ℕ) → p * (w * w) ≤ q → q < p * (w * w) + w * w → q / (w * w) ≡ p
  here q a b = div-eq_of_lt-le (w * w) a (omega (arith, add-mul p 1 (w * w), one-mul (w * w)))

  not-here : (q : ℕ) → (p * (w * w) ≤ q → q < p * (w * w) + w * w → ⊥) → q / (w * w) ≡ p → ⊥
  not-here q n e =
      let m : q % (w * w) < w * w = mod-lt q square in
      let x : p * (w * w) + q % (w * w) ≡ q = ap (λ (k : ℕ). k * (w * w) + q % (w * w)) (sym e) ∙ div-add-mod' q (w * w) in
      n (omega arith) (omega arith)

  in_block_lem : (j : ℕ) → j < w → only (of_column (w * key + j)) es ≡ only (at_place w j) es
  in_block_lem j h = only_same (λ (e : Entry). eqb (e.0 / w) key) (of_column (w * key + j)) (at_place w j) es (λ e t. same_column w key e.0 j pos h (eqb-true (e.0 / w) key t)) all

  in_other : (k j : ℕ) → k < length cs → (k ≡ p → ⊥) → j < w → only (of_column (w * get_or cs k 0 + j)) es ≡ []
  in_other k j a b h =
      only_same (λ (e : Entry). eqb (e.0 / w) key) (of_column (w * get_or cs k 0 + j)) (λ e. false) es
      (λ e t. other_column w key (get_or cs k 0) e.0 j pos h (λ q. b (alone k a q)) (eqb-true (e.0 / w) key t)) all
      ∙ only_never es

  abbrev at : ℕ
  at = p * (w * w)

  abbrev to : ℕ
  to = p * (w * w) + w * w

  -- the block lies inside the values
  pub run_room : (n : ℕ) → n ≡ length cs * (w * w) → to ≤ n
  run_room n e = omega (arith, mul-le-mul_right (w * w) there, add-mul p 1 (w * w), one-mul (w * w), ap (λ (k : ℕ). k * (w * w)) (add-one p))

  pub run_part : (out : List Float) → length out ≡ length cs * (w * w) → length (take (to - at) (drop at out)) ≡ w * w
  run_part out e =
      let k : to - at ≡ w * w = omega arith in
      length-take-le (to - at) (drop at out) (omega (arith, run_room (length out) e, length-drop at out)) ∙ k

  pub run_adds : (out new : List Float) → length out ≡ length cs * (w * w) → new ≡ in_block w i es (take (to - at) (drop at out)) → take at out ++ (new ++ drop (to - at) (drop at out)) ≡ in_row w i cs es out
  unfolding in_block in_row
  run_adds out new l e = each_is nan (λ q. value_at w i cs es out q (eqb (q % (w * w) / w) i)) (length cs * (w * w)) (take at out ++ (new ++ drop (to - at) (drop at out))) (put_length nan at to out new order room long ∙ l) places
    where
      order : at ≤ to
      order = omega arith

      room : to ≤ length out
      room = run_room (length out) l

      part : List Float
      part = take (to - at) (drop at out)

      block_at : ℕ → Bool → Float
      block_at q t = cond t (add_values (get_or part q nan) (only (at_place w (q % w)) es)) (get_or part q nan)

      long : length new ≡ to - at
      long = let k : w * w ≡ to - at = omega arith in ap length e ∙ length-each (λ q. block_at q (eqb (q / w) i)) (w * w) ∙ k

      -- outside the block
      other : (q : ℕ) → q < length cs * (w * w) → (q / (w * w) ≡ p → ⊥) → (t : Bool) → get_or out q nan ≡ value_at w i cs es out q t
      other q h n true = sym (ap (add_values (get_or out q nan)) (in_other (q / (w * w)) (q % w) ((div-lt_iff_lt-mul {k = w * w} {x = q} {y = length cs} square).1 h) n (mod-lt q pos)) ∙ add_none (get_or out q nan))
      other q h n false = refl

      -- inside it, place r of the block is place q of the row
      inside : (q r : ℕ) → q / (w * w) ≡ p → q % w ≡ r % w → get_or part r nan ≡ get_or out q nan → (t : Bool) → block_at r t ≡ value_at w i cs es out q t
      inside q r a b x true =
          ap₂ (λ (s : Float) (l : List Entry). add_values s l) x
          (ap (λ (k : ℕ). only (at_place w k) es) (sym b) ∙ sym (in_block_lem (q % w) (mod-lt q pos))
          ∙ ap (λ (k : ℕ). only (of_column (w * k + q % w)) es) (sym is ∙ ap (λ (k : ℕ). get_or cs k 0) (sym a)))
      inside q r a b x false = x

      places : (q : ℕ) → q < length cs * (w * w) → get_or (take at out ++ (new ++ drop (to - at) (drop at out))) q nan ≡ value_at w i cs es out q (eqb (q % (w * w) / w) i)
      places q h = go (dec_lt q at) (dec_lt q to)
        where
          go : Dec (q < at) → Dec (q < to) → get_or (take at out ++ (new ++ drop (to - at) (drop at out))) q nan ≡ value_at w i cs es out q (eqb (q % (w * w) / w) i)
          go (yes x) y = put_before nan at to out new order room long q x ∙ other q h (not-here q (λ a b. omega arith)) (eqb (q % (w * w) / w) i)
          go (no x) (no y) = put_after nan at to out new order room long q (omega arith) ∙ other q h (not-here q (λ a b. omega arith)) (eqb (q % (w * w) / w) i)
          go (no x) (yes y) =
              let a : at ≤ q = omega arith in
              let r : at + (q - at) ≡ q = omega arith in
              let small : q - at < w * w = omega arith in
              let d : q % (w * w) ≡ q - at = ap (λ (k : ℕ). k % (w * w)) (sym r) ∙ mul-add-mod_self_right p (w * w) (q - at) ∙ mod-eq_of_lt small in
              let m : q % w ≡ (q - at) % w = ap (λ (k : ℕ). k % w) (sym r ∙ ap (λ (k : ℕ). k + (q - at)) (sym (mul_assoc p w w))) ∙ mul-add-mod_self_right (p * w) w (q - at) in
              put_in nan at to out new order room long q a y ∙ ap (λ (l : List Float). get_or l (q - at) nan) e ∙ get_or-each (λ q. block_at q (eqb (q / w) i)) (w * w) (q - at) nan small
              ∙ ap (λ (k : ℕ). block_at (q - at) (eqb (k / w) i)) (sym d)
              ∙ inside q (q - at) (here q a y) m (part_at nan at to out new order room long (q - at) (omega arith) ∙ ap (λ (k : ℕ). get_or out k nan) r) (eqb (q % (w * w) / w) i)
