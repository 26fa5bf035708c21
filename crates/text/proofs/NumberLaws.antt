-- Laws of numbers as text: digits read one after the other, and the place of a byte. Assumes nothing.
use Rattle.std.specs.Prelude.{Option, Some, None}
use Prim.Native.Nat.{ℕ, suc, ◌+◌, ◌-◌, ◌*◌, ◌^◌, ◌≤◌, ◌<◌}
use mathlib.Core.Bool.{Bool, true, false, cond, ◌&&◌}
use mathlib.Core.List.{List, [], ◌∷◌, foldl}
use mathlib.Core.Path.{◌≡◌, refl, sym, ap, ◌∙◌}
use native.Mathlib.Nat.{pow-succ', pow-le-pow_right, mul_assoc, mul_comm}
use native.Mathlib.Numerals.{add-one}
use native.Mathlib.Omega.{arith}
use lib.Dec.{leb, ltb, eqb}
use Rattle.std.proofs.lemmas.Bool.{ltb-true, ltb-false}
use lib.ListN.{length, get_or, drop, drop_of_length-le}
use lib.Seq.{drop-cons}
use borrow.Author.Tests.{leb-true, le-leb, lt-leb, eq-eqb, ne_eqb}
use Rattle.hybit_core.proofs.BoolLaws.{and_left, and_right, and_both}
use Rattle.lent.specs.Lists.{every}
use Rattle.lent.proofs.ListLaws.{every_more, every_fails, every_done}
use Rattle.std.specs.List.{position, position_or_len}
use Rattle.std.proofs.lemmas.List.Recursion.{is_position_or_len}
use Rattle.text.specs.Numbers.{digit, tens, numeral, whole_of, place_of}

-- ---- powers of ten

pub power_most : (i j : ℕ) → i ≤ j → 10 ^ i ≤ 10 ^ j
power_most i j h = pow-le-pow_right {n = 10} (omega arith) h

pub power_more : (power i : ℕ) → power ≡ 10 ^ i → 10 * power ≡ 10 ^ (i + 1)
power_more power i e = rw (add-one, pow-succ' 10 i, e)

pub power_done : (k power i : ℕ) → power ≡ 10 ^ i → i ≤ k → k ≤ i → power ≡ 10 ^ k
power_done k power i e g h = let same : i ≡ k = omega arith in e ∙ rw same

-- ---- digits

-- the digits w behind the value v
abbrev from : ℕ → List ℕ → ℕ
from v w = foldl (λ (v : ℕ) (b : ℕ). 10 * v + (b - 48)) v w

pub digit_least : (b : ℕ) → true ≡ digit b → 48 ≤ b
unfolding digit
digit_least b e = leb-true 48 b (and_left (leb 48 b) (leb b 57) (sym e))

pub digit_most : (b : ℕ) → true ≡ digit b → b ≤ 57
unfolding digit
digit_most b e = leb-true b 57 (and_right (leb 48 b) (leb b 57) (sym e))

-- a digit more takes a value below p to one below 10 × p
digit_more : (v p b : ℕ) → v < p → true ≡ digit b → 10 * v + (b - 48) < 10 * p
digit_more v p b h e = omega (arith, digit_most b e)

ten_fold : (p n : ℕ) → 10 * p * 10 ^ n ≡ p * 10 ^ suc n
ten_fold p n = ap (λ (x : ℕ). x * 10 ^ n) (mul_comm 10 p) ∙ mul_assoc p 10 (10 ^ n) ∙ ap (λ (x : ℕ). p * x) (sym (pow-succ' 10 n))

from-small : (v p : ℕ) (w : List ℕ) → v < p → every digit w ≡ true → from v w < p * 10 ^ length w
unfolding every
from-small v p [] h e = omega arith
from-small v p (b ∷ w) h e =
    rw (← ten_fold p (length w))
    (from-small (10 * v + (b - 48)) (10 * p) w (digit_more v p b h (sym (and_left (digit b) (every digit w) e))) (and_right (digit b) (every digit w) e))

-- ---- what is read of a word as a whole number

whole_bad : (w : List ℕ) → numeral w ≡ false → None ≡ whole_of w
unfolding whole_of
whole_bad w e = rw e

whole-good : (w : List ℕ) → numeral w ≡ true → Some (tens w) ≡ whole_of w
unfolding whole_of
whole-good w e = rw e

pub and_last : (s t : Bool) → t ≡ false → (s && t) ≡ false
and_last true t e = e
and_last false t e = refl

pub whole-none : (w : List ℕ) → length w ≡ 0 → None ≡ whole_of w
unfolding numeral
whole-none w h = whole_bad w (rw h)

pub whole_long : (w : List ℕ) → 15 < length w → None ≡ whole_of w
unfolding numeral
whole_long w h = whole_bad w (rw (lt-leb (length w) 15 h, le-leb 1 (length w) (omega arith)))

-- what a call of read_whole on w said
pub whole_is : (w : List ℕ) (r : (Option ℕ)) (v : ℕ) → r ≡ whole_of w → r ≡ Some v → (numeral w ≡ true) × (tens w ≡ v)
unfolding whole_of
whole_is w r v e q = go (numeral w) refl (sym e ∙ q)
  where
    go : (t : Bool) → numeral w ≡ t → cond t (Some (tens w)) None ≡ Some v → (numeral w ≡ true) × (tens w ≡ v)
    go true x y = (x, cc)
    go false x y = let z : ◌≡◌ {A = ℕ} 0 1 = cc in absurd (omega arith)

pub whole-not : (w : List ℕ) (r : (Option ℕ)) → r ≡ whole_of w → r ≡ None → numeral w ≡ false
unfolding whole_of
whole-not w r e q = go (numeral w) refl (sym e ∙ q)
  where
    go : (t : Bool) → numeral w ≡ t → cond t (Some (tens w)) None ≡ None → numeral w ≡ false
    go true x y = let z : ◌≡◌ {A = ℕ} 0 1 = cc in absurd (omega arith)
    go false x y = x

-- a number of n digits is below 10^n
pub whole-small : (w : List ℕ) → numeral w ≡ true → tens w < 10 ^ length w
unfolding numeral tens
whole-small w e = omega (arith, from-small 0 1 w (omega arith) (and_right (leb 1 (length w) && leb (length w) 15) (every digit w) e))

-- ---- the digits of a word, read up to place i: `value` is what they make

pub record Reading (w : List ℕ) (value i : ℕ) : Type 0 where
  pub within : i ≤ length w
  pub digits : every digit w ≡ every digit (drop i w)
  pub rest : tens w ≡ from value (drop i w)
  pub small : value < 10 ^ i

module _ (w : List ℕ) where
  pub reading_none : Reading w 0 0
  unfolding tens
  reading_none = record { within = omega arith; digits = refl; rest = refl; small = omega arith }

  module _ (value i : ℕ) (inv : Reading w value i) where
    pub reading_fits : i < length w → length w ≤ 15 → value < 10 ^ 14
    reading_fits h l = omega (arith, inv.small, power_most i 14 (omega arith))

    pub reading_more : i < length w → true ≡ digit (get_or w i 0) → Reading w (10 * value + (get_or w i 0 - 48)) (i + 1)
    reading_more h e = record {
      within = omega arith;
      digits = every_more digit w i inv.digits 0 h e;
      rest = inv.rest ∙ rw (add-one, drop-cons w i 0);
      small = rw (add-one, pow-succ' 10 i) (digit_more value (10 ^ i) (get_or w i 0) inv.small e);
    }

    pub reading_fails : i < length w → false ≡ digit (get_or w i 0) → None ≡ whole_of w
    unfolding numeral
    reading_fails h e = whole_bad w (and_last (leb 1 (length w) && leb (length w) 15) (every digit w) (sym (every_fails digit w i inv.digits 0 h e)))

    pub reading_done : length w ≤ i → (length w ≡ 0 → ⊥) → length w ≤ 15 → Some value ≡ whole_of w
    unfolding numeral
    reading_done h z l =
        let all : numeral w ≡ true = and_both (leb 1 (length w) && leb (length w) 15) (every digit w) (and_both (leb 1 (length w)) (leb (length w) 15) (le-leb 1 (length w) (omega arith)) (le-leb (length w) 15 l)) (sym (every_done digit w i inv.digits h)) in
        let same : tens w ≡ value = inv.rest ∙ rw drop_of_length-le in
        ap Some (sym same) ∙ whole-good w all

-- ---- the place of a byte b, looked for up to place i

module _ (b : ℕ) (w : List ℕ) (i : ℕ) (inv : place_of b w ≡ i + place_of b (drop i w)) where
  place_step : i < length w → place_of b w ≡ i + cond (eqb (get_or w i 0) b) 0 (suc (place_of b (drop (i + 1) w)))
  unfolding place_of
  place_step h = inv ∙ rw (add-one, drop-cons w i 0)

  pub place_here : i < length w → get_or w i 0 ≡ b → i ≡ place_of b w
  place_here h e = sym (place_step h ∙ rw (eq-eqb (get_or w i 0) b e) (omega arith))

  pub place_more : i < length w → (get_or w i 0 ≡ b → ⊥) → place_of b w ≡ i + 1 + place_of b (drop (i + 1) w)
  place_more h n = place_step h ∙ rw (ne_eqb (get_or w i 0) b n) (omega arith)

  pub place_none : length w ≤ i → i ≡ place_of b w
  unfolding place_of
  place_none h = sym (inv ∙ rw drop_of_length-le (omega arith))

-- ---- the place of the first byte b, as the library's `position` finds it

one_more : (n : ℕ) → suc n ≡ 1 + n
one_more n = omega arith

place_is : (b : ℕ) (w : List ℕ) → place_of b w ≡ position_or_len (λ x. eqb x b) w
unfolding place_of
place_is b w = is_position_or_len (place_of b) (λ x. eqb x b) refl (λ x xs. ap (cond (eqb x b) 0) (one_more (place_of b xs))) w

pub place_found : (b i : ℕ) (w : List ℕ) → position (λ x. eqb x b) w ≡ Some i → (i ≡ place_of b w) × (i < length w)
place_found b i w = rw (← place_is b w) (go (ltb (place_of b w) (length w)) refl)
  where
    go : (t : Bool) → ltb (place_of b w) (length w) ≡ t → cond t (Some (place_of b w)) None ≡ Some i → (i ≡ place_of b w) × (i < length w)
    go true x e = let same : i ≡ place_of b w = cc in (same, rw same (ltb-true (place_of b w) (length w) x))
    go false x e = let z : ◌≡◌ {A = ℕ} 0 1 = cc in absurd (omega arith)

pub place_missing : (b : ℕ) (w : List ℕ) → position (λ x. eqb x b) w ≡ None → length w ≤ place_of b w
place_missing b w = rw (← place_is b w) (go (ltb (place_of b w) (length w)) refl)
  where
    go : (t : Bool) → ltb (place_of b w) (length w) ≡ t → cond t (Some (place_of b w)) None ≡ None → length w ≤ place_of b w
    go true x e = let z : ◌≡◌ {A = ℕ} 0 1 = cc in absurd (omega arith)
    go false x e = ltb-false (place_of b w) (length w) x

pub place_most : (b : ℕ) (w : List ℕ) → place_of b w ≤ length w
unfolding place_of
place_most b [] = omega arith
place_most b (c ∷ w) = go (eqb c b) (place_most b w)
  where
    go : (t : Bool) → place_of b w ≤ length w → cond t 0 (suc (place_of b w)) ≤ suc (length w)
    go true h = omega arith
    go false h = omega arith
