-- What `v == 0.0` tests, and how the values of tiles relate to zeros. Assumes nothing.
use mathlib.Core.Path.{◌≡◌, refl, sym, ap, ◌∙◌}
use mathlib.Core.Bool.{Bool, true, false, ◌&&◌, ◌||◌, beq}
use Prim.Native.Nat.{ℕ, zero, suc, ◌*◌, ◌<◌}
use native.Mathlib.Nat.{zero-mul, mul-pos, zero-lt-suc, lt_irrefl}
use lib.Dec.{eqb, eqb-suc-zero}
use lib.Ieee.{Float, nan, inf, fin, binary64, up, down, eq, of_bits}
use lib.Ieee.Fits.{up_pos}
use Rattle.hybit_core.specs.Floats.{zero64}
use Rattle.abtm_values.specs.Values.{is_zero}

above_zero : (s : Bool) (a b : ℕ) → 0 < a → b ≡ 0 → (eqb a b && (s || eqb a 0)) ≡ false
above_zero s zero b h z = absurd (lt_irrefl 0 h)
above_zero s (suc a) b h z = ap (λ (n : ℕ). eqb (suc a) n && (s || eqb (suc a) 0)) z ∙ ap (λ (t : Bool). t && (s || t)) (eqb-suc-zero a)

at_zero : (s : Bool) (a b : ℕ) → a ≡ 0 → b ≡ 0 → (eqb a b && (s || eqb a 0)) ≡ true
at_zero true a b y z = λ i. eqb (y i) (z i) && true
at_zero false a b y z = λ i. eqb (y i) (z i) && eqb (y i) 0

-- the code's `x == 0.0`
pub eq-zero : (x : Float) → eq x (of_bits binary64 0) ≡ is_zero x
unfolding eq of_bits
eq-zero nan = refl
eq-zero (inf s) = refl
eq-zero (fin s zero e) = at_zero (beq s false) (zero * up e * 1) (zero * 1 * down e) (ap (λ (n : ℕ). n * 1) (zero-mul (up e))) (zero-mul (down e))
eq-zero (fin s (suc m) e) = above_zero (beq s false) (suc m * up e * 1) (zero * 1 * down e) (mul-pos (mul-pos (zero-lt-suc m) (up_pos e)) (zero-lt-suc 0)) (zero-mul (down e)) ∙ sym (eqb-suc-zero m)

-- 0.0 is one
pub zero_is_zero : is_zero zero64 ≡ true
unfolding of_bits
zero_is_zero = refl
