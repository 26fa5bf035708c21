-- What the code's tests of one value find. Assumes nothing.
use mathlib.Core.Bool.{Bool, true, false, not, cond, ◌&&◌, and-false, false≢true, true≢false}
use mathlib.Core.Path.{◌≡◌, refl, sym, ap, ◌∙◌}
use Prim.Native.Nat.{ℕ, zero, suc, ◌+◌, ◌-◌, ◌*◌, ◌/◌, ◌^◌, ◌<◌}
use native.Mathlib.Nat.{zero-mul, zero-div, mul-pos, zero-lt-suc}
use native.Mathlib.Omega.{arith}
use lib.Dec.{T, eqb, eqb-suc-zero}
use lib.IntN.{ℤ}
use lib.Ieee.{Float, nan, inf, fin, binary64, up, down, low, hid, top, lt, eq, is_nan, below, size, span, climb, of_bits, to_bits}
use lib.Ieee.Fits.{up_pos}
use borrow.Author.Tests.{lt-ltb, le-ltb}
use Rattle.hybit_core.proofs.BoolLaws.{and_right}
use Rattle.abtm_values.specs.Values.{is_zero, solid, plus_zero}
use Rattle.abtm_values.proofs.ZeroLaws.{eq-zero}

-- ---- neither NaN nor zero: below 0.0 or above it

-- magnitudes a of a value and b of 0.0
low_none : (s : Bool) (a b : ℕ) → a ≡ 0 → b ≡ 0 → below s a false b ≡ false
low_none true a b p q = le-ltb 0 (a + b) (omega arith)
low_none false a b p q = le-ltb a b (omega arith)

high_none : (s : Bool) (a b : ℕ) → a ≡ 0 → b ≡ 0 → below false b s a ≡ false
high_none true a b p q = refl
high_none false a b p q = le-ltb b a (omega arith)

one_side : {A : Type 0} (s : Bool) (a b : ℕ) → 0 < a → b ≡ 0 → below s a false b ≡ false → below false b s a ≡ false → A
one_side true a b h q e f = absurd (true≢false (sym (lt-ltb 0 (a + b) (omega arith)) ∙ e))
one_side false a b h q e f = absurd (true≢false (sym (lt-ltb b a (omega arith)) ∙ f))

nothing : (e : ℤ) → zero * up e * 1 ≡ 0
nothing e = ap (λ (n : ℕ). n * 1) (zero-mul (up e))

something : (m : ℕ) (e : ℤ) → 0 < suc m * up e * 1
something m e = mul-pos (mul-pos (zero-lt-suc m) (up_pos e)) (zero-lt-suc 0)

pub low_solid : (v : Float) → lt v (of_bits binary64 0) ≡ true → solid v ≡ true
unfolding lt of_bits
low_solid nan h = h
low_solid (inf s) h = refl
low_solid (fin s zero e) h = absurd (false≢true (sym (low_none s (zero * up e * 1) (zero * 1 * down e) (nothing e) (zero-mul (down e))) ∙ h))
low_solid (fin s (suc m) e) h = ap not (eqb-suc-zero m)

pub high_solid : (v : Float) → lt (of_bits binary64 0) v ≡ true → solid v ≡ true
unfolding lt of_bits
high_solid nan h = h
high_solid (inf s) h = refl
high_solid (fin s zero e) h = absurd (false≢true (sym (high_none s (zero * up e * 1) (zero * 1 * down e) (nothing e) (zero-mul (down e))) ∙ h))
high_solid (fin s (suc m) e) h = ap not (eqb-suc-zero m)

pub not-solid : (v : Float) → lt v (of_bits binary64 0) ≡ false → lt (of_bits binary64 0) v ≡ false → solid v ≡ false
unfolding lt of_bits
not-solid nan h k = refl
not-solid (inf true) h k = h
not-solid (inf false) h k = k
not-solid (fin s zero e) h k = refl
not-solid (fin s (suc m) e) h k = one_side s (suc m * up e * 1) (zero * 1 * down e) (something m e) (zero-mul (down e)) h k

-- ---- +0.0

-- the bits of a magnitude 0
zero_bits : (s : Bool) (n : ℕ) → n ≡ 0 → eqb (cond s (top binary64) 0 + (size n - 53) * hid binary64 + n / 2 ^ (size n - 53)) 0 ≡ (not s && true)
unfolding size span climb
zero_bits true n e = ap (λ (n : ℕ). eqb (top binary64 + (size n - 53) * hid binary64 + n / 2 ^ (size n - 53)) 0) e
zero_bits false n e = ap (λ (n : ℕ). eqb (0 + (size n - 53) * hid binary64 + n / 2 ^ (size n - 53)) 0) e

no_units : (d : ℤ) → zero * up d * 2 ^ low binary64 / down d ≡ 0
no_units d = ap (λ (n : ℕ). n / down d) (ap (λ (n : ℕ). n * 2 ^ low binary64) (zero-mul (up d)) ∙ zero-mul (2 ^ low binary64)) ∙ zero-div (down d)

-- a value that equals 0.0 has a bit pattern
pub zero_is_number : (v : Float) → eq v (of_bits binary64 0) ≡ true → T (not (is_nan v))
unfolding is_nan eq
zero_is_number nan h = absurd (false≢true h)
zero_is_number (inf s) h = tt
zero_is_number (fin s m e) h = tt

pub zero_is_plus : (v : Float) → eq v (of_bits binary64 0) ≡ true → eqb (to_bits binary64 v) 0 ≡ plus_zero v
unfolding to_bits
zero_is_plus v h = go v (sym (eq-zero v) ∙ h)
  where
    go : (v : Float) → is_zero v ≡ true → eqb (to_bits binary64 v) 0 ≡ plus_zero v
    go nan e = absurd (false≢true e)
    go (inf s) e = absurd (false≢true e)
    go (fin s zero d) e = zero_bits s (zero * up d * 2 ^ low binary64 / down d) (no_units d)
    go (fin s (suc m) d) e = absurd (false≢true (sym (eqb-suc-zero m) ∙ e))

pub not_plus : (v : Float) → eq v (of_bits binary64 0) ≡ false → false ≡ plus_zero v
not_plus v h = go v (sym (eq-zero v) ∙ h)
  where
    go : (v : Float) → is_zero v ≡ false → false ≡ plus_zero v
    go nan e = refl
    go (inf s) e = refl
    go (fin s m d) e = sym (ap (λ (t : Bool). not s && t) e ∙ and-false (not s))

-- ---- +0.0 is a zero

pub plus_not_solid : (v : Float) → plus_zero v ≡ true → solid v ≡ false
plus_not_solid nan h = refl
plus_not_solid (inf s) h = sym h
plus_not_solid (fin s m e) h = ap not (and_right (not s) (eqb m 0) h)
