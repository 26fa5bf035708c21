-- Laws of ratios, finiteness and NaN. Assumes nothing.
use Rattle.std.proofs.Common.{◌≡◌, ℕ, zero, suc, Bool, true, false, cond, not, T, eqb, sym, refl, ap, ◌∙◌, true≢false}
use lib.Dec.{eqb-suc-zero}
use lib.Ieee.{Float, nan, inf, fin, binary64, div, lt, eq, is_nan}
use Rattle.hybit_core.specs.Floats.{zero64, finite, count_as_float, ratio_of}

pub ratio_none : (a b : ℕ) → b ≡ 0 → zero64 ≡ ratio_of a b
unfolding ratio_of
ratio_none a b z = sym (ap (λ (n : ℕ). cond (eqb n 0) zero64 (div binary64 (count_as_float a) (count_as_float n))) z)

pub ratio_some : (a b : ℕ) (x y : Float) → (b ≡ 0 → ⊥) → x ≡ count_as_float a → y ≡ count_as_float b → div binary64 x y ≡ ratio_of a b
unfolding ratio_of
ratio_some a zero x y n p q = absurd (n refl)
ratio_some a (suc b) x y n p q =
    (λ i. div binary64 (p i) (q i)) ∙ ap (λ (t : Bool). cond t zero64 (div binary64 (count_as_float a) (count_as_float (suc b)))) (sym (eqb-suc-zero b))

-- a float is finite where it lies between the infinities
pub finite-below : (v : Float) → lt v (inf false) ≡ true → lt (inf true) v ≡ finite v
unfolding lt
finite-below nan e = refl
finite-below (inf true) e = refl
finite-below (inf false) e = sym e
finite-below (fin s m d) e = refl

pub finite-not-below : (v : Float) → lt v (inf false) ≡ false → false ≡ finite v
unfolding lt
finite-not-below nan e = refl
finite-not-below (inf s) e = refl
finite-not-below (fin s m d) e = sym e

-- a float that equals itself is no NaN, so it has bits
pub equals_itself : (x : Float) → eq x x ≡ true → T (not (is_nan x))
unfolding eq is_nan
equals_itself nan h = absurd (true≢false (sym h))
equals_itself (inf s) h = tt
equals_itself (fin s m e) h = tt
