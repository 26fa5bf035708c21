-- What stands for a sum or product that 64 bits don't hold. Assumes nothing.
use Rattle.std.proofs.Common.{◌≡◌, ℕ, zero, suc, ◌*◌, ◌/◌, ◌^◌, ◌<◌, ◌≤◌, sym, refl, ap, ◌∙◌, mul_comm, div-lt_iff_lt-mul, le-div_iff_mul-le, zero-mul, arith}
use native.Mathlib.Nat.{min-eq_left, min-eq_right}
use Rattle.hybit_core.specs.Domain.{saturated}

pub saturated-whole : (n : ℕ) → n < 2 ^ 64 → n ≡ saturated n
saturated-whole n h = sym (min-eq_left (omega arith))

pub saturated_full : (n : ℕ) → 2 ^ 64 ≤ n → 18446744073709551615 ≡ saturated n
saturated_full n h = sym (min-eq_right (omega arith))

-- a product, by the quotient that the code tests
pub none_times : (a b : ℕ) → a ≡ 0 → 0 ≡ saturated (a * b)
none_times a b e = saturated-whole 0 (omega arith) ∙ ap (λ (n : ℕ). saturated n) (sym (zero-mul b) ∙ ap (λ (n : ℕ). n * b) (sym e))

pub above_zero : (a : ℕ) → (a ≡ 0 → ⊥) → 0 < a
above_zero zero h = absurd (h refl)
above_zero (suc a) h = omega arith

pub product_whole : (a b : ℕ) → 0 < a → b ≤ 18446744073709551615 / a → a * b < 2 ^ 64
product_whole a b p h = let k : b * a ≤ 18446744073709551615 = (le-div_iff_mul-le p).0 h in let e : a * b ≡ b * a = mul_comm a b in omega arith

pub product_full : (a b : ℕ) → 0 < a → 18446744073709551615 / a < b → 2 ^ 64 ≤ a * b
product_full a b p h = let k : 18446744073709551615 < b * a = (div-lt_iff_lt-mul p).0 h in let e : a * b ≡ b * a = mul_comm a b in omega arith
