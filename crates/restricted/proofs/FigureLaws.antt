-- Figures of restricted and local lists, as their code computes them. Assumes nothing.
use mathlib.Core.Path.{◌≡◌, ap, ap₂, ◌∙◌}
use Prim.Native.Nat.{ℕ, ◌+◌, ◌*◌}
use native.Mathlib.Omega.{arith}
use lib.Ieee.{Float, binary64, sub}
use borrow.Author.Tests.{eq-eqb, ne_eqb}
use Rattle.hybit_core.specs.Domain.{saturated}
use Rattle.hybit_core.specs.Floats.{zero64, count_as_float, ratio_of}
use Rattle.restricted.specs.declared.LocalRegion.{LocalRegion}
use Rattle.restricted.specs.Local.{boundary_ratio}

sum_again : (a b : ℕ) → saturated (saturated a + saturated b) ≡ saturated (a + b)
sum_again a b = omega arith

four_again : (n : ℕ) → saturated (4 * saturated n) ≡ saturated (4 * n)
four_again n = omega arith

-- three products that saturate one by one, the first of a saturated n + 1
pub three-saturated : (n k j a b c p q s : ℕ) → a ≡ saturated (n + 1) → p ≡ saturated (4 * a) → q ≡ saturated (12 * k) → s ≡ saturated (c * j) → b ≡ saturated (p + q)
    → (r : ℕ) → r ≡ saturated (b + s) → r ≡ saturated (4 * (n + 1) + 12 * k + c * j)
three-saturated n k j a b c p q s ea ep eq es eb r er =
    let first : p ≡ saturated (4 * (n + 1)) = ep ∙ ap (λ (t : ℕ). saturated (4 * t)) ea ∙ four_again (n + 1) in
    let two : b ≡ saturated (4 * (n + 1) + 12 * k) = eb ∙ ap₂ (λ (t u : ℕ). saturated (t + u)) first eq ∙ sum_again (4 * (n + 1)) (12 * k) in
    er ∙ ap₂ (λ (t u : ℕ). saturated (t + u)) two es ∙ sum_again (4 * (n + 1) + 12 * k) (c * j)

pub ratio_none : (s : LocalRegion) → s.source_row_nnz ≡ 0 → zero64 ≡ boundary_ratio s
unfolding boundary_ratio
ratio_none s e = rw (eq-eqb s.source_row_nnz 0 e)

pub ratio_some : (s : LocalRegion) (a b : Float) → (s.source_row_nnz ≡ 0 → ⊥) → a ≡ count_as_float 1 → b ≡ ratio_of s.local_nnz s.source_row_nnz → sub binary64 a b ≡ boundary_ratio s
unfolding boundary_ratio
ratio_some s a b h ea eb = ap₂ (λ (x y : Float). sub binary64 x y) ea eb ∙ rw (ne_eqb s.source_row_nnz 0 h)
