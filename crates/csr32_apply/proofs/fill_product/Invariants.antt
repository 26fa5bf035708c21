use Prim.Native.Nat.{◌^◌, ◌≤◌}
use mathlib.Core.Path.{◌≡◌}
use lib.ListN.{length}
use Rattle.csr32.specs.Csr.{entries, row_product}
use Rattle.csr32.proofs.SumLaws.{Thirds}
use Rattle.csr32.specs.Matrix.{lent_csr}
use Rattle.csr32_apply.proofs.fill_product.Given as goal

abbrev pub invariant-loop-row : goal.invariant-loop-row
invariant-loop-row l = (l.operands.matrix.nrows ≤ 2 ^ 20) × (l.third ≤ l.operands.matrix.nrows) × (l.row ≤ l.third) × (length l.y ≡ l.operands.matrix.nrows) × Thirds (λ r. row_product (entries (lent_csr l.operands.matrix) r) l.operands.x.now) l.third l.row l.y
