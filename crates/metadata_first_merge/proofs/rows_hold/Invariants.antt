use mathlib.Core.Path.{◌≡◌}
use Prim.Native.Nat.{◌≤◌}
use lib.ListN.{length, replicate}
use Rattle.hybit_core.specs.Floats.{zero64}
use Rattle.metadata_first_merge.proofs.MergeLaws.{RowsFinite}
use Rattle.csr32.specs.Matrix.{lent_csr}
use Rattle.metadata_first_merge.proofs.rows_hold.Given as goal

abbrev pub invariant-loop-row : goal.invariant-loop-row
invariant-loop-row l = (l.row ≤ l.csr.matrix.nrows) × (length l.sums ≡ length l.initial.sums) × (l.sums ≡ replicate (length l.initial.sums) zero64) × RowsFinite (lent_csr l.csr.matrix) l.row
