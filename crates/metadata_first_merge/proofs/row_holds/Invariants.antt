use mathlib.Core.Path.{◌≡◌}
use Prim.Native.Nat.{◌+◌, ◌≤◌}
use lib.ListN.{length, replicate}
use Rattle.hybit_core.specs.Floats.{zero64}
use Rattle.metadata_first_merge.proofs.WindowLaws.{Searched}
use Rattle.metadata_first_merge.proofs.row_holds.Given as goal

abbrev pub invariant-loop-base : goal.invariant-loop-base
invariant-loop-base l = (l.width ≡ length l.initial.sums) × (l.base ≤ l.row.ncols + l.width) × (length l.sums ≡ length l.initial.sums) × (l.sums ≡ replicate (length l.initial.sums) zero64) × Searched l.row.cols.now l.row.vals.now l.base
