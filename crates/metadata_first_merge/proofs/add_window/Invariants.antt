use mathlib.Core.Path.{◌≡◌}
use lib.ListN.{length}
use Rattle.metadata_first_merge.proofs.WindowLaws.{Summed}
use Rattle.metadata_first_merge.proofs.add_window.Given as goal

abbrev pub invariant-loop-k : goal.invariant-loop-k
invariant-loop-k l = (l.width ≡ length l.initial.sums) × (length l.sums ≡ length l.initial.sums) × Summed l.row.cols.now l.row.vals.now l.base (length l.initial.sums) l.k l.sums
