use mathlib.Core.Path.{◌≡◌}
use lib.ListN.{length, drop}
use Rattle.csr32.specs.Window.{Outside}
use Rattle.metadata_first_merge.proofs.clear_window.Given as goal

abbrev pub invariant-loop-col : goal.invariant-loop-col
invariant-loop-col l = (l.width ≡ length l.initial.sums) × (length l.sums ≡ length l.initial.sums) × Outside (drop l.col-index l.cols) l.base l.sums
