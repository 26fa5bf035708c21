use mathlib.Core.Path.{◌≡◌}
use lib.ListN.{drop}
use Rattle.metadata_first_merge.specs.Window.{sums_finite}
use Rattle.metadata_first_merge.proofs.sums_hold.Given as goal

abbrev pub invariant-loop-col : goal.invariant-loop-col
invariant-loop-col l = sums_finite l.base l.sums l.cols ≡ sums_finite l.base l.sums (drop l.col-index l.cols)
