use Rattle.mask.specs.Mask.{active}
use Rattle.mask.specs.Dof.{lent_mask}
use Rattle.restricted.proofs.KeepLaws.{Counted}
use Rattle.restricted.proofs.count_active.Given as goal

abbrev pub invariant-loop-column : goal.invariant-loop-column
invariant-loop-column l = Counted (active (lent_mask l.mask)) l.cols l.column-index l.kept
