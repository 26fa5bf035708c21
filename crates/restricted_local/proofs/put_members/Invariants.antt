use Rattle.restricted_local.proofs.RegionLaws.{Putting}
use Rattle.mask.specs.Dof.{lent_mask}
use Rattle.restricted_local.proofs.put_members.Given as goal

abbrev pub invariant-loop-row : goal.invariant-loop-row
invariant-loop-row l = Putting (lent_mask l.region) l.initial.out l.row l.at l.out
