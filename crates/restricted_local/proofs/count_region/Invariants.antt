use Rattle.restricted_local.proofs.CountLaws.{Counting}
use Rattle.csr32.specs.Matrix.{lent_csr}
use Rattle.mask.specs.Dof.{lent_mask}
use Rattle.restricted_local.proofs.count_region.Given as goal

abbrev pub invariant-loop-row : goal.invariant-loop-row
invariant-loop-row l = Counting (lent_csr l.csr) (lent_mask l.region) l.row l.nodes l.kept l.source
