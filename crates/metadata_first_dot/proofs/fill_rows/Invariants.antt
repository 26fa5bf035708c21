use Rattle.metadata_first_dot.proofs.CallLaws.{Filling}
use Rattle.metadata_first.specs.Matrix.{lent_store}
use Rattle.mask.specs.Dof.{lent_mask}
use Rattle.metadata_first_dot.proofs.fill_rows.Given as goal

abbrev pub invariant-loop-row : goal.invariant-loop-row
invariant-loop-row l = Filling (lent_store l.operands.packed) (lent_mask l.operands.mask) l.operands.x.now l.initial.sums l.initial.executed l.row l.sums l.executed
