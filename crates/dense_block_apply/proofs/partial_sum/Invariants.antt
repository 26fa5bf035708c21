use Rattle.dense_block.specs.Operator.{lent_blocks}
use Rattle.dense_block_apply.proofs.RowLaws.{Sum}
use Rattle.dense_block_apply.proofs.partial_sum.Given as goal

abbrev pub invariant-loop-p : goal.invariant-loop-p
invariant-loop-p g l = Sum (record (lent_blocks l.operands.matrix) { width = g.row.WIDTH }) l.operands.x.now l.row l.last l.initial.p l.end l.p l.sum
