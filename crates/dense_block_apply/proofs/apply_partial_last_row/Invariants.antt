use Rattle.dense_block.specs.Operator.{lent_blocks}
use Rattle.dense_block_apply.proofs.ProductLaws.{Done}
use Rattle.dense_block_apply.proofs.apply_partial_last_row.Given as goal

abbrev pub invariant-loop-row : goal.invariant-loop-row
invariant-loop-row g l = Done (record (lent_blocks l.operands.matrix) { width = g.row.WIDTH }) l.operands.x.now l.row l.y
