use Rattle.dense_block.specs.Operator.{lent_blocks}
use Rattle.dense_block_apply.proofs.ProductLaws.{Written}
use Rattle.dense_block_apply.proofs.apply_full_rows.Given as goal

abbrev pub invariant-loop-row : goal.invariant-loop-row
invariant-loop-row g l = Written (record (lent_blocks l.operands.matrix) { width = g.row.WIDTH }) l.operands.x.now l.row l.y
