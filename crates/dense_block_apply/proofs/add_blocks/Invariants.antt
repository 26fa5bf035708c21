use lib.ListN.{get_or}
use lib.Ieee.{nan}
use Rattle.dense_block.specs.Operator.{lent_blocks}
use Rattle.dense_block_apply.proofs.RowLaws.{Sums}
use Rattle.dense_block_apply.proofs.add_blocks.Given as goal

abbrev pub invariant-loop-p : goal.invariant-loop-p
invariant-loop-p g l = Sums (record (lent_blocks l.operands.matrix) { width = g.row.WIDTH }) l.operands.x.now l.row (λ i. get_or l.initial.all i nan) l.initial.p l.end l.fast l.p l.all
