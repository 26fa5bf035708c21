-- `dense_block_apply::apply_partial_last_row` meets its contract. Assumes nothing.
use native.Mathlib.Omega.{arith}
use Rattle.dense_block_apply.proofs.ProductLaws.{done_full, done_more, done_all}
use Rattle.dense_block_apply.proofs.apply_partial_last_row.Goals as goal

pub loop-row-init : goal.loop-row-init
loop-row-init g c = done_full _ _ _ c.requires.long (rw (← c.args.operands.width) at c.requires.full)

pub loop-row-preserved : goal.loop-row-preserved
loop-row-preserved g c = done_more _ _ _ _ c.loop-row.invariant _ (omega arith) (rw (← c.args.operands.width) at c.partial_sum.ensures)

pub returns : goal.returns
returns g c = rw (← c.args.operands.width) (done_all _ _ _ _ c.loop-row.invariant (omega arith))
