-- `dense_block_apply::add_tail` meets its contract. Assumes nothing.
use Rattle.lent.proofs.LentLaws.{filled_none}
use Rattle.dense_block_apply.proofs.TermLaws.{rows_more}
use Rattle.dense_block_apply.proofs.add_tail.Goals as goal

pub loop-i-init : goal.loop-i-init
loop-i-init g c = filled_none _ _

pub loop-i-preserved : goal.loop-i-preserved
loop-i-preserved g c = rows_more _ _ _ _ _ c.loop-i.invariant _ (c.add_terms.ensures) c.loop-i-test.true
