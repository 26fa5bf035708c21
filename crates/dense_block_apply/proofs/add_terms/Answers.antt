-- `dense_block_apply::add_terms` meets its contract. Assumes nothing.
use Rattle.dense_block_apply.proofs.TermLaws.{adding_none, adding_more}
use Rattle.dense_block_apply.proofs.add_terms.Goals as goal

pub loop-j-init : goal.loop-j-init
loop-j-init c = adding_none _ _ _ _ _

pub loop-j-preserved : goal.loop-j-preserved
loop-j-preserved c = adding_more _ _ _ _ _ _ _ c.loop-j.invariant
