-- `dense_block_check::count_full` meets its contract. Assumes nothing.
use Rattle.word.proofs.PassLaws.{passing_none, passing_more}
use borrow.Author.Rules.{rules}
use Rattle.dense_block_check.proofs.count_full.Goals as goal

pub loop-col-init : goal.loop-col-init
loop-col-init c = passing_none _ _

pub loop-col-preserved : goal.loop-col-preserved
loop-col-preserved c = passing_more _ _ _ _ c.loop-col.invariant 0 _ (search rules) c.from-full.ensures
