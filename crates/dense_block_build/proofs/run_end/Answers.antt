-- `dense_block_build::run_end` meets its contract. Assumes nothing.
use Rattle.dense_block_build.proofs.RunLaws.{run_none, run_more}
use borrow.Author.Rules.{rules}
use Rattle.dense_block_build.proofs.run_end.Goals as goal

pub loop-end-init : goal.loop-end-init
loop-end-init c = run_none _ _ _ _ c.requires.inside c.requires.block

pub loop-end-preserved : goal.loop-end-preserved
loop-end-preserved c = run_more _ _ _ _ _ _ c.loop-end.invariant (search rules) c.key_of.ensures c.if-key_of-key.false
