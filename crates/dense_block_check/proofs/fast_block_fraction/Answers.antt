-- `dense_block_check::fast_block_fraction` meets its contract. Assumes nothing.
use Rattle.hybit_core.proofs.AnswerLaws.{accepted_by}
use Rattle.dense_block.specs.Operator.{lent_blocks}
use Rattle.dense_block_check.proofs.RuleLaws.{accepted_frame}
use Rattle.dense_block_check.proofs.fast_block_fraction.Goals as goal

pub count_fast-fast-requires : goal.count_fast-fast-requires
count_fast-fast-requires c = accepted_frame (lent_blocks c.args.blocks) (accepted_by _ _ c.check.ensures c.in_ok-check.was)
