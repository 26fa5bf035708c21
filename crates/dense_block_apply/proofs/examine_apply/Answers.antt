-- `dense_block_apply::examine_apply` meets its contract. Assumes nothing.
use borrow.Author.Rules.{rules}
use native.Mathlib.Omega.{arith}
use lib.ListN.{length}
use Rattle.hybit_core.proofs.AnswerLaws.{call_accepted, length_wrong, length_right, last_length_wrong, last_length_right, checks}
use Rattle.hybit_core.proofs.BoolLaws.{tests}
use Rattle.dense_block_apply.specs.Product.{apply_blocks_answer}
use Rattle.dense_block_apply.proofs.examine_apply.Goals as goal

pub returns-in_err-check : goal.returns-in_err-check
unfolding apply_blocks_answer
returns-in_err-check c = search (checks, tests, rules)

pub returns-then-x-blocks : goal.returns-then-x-blocks
unfolding apply_blocks_answer
returns-then-x-blocks c = call_accepted _ _ _ _ c.check.ensures c.in_ok-check.was (length_wrong c.args.blocks.ncols (length c.args.x.now) _ (λ h. omega arith))

pub returns-then-places-blocks : goal.returns-then-places-blocks
unfolding apply_blocks_answer
returns-then-places-blocks c = call_accepted _ _ _ _ c.check.ensures c.in_ok-check.was (length_right c.args.blocks.ncols (length c.args.x.now) _ _ (omega arith) (last_length_wrong c.args.blocks.nrows c.args.places (λ h. omega arith)))

pub returns : goal.returns
unfolding apply_blocks_answer
returns c = call_accepted _ _ _ _ c.check.ensures c.in_ok-check.was (length_right c.args.blocks.ncols (length c.args.x.now) _ _ (omega arith) (last_length_right c.args.blocks.nrows c.args.places (omega arith)))
