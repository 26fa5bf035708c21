-- `metadata_first::check_row` meets its contract. Assumes nothing.
use Rattle.hybit_core.proofs.AnswerLaws.{checks, call_accepted, last_fails, last_passes}
use Rattle.hybit_core.proofs.BoolLaws.{is_below, is_not_below}
use Rattle.metadata_first.specs.Store.{store_row_answer}
use borrow.Author.Rules.{rules}
use Rattle.metadata_first.proofs.check_row.Goals as goal

pub returns-in_err-check : goal.returns-in_err-check
unfolding store_row_answer
returns-in_err-check c = search (checks, rules)

pub returns-then-row-packed : goal.returns-then-row-packed
unfolding store_row_answer
returns-then-row-packed c = call_accepted _ _ _ _ c.check.ensures c.in_ok-check.was (last_fails _ _ (is_not_below _ _ c.if-row-packed.true))

pub returns : goal.returns
unfolding store_row_answer
returns c = call_accepted _ _ _ _ c.check.ensures c.in_ok-check.was (last_passes _ _ (is_below _ _ c.if-row-packed.false))
