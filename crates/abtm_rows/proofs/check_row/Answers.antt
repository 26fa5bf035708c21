-- `abtm_rows::check_row` meets its contract. Assumes nothing.
use Rattle.hybit_core.proofs.AnswerLaws.{checks}
use Rattle.hybit_core.proofs.BoolLaws.{tests}
use Rattle.abtm_rows.specs.Rows.{tile_row_answer}
use borrow.Author.Rules.{rules}
use Rattle.abtm_rows.proofs.check_row.Goals as goal

pub returns-in_err-check : goal.returns-in_err-check
unfolding tile_row_answer
returns-in_err-check c = search (checks, tests, rules)

pub returns-then-row-tiles : goal.returns-then-row-tiles
unfolding tile_row_answer
returns-then-row-tiles c = search (checks, tests, rules)

pub returns : goal.returns
unfolding tile_row_answer
returns c = search (checks, tests, rules)
