-- `topology_rows::check_row` meets its contract. Assumes nothing.
use Rattle.hybit_core.proofs.AnswerLaws.{checks}
use Rattle.hybit_core.proofs.BoolLaws.{tests}
use Rattle.topology.specs.Calls.{row_answer}
use borrow.Author.Rules.{rules}
use Rattle.topology_rows.proofs.check_row.Goals as goal

pub returns-in_err-check : goal.returns-in_err-check
unfolding row_answer
returns-in_err-check c = search (checks, tests, rules)

pub returns-then-row-topology : goal.returns-then-row-topology
unfolding row_answer
returns-then-row-topology c = search (checks, tests, rules)

pub returns : goal.returns
unfolding row_answer
returns c = search (checks, tests, rules)
