-- `mask_build::examine_indices` meets its contract. Assumes nothing.
use borrow.Author.Rules.{rules}
use Rattle.hybit_core.proofs.AnswerLaws.{checks}
use Rattle.hybit_core.proofs.BoolLaws.{tests}
use Rattle.mask.specs.Calls.{from_indices_answer}
use Rattle.mask_build.proofs.examine_indices.Goals as goal

pub returns-then-not-dimension_fits : goal.returns-then-not-dimension_fits
unfolding from_indices_answer
returns-then-not-dimension_fits c = search (checks, tests, rules)

pub returns-then-not-all_below : goal.returns-then-not-all_below
unfolding from_indices_answer
returns-then-not-all_below c = search (checks, tests, rules)

pub returns-then-not-words_fit : goal.returns-then-not-words_fit
unfolding from_indices_answer
returns-then-not-words_fit c = search (checks, tests, rules)

pub returns : goal.returns
unfolding from_indices_answer
returns c = search (checks, tests, rules)
