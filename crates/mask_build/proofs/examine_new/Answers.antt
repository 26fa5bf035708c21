-- `mask_build::examine_new` meets its contract. Assumes nothing.
use borrow.Author.Rules.{rules}
use Rattle.hybit_core.proofs.AnswerLaws.{checks}
use Rattle.hybit_core.proofs.BoolLaws.{tests}
use Rattle.mask.specs.Calls.{new_answer}
use Rattle.mask_build.proofs.examine_new.Goals as goal

pub returns-then-not-dimension_fits : goal.returns-then-not-dimension_fits
unfolding new_answer
returns-then-not-dimension_fits c = search (checks, tests, rules)

pub returns-then-not-words_fit : goal.returns-then-not-words_fit
unfolding new_answer
returns-then-not-words_fit c = search (checks, tests, rules)

pub returns : goal.returns
unfolding new_answer
returns c = search (checks, tests, rules)
