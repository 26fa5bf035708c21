-- `mask::DofMask::check` meets its contract. Assumes nothing.
use borrow.Author.Rules.{rules}
use Rattle.hybit_core.proofs.AnswerLaws.{checks}
use Rattle.hybit_core.proofs.BoolLaws.{tests}
use Rattle.mask.specs.Mask.{mask_answer}
use Rattle.mask.proofs.dof.DofMask.check.Goals as goal

pub returns-then-not-dimension_fits : goal.returns-then-not-dimension_fits
unfolding mask_answer
returns-then-not-dimension_fits c = search (checks, tests, rules)

pub returns-then-not-rules_hold : goal.returns-then-not-rules_hold
unfolding mask_answer
returns-then-not-rules_hold c = search (checks, tests, rules)

pub returns : goal.returns
unfolding mask_answer
returns c = search (checks, tests, rules)
