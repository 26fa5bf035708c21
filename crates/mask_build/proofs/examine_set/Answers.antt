-- `mask_build::examine_set` meets its contract. Assumes nothing.
use borrow.Author.Rules.{rules}
use native.Mathlib.Omega.{arith}
use Rattle.hybit_core.proofs.AnswerLaws.{checks, call_accepted, last_fails, last_passes}
use Rattle.hybit_core.proofs.BoolLaws.{tests, is_below, is_not_below}
use Rattle.mask.specs.Calls.{set_answer}
use Rattle.mask_build.proofs.examine_set.Goals as goal

pub returns-in_err-check : goal.returns-in_err-check
unfolding set_answer
returns-in_err-check c = search (checks, tests, rules)

pub returns-then-mask-index : goal.returns-then-mask-index
unfolding set_answer
returns-then-mask-index c = call_accepted _ _ _ _ c.check.ensures c.in_ok-check.was (last_fails _ _ (is_not_below c.args.index c.args.mask.len (omega arith)))

pub returns : goal.returns
unfolding set_answer
returns c = call_accepted _ _ _ _ c.check.ensures c.in_ok-check.was (last_passes _ _ (is_below c.args.index c.args.mask.len (omega arith)))
