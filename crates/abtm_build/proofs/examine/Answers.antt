-- `abtm_build::examine` meets its contract. Assumes nothing.
use Rattle.std.proofs.Common.{rules}
use native.Mathlib.Omega.{arith}
use Rattle.hybit_core.proofs.BoolLaws.{is_below, is_not_below}
use Rattle.hybit_core.proofs.AnswerLaws.{told_refused, call_refused, call_accepted, last_fails, last_passes}
use Rattle.abtm_build.specs.Build.{before_answer}
use Rattle.abtm_build.proofs.examine.Goals as goal

pub returns-in_err-check : goal.returns-in_err-check
unfolding before_answer
returns-in_err-check c = told_refused _ _ _ (search rules) (call_refused _ _ _ _ c.check.ensures c.in_err-check.was)

pub returns-in_err-validate : goal.returns-in_err-validate
unfolding before_answer
returns-in_err-validate c = told_refused _ _ _ (search rules) (call_accepted _ _ _ _ c.check.ensures c.in_ok-check.was (call_refused _ _ _ _ c.validate.ensures c.in_err-validate.was))

pub returns-then-pointers-csr : goal.returns-then-pointers-csr
unfolding before_answer
returns-then-pointers-csr c = call_accepted _ _ _ _ c.check.ensures c.in_ok-check.was (call_accepted _ _ _ _ c.validate.ensures c.in_ok-validate.was (last_fails _ 13 (is_not_below _ _ c.if-pointers-csr.true)))

pub returns : goal.returns
unfolding before_answer
returns c = call_accepted _ _ _ _ c.check.ensures c.in_ok-check.was (call_accepted _ _ _ _ c.validate.ensures c.in_ok-validate.was (last_passes _ 13 (is_below c.args.csr.nrows c.args.pointers (omega arith))))
