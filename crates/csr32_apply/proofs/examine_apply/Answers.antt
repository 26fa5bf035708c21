-- `csr32_apply::examine_apply` meets its contract. Assumes nothing.
use borrow.Author.Rules.{rules}
use native.Mathlib.Omega.{arith}
use lib.ListN.{length}
use Rattle.hybit_core.proofs.AnswerLaws.{call_accepted, length_wrong, length_right, last_length_wrong, last_length_right, checks}
use Rattle.hybit_core.proofs.BoolLaws.{tests}
use Rattle.csr32.specs.Csr.{apply_answer}
use Rattle.csr32_apply.proofs.examine_apply.Goals as goal

pub returns-in_err-check : goal.returns-in_err-check
unfolding apply_answer
returns-in_err-check c = search (checks, tests, rules)

pub returns-then-x-csr : goal.returns-then-x-csr
unfolding apply_answer
returns-then-x-csr c = call_accepted _ _ _ _ c.check.ensures c.in_ok-check.was (length_wrong c.args.csr.ncols (length c.args.x.now) _ (λ h. omega arith))

pub returns-then-ny-csr : goal.returns-then-ny-csr
unfolding apply_answer
returns-then-ny-csr c = call_accepted _ _ _ _ c.check.ensures c.in_ok-check.was (length_right c.args.csr.ncols (length c.args.x.now) _ _ (omega arith) (last_length_wrong c.args.csr.nrows c.args.ny (λ h. omega arith)))

pub returns : goal.returns
unfolding apply_answer
returns c = call_accepted _ _ _ _ c.check.ensures c.in_ok-check.was (length_right c.args.csr.ncols (length c.args.x.now) _ _ (omega arith) (last_length_right c.args.csr.nrows c.args.ny (omega arith)))
