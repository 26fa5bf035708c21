-- `restricted_gather::examine_gather` meets its contract. Assumes nothing.
use borrow.Author.Rules.{rules}
use native.Mathlib.Omega.{arith}
use lib.ListN.{length}
use Rattle.hybit_core.proofs.AnswerLaws.{call_accepted, length_wrong, length_right, last_length_wrong, last_length_right, checks}
use Rattle.hybit_core.proofs.BoolLaws.{tests}
use Rattle.restricted.specs.Local.{gather_answer}
use Rattle.restricted_gather.proofs.examine_gather.Goals as goal

pub returns-in_err-check : goal.returns-in_err-check
unfolding gather_answer
returns-in_err-check c = search (checks, tests, rules)

pub returns-then-global-region : goal.returns-then-global-region
unfolding gather_answer
returns-then-global-region c = call_accepted _ _ _ _ c.check.ensures c.in_ok-check.was (length_wrong c.args.region.global_size (length c.args.global.now) _ (λ h. omega arith))

pub returns-then-local_len-region : goal.returns-then-local_len-region
unfolding gather_answer
returns-then-local_len-region c = call_accepted _ _ _ _ c.check.ensures c.in_ok-check.was (length_right c.args.region.global_size (length c.args.global.now) _ _ (omega arith) (last_length_wrong (length c.args.region.members.now) c.args.local_len (λ h. omega arith)))

pub returns : goal.returns
unfolding gather_answer
returns c = call_accepted _ _ _ _ c.check.ensures c.in_ok-check.was (length_right c.args.region.global_size (length c.args.global.now) _ _ (omega arith) (last_length_right (length c.args.region.members.now) c.args.local_len (omega arith)))
