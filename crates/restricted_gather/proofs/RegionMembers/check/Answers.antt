-- `restricted_gather::RegionMembers::check` meets its contract. Assumes nothing.
use borrow.Author.Rules.{rules}
use Rattle.hybit_core.proofs.AnswerLaws.{checks}
use Rattle.hybit_core.proofs.BoolLaws.{tests}
use Rattle.restricted.specs.Local.{members_answer}
use Rattle.restricted_gather.proofs.RegionMembers.check.Goals as goal

pub returns-then-not-dimension_fits : goal.returns-then-not-dimension_fits
unfolding members_answer
returns-then-not-dimension_fits c = search (checks, tests, rules)

pub returns-then-not-members_hold : goal.returns-then-not-members_hold
unfolding members_answer
returns-then-not-members_hold c = search (checks, tests, rules)

pub returns : goal.returns
unfolding members_answer
returns c = search (checks, tests, rules)
