-- `topology::AbtmTopology::check` meets its contract. Assumes nothing.
use Rattle.std.proofs.Common.{rules}
use Rattle.hybit_core.proofs.AnswerLaws.{told_refused, accepted_by}
use Rattle.topology.proofs.CallLaws.{lists_refused, total_wrong, total_right}
use Rattle.topology.proofs.matrix.AbtmTopology.check.Goals as goal

pub returns-in_err-check_lists : goal.returns-in_err-check_lists
returns-in_err-check_lists c = told_refused _ _ _ (search rules) (lists_refused _ _ _ _ _ _ _ _ c.check_lists.ensures c.in_err-check_lists.was)

pub returns-then-self-count_bits : goal.returns-then-self-count_bits
returns-then-self-count_bits c = total_wrong _ _ _ _ _ (accepted_by _ _ c.check_lists.ensures c.in_ok-check_lists.was) _ _ c.count_bits.ensures c.if-self-count_bits.true

pub returns : goal.returns
returns c = total_right _ _ _ _ _ (accepted_by _ _ c.check_lists.ensures c.in_ok-check_lists.was) _ _ c.count_bits.ensures c.if-self-count_bits.false
