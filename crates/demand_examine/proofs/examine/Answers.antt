-- `demand_examine::examine` meets its contract. Assumes nothing.
use Rattle.std.proofs.Common.{rules}
use Rattle.hybit_core.proofs.AnswerLaws.{told_refused, call_refused, call_accepted, accepted_by}
use Rattle.demand_examine.proofs.examine.Goals as goal

pub returns-in_err-examine_records : goal.returns-in_err-examine_records
returns-in_err-examine_records c = told_refused _ _ _ (search rules) (call_refused _ _ _ _ c.examine_records.ensures c.in_err-examine_records.was)

pub examine_question-requires : goal.examine_question-requires
examine_question-requires c = accepted_by _ _ c.examine_records.ensures c.in_ok-examine_records.was

pub returns : goal.returns
returns c = call_accepted _ _ _ _ c.examine_records.ensures c.in_ok-examine_records.was c.examine_question.ensures
