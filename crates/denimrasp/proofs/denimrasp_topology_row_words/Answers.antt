-- `denimrasp::denimrasp_topology_row_words` meets its contract. Assumes nothing.
use mathlib.Core.Path.{◌∙◌, ap}
use Rattle.hybit_core.proofs.AnswerLaws.{call_refused, call_accepted, last_fails, last_passes}
use Rattle.hybit_core.proofs.BoolLaws.{is_below, is_not_below}
use Rattle.topology.specs.Calls.{row_answer}
use Rattle.denimrasp_answers.specs.Answers.{part_of}
use Rattle.denimrasp.proofs.CallLaws.{refuses_by, gives_by}
use Rattle.denimrasp.proofs.denimrasp_topology_row_words.Goals as goal

pub returns-in-Err : goal.returns-in-Err
unfolding row_answer
returns-in-Err c = c.into.ensures ∙ ap part_of (refuses_by _ _ _ (call_refused _ _ _ _ c.check-v.ensures c.in-Err.is))

pub returns-then-row-nrows : goal.returns-then-row-nrows
unfolding row_answer
returns-then-row-nrows c = c.into-then-row-nrows.ensures ∙ ap part_of (refuses_by _ _ _ (call_accepted _ _ _ _ c.check-v.ensures c.in_default.is (last_fails _ _ (is_not_below _ _ c.if-row-nrows.true))))

pub returns : goal.returns
unfolding row_answer
returns c = c.part.ensures ∙ ap part_of (gives_by _ _ (call_accepted _ _ _ _ c.check-v.ensures c.in_default.is (last_passes _ _ (is_below _ _ c.if-row-nrows.false))))
