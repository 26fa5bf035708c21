-- `metadata_first_build::refusal` meets its contract. Assumes nothing.
use Rattle.std.proofs.Common.{rules}
use Rattle.hybit_core.proofs.AnswerLaws.{given_refused_by}
use Rattle.metadata_first_build.proofs.AnswerLaws.{refuse_first, refuse_last}
use Rattle.metadata_first_build.proofs.refusal.Goals as goal

pub returns-in_err-check : goal.returns-in_err-check
returns-in_err-check c = given_refused_by _ _ _ (search rules) (refuse_first _ _ _ c.check.ensures c.in_err-check.was)

pub returns : goal.returns
returns c = refuse_last _ _ c.check.ensures c.in_ok-check.was
