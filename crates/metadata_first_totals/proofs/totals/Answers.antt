-- `metadata_first_totals::totals` meets its contract. Assumes nothing.
use Rattle.std.proofs.Common.{rules}
use native.Mathlib.Omega.{arith}
use Rattle.hybit_core.proofs.AnswerLaws.{given_refused_by}
use Rattle.metadata_first_totals.proofs.TotalsLaws.{totals_none, taken_more, taken_fails, taken_all}
use Rattle.metadata_first_totals.proofs.totals.Goals as goal

pub loop-report-init : goal.loop-report-init
loop-report-init c = totals_none

pub returns-in_err-totals : goal.returns-in_err-totals
returns-in_err-totals c = given_refused_by _ _ _ (search rules) (taken_fails _ _ _ _ _ c.loop-report.invariant (omega arith) c.counts.ensures c.accumulate.ensures _ c.in_err-totals.was)

pub loop-report-preserved : goal.loop-report-preserved
loop-report-preserved c = taken_more _ _ _ _ _ c.loop-report.invariant (omega arith) c.counts.ensures c.accumulate.ensures _ c.in_ok-totals.was

pub returns : goal.returns
returns c = taken_all _ _ _ c.loop-report.invariant (omega arith)
