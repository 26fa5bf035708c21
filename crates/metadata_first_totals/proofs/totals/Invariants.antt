use Rattle.metadata_first_totals.proofs.TotalsLaws.{Taken}
use Rattle.metadata_first_totals.proofs.totals.Given as goal

abbrev pub invariant-loop-report : goal.invariant-loop-report
invariant-loop-report l = Taken l.reports l.report-index l.totals
