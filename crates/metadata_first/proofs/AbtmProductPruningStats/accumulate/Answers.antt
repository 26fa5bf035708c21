-- `metadata_first::AbtmProductPruningStats::accumulate` meets its contract. Assumes nothing.
use Rattle.metadata_first.proofs.SumLaws.{totals_fit_lem, totals_given, totals_refused}
use native.Mathlib.Omega.{arith}
use mathlib.Core.Path.{ap}
use mathlib.Core.Bool.{not}
use Rattle.metadata_first.proofs.AbtmProductPruningStats.accumulate.Goals as goal

pub returns-then-not-totals_fit : goal.returns-then-not-totals_fit
returns-then-not-totals_fit c = totals_refused _ _ _ c.totals_fit.ensures (ap not c.if-not-totals_fit.true)

pub overflow_add-result : goal.overflow_add-result
overflow_add-result c = let k = totals_fit_lem _ _ _ c.totals_fit.ensures (ap not c.if-not-totals_fit.false) in omega (arith, k.candidate)

pub overflow_add-result-2 : goal.overflow_add-result-2
overflow_add-result-2 c = let k = totals_fit_lem _ _ _ c.totals_fit.ensures (ap not c.if-not-totals_fit.false) in omega (arith, k.executed)

pub overflow_add-result-3 : goal.overflow_add-result-3
overflow_add-result-3 c = let k = totals_fit_lem _ _ _ c.totals_fit.ensures (ap not c.if-not-totals_fit.false) in omega (arith, k.skipped)

pub overflow_add-result-4 : goal.overflow_add-result-4
overflow_add-result-4 c = let k = totals_fit_lem _ _ _ c.totals_fit.ensures (ap not c.if-not-totals_fit.false) in omega (arith, k.words)

pub overflow_add-result-5 : goal.overflow_add-result-5
overflow_add-result-5 c = let k = totals_fit_lem _ _ _ c.totals_fit.ensures (ap not c.if-not-totals_fit.false) in omega (arith, k.active)

pub returns : goal.returns
returns c = totals_given _ _ _ c.totals_fit.ensures (ap not c.if-not-totals_fit.false)
