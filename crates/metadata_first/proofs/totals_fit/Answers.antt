-- `metadata_first::totals_fit` meets its contract. Assumes nothing.
use Rattle.hybit_core.proofs.BoolLaws.{tests}
use Rattle.metadata_first.specs.Dot.{totals_fit}
use borrow.Author.Rules.{rules}
use Rattle.metadata_first.proofs.totals_fit.Goals as goal

pub returns-then-not-sum_fits : goal.returns-then-not-sum_fits
unfolding totals_fit
returns-then-not-sum_fits c = search (tests, rules)

pub returns-then-not-sum_fits-2 : goal.returns-then-not-sum_fits-2
unfolding totals_fit
returns-then-not-sum_fits-2 c = search (tests, rules)

pub returns-then-not-sum_fits-3 : goal.returns-then-not-sum_fits-3
unfolding totals_fit
returns-then-not-sum_fits-3 c = search (tests, rules)

pub returns-then-not-sum_fits-4 : goal.returns-then-not-sum_fits-4
unfolding totals_fit
returns-then-not-sum_fits-4 c = search (tests, rules)

pub returns : goal.returns
unfolding totals_fit
returns c = search (tests, rules)
