use Rattle.hybit_core.proofs.BoolLaws.{tests}
use Rattle.hybit_core.specs.Domain.{sizes_fit}
use Rattle.std.proofs.Common.{rules}
use Rattle.hybit_core.proofs.sizes_fit.Goals as goal

pub returns-then-not-dimension_fits : goal.returns-then-not-dimension_fits
unfolding sizes_fit
returns-then-not-dimension_fits c = search (tests, rules)

pub returns-then-not-dimension_fits-2 : goal.returns-then-not-dimension_fits-2
unfolding sizes_fit
returns-then-not-dimension_fits-2 c = search (tests, rules)

pub returns-then-not-entries_fit : goal.returns-then-not-entries_fit
unfolding sizes_fit
returns-then-not-entries_fit c = search (tests, rules)

pub returns : goal.returns
unfolding sizes_fit
returns c = search (tests, rules)
