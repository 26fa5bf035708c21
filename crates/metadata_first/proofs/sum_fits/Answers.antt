-- `metadata_first::sum_fits` meets its contract. Assumes nothing.
use mathlib.Core.Path.{◌∙◌}
use Rattle.metadata_first.proofs.SumLaws.{sum_test}
use Rattle.metadata_first.proofs.sum_fits.Goals as goal

pub returns : goal.returns
returns c = c.is_some.ensures ∙ sum_test _ _ _ c.checked_add.ensures
