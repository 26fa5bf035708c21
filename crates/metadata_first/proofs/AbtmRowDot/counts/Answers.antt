-- `AbtmRowDot::counts` meets its contract. Assumes nothing.
use mathlib.Core.Path.{refl}
use Rattle.metadata_first.proofs.AbtmRowDot.counts.Goals as goal

pub returns : goal.returns
returns c = refl
