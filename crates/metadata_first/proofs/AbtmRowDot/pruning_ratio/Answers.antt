-- `metadata_first::AbtmRowDot::pruning_ratio` meets its contract. Assumes nothing.
use mathlib.Core.Path.{ap, ◌∙◌}
use Rattle.metadata_first.specs.Dot.{pruning_ratio}
use Rattle.metadata_first.proofs.AbtmRowDot.pruning_ratio.Goals as goal

pub returns : goal.returns
returns c = c.pruning_ratio.ensures ∙ ap pruning_ratio c.counts.ensures
