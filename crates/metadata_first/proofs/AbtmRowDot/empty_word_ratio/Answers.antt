-- `metadata_first::AbtmRowDot::empty_word_ratio` meets its contract. Assumes nothing.
use mathlib.Core.Path.{ap, ◌∙◌}
use Rattle.metadata_first.specs.Dot.{empty_word_ratio}
use Rattle.metadata_first.proofs.AbtmRowDot.empty_word_ratio.Goals as goal

pub returns : goal.returns
returns c = c.empty_word_ratio.ensures ∙ ap empty_word_ratio c.counts.ensures
