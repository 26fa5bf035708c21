-- `metadata_first::AbtmProductPruningStats::empty_word_ratio` meets its contract. Assumes nothing.
use Rattle.metadata_first.proofs.SumLaws.{none-empty}
use Rattle.metadata_first.proofs.AbtmProductPruningStats.empty_word_ratio.Goals as goal

pub returns-then-self : goal.returns-then-self
returns-then-self c = none-empty _ _ _ c.ratio.ensures c.if-self.true

pub returns : goal.returns
returns c = c.ratio-2.ensures
