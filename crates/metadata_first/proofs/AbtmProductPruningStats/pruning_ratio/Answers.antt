-- `metadata_first::AbtmProductPruningStats::pruning_ratio` meets its contract. Assumes nothing.
use Rattle.metadata_first.proofs.AbtmProductPruningStats.pruning_ratio.Goals as goal

pub returns : goal.returns
returns c = c.ratio.ensures
