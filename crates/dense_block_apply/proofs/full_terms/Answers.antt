-- `dense_block_apply::full_terms` meets its contract. Assumes nothing.
use Rattle.dense_block_apply.proofs.TermLaws.{full_is}
use Rattle.dense_block_apply.proofs.full_terms.Goals as goal

pub returns : goal.returns
returns g c = full_is _ _ c.requires.width _ _ _ c.add_terms.ensures
