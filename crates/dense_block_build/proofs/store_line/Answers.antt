-- `dense_block_build::store_line` meets its contract. Assumes nothing.
use mathlib.Core.Path.{◌∙◌}
use Rattle.dense_block_build.proofs.FlatLaws.{line_stored}
use Rattle.dense_block_build.proofs.store_line.Goals as goal

pub returns : goal.returns
returns c = c.copy_from_slice.ensures.after ∙ line_stored _ _ (rw c.well_formed.1.0.1.0.1 c.requires.0)
