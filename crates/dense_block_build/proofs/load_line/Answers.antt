-- `dense_block_build::load_line` meets its contract. Assumes nothing.
use Rattle.dense_block_build.proofs.FlatLaws.{line_loaded}
use Rattle.dense_block_build.proofs.load_line.Goals as goal

pub returns : goal.returns
returns c = line_loaded _ c.copy_from_slice.new.self _ _ c.requires.1 c.copy_from_slice.ensures.after
