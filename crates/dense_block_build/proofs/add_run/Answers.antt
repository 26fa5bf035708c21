-- `dense_block_build::add_run` meets its contract. Assumes nothing.
use mathlib.Core.Path.{refl}
use lib.ListN.{replicate}
use Rattle.hybit_core.specs.Floats.{zero64}
use Rattle.dense_block.proofs.WidthLaws.{width_six}
use Rattle.dense_block_build.proofs.SizeLaws.{width_pos}
use Rattle.dense_block_build.proofs.LineLaws.{row_fits, merged_run}
use Rattle.dense_block_build.proofs.add_run.Goals as goal

pub returns : goal.returns
returns c = merged_run _ _ _ _ c.merge_line.result (replicate 6 (replicate 6 zero64)) _ _ _ c.width-width.ensures (width_pos c.args.size) (width_six c.args.size) c.requires.inside c.requires.block (row_fits c.args.size _ c.args.row _ c.width-width.ensures c.requires.inside c.requires.block).0 refl c.load_line-line.ensures c.merge_line.ensures c.store_line.ensures
