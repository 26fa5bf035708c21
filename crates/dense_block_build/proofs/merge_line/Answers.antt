-- `dense_block_build::merge_line` meets its contract. Assumes nothing.
use Rattle.dense_block.proofs.WidthLaws.{width_six}
use Rattle.dense_block_build.proofs.SizeLaws.{width_pos}
use Rattle.dense_block_build.proofs.MergeLaws.{merging_none, merging_more, merging_done}
use borrow.Author.Rules.{rules}
use Rattle.dense_block_build.proofs.merge_line.Goals as goal

pub loop-k-init : goal.loop-k-init
loop-k-init c = merging_none _ _ _ _ c.well_formed.1.0.1.0.1

pub loop-k-preserved : goal.loop-k-preserved
loop-k-preserved c = merging_more _ _ _ _ _ _ c.loop-k.invariant c.args.entries.paired _ (search rules) (width_six c.args.size) (width_pos c.args.size) c.place_of-j.ensures

pub returns : goal.returns
returns c = merging_done _ _ _ _ _ _ c.loop-k.invariant c.args.entries.paired (search rules)
