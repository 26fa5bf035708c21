-- `dense_block_check::count_fast` meets its contract. Assumes nothing.
use mathlib.Core.Path.{refl, sym}
use Rattle.dense_block_check.proofs.FastLaws.{fast_front, fast_end_lem}
use lib.Seq.{length-take-le}
use native.Mathlib.Omega.{arith}
use Rattle.dense_block_check.proofs.count_fast.Goals as goal

pub offset_bounds-blocks-full_blocks : goal.offset_bounds-blocks-full_blocks
offset_bounds-blocks-full_blocks c = omega (arith, fast_end_lem c.args.blocks.size c.args.blocks.nrows _ c.args.blocks.row_ptr.now c.args.blocks.col_idx.now c.requires c.full_blocks.ensures)

pub bounds-blocks-full_blocks : goal.bounds-blocks-full_blocks
bounds-blocks-full_blocks c = omega (arith, fast_end_lem c.args.blocks.size c.args.blocks.nrows _ c.args.blocks.row_ptr.now c.args.blocks.col_idx.now c.requires c.full_blocks.ensures)

pub slice_bounds-count_full-end : goal.slice_bounds-count_full-end
slice_bounds-count_full-end c = let e = fast_end_lem c.args.blocks.size c.args.blocks.nrows _ c.args.blocks.row_ptr.now c.args.blocks.col_idx.now c.requires c.full_blocks.ensures in
    sym (length-take-le _ _ (omega (arith, e.inside)))

pub returns : goal.returns
returns c = fast_front c.args.blocks.size _ _ _ _ _ _ c.args.blocks.row_ptr.now c.args.blocks.col_idx.now c.args.blocks.values.now c.requires c.width-width.ensures c.full_blocks.ensures refl c.count_full.ensures
