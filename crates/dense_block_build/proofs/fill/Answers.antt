-- `dense_block_build::fill` meets its contract. Assumes nothing.
use Rattle.dense_block_build.proofs.BuildLaws.{used_part, used_length, pointers_count, slots_zeros, values_written, figures_are}
use Rattle.dense_block_build.proofs.fill.Goals as goal

pub slice_bounds-layout-end : goal.slice_bounds-layout-end
slice_bounds-layout-end c = used_length _ _ _ _ c.requires.pointers (pointers_count _ c.args.size c.args.csr.valid _ c.blocks_for-bands.ensures)

pub invariant_of-layout : goal.invariant_of-layout
invariant_of-layout c = record { pointers = used_part _ _ _ _ c.requires.pointers (pointers_count _ c.args.size c.args.csr.valid _ c.blocks_for-bands.ensures); columns = used_part _ _ _ _ c.requires.columns c.requires.count }

pub build_values-requires : goal.build_values-requires
build_values-requires c = slots_zeros _ c.args.size c.args.csr.valid _ _ c.requires.count c.width-width.ensures _ c.requires.room _ c.clear_from.ensures _ (used_part _ _ _ _ c.requires.columns c.requires.count)

pub returns : goal.returns
returns c = record { figures = figures_are _ c.args.size c.args.csr.valid _ _ c.requires.count c.width-width.ensures _ _ _ c.blocks_for-bands.ensures c.count_structural.ensures c.count_valid.ensures; values = values_written _ c.args.size c.args.csr.valid _ _ c.requires.count c.width-width.ensures _ c.requires.room _ c.clear_from.ensures _ c.build_values.ensures }
