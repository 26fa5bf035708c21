-- `dense_block_build::build_values` meets its contract. Assumes nothing.
use Rattle.csr32.proofs.CsrLaws.{valid}
use Rattle.levels.proofs.LevelLaws.{zeros_long}
use Rattle.dense_block_build.proofs.FillLaws.{local_words, local_bits, local_starts}
use Rattle.dense_block_build.proofs.build_values.Goals as goal

pub slice_bounds-bits-end : goal.slice_bounds-bits-end
slice_bounds-bits-end c = local_words c.args.layout.size _ _ (valid _ c.args.layout.csr.valid).cols_in c.blocks_for.ensures _ c.div_ceil-nwords.ensures

pub slice_bounds-fill_values-end : goal.slice_bounds-fill_values-end
slice_bounds-fill_values-end c = zeros_long _ 5462 (local_words c.args.layout.size _ _ (valid _ c.args.layout.csr.valid).cols_in c.blocks_for.ensures _ c.div_ceil-nwords.ensures)

pub fill_values-requires : goal.fill_values-requires
fill_values-requires c = let v = (valid _ c.args.layout.csr.valid).cols_in in
    record { empty = local_bits c.args.layout.size _ _ v c.blocks_for.ensures _ c.div_ceil-nwords.ensures; room = local_starts c.args.layout.size _ _ v c.blocks_for.ensures; zeros = c.requires }
