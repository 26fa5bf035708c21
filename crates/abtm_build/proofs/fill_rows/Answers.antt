-- `abtm_build::fill_rows` meets its contract. Assumes nothing.
use mathlib.Core.Path.{refl, sym, ◌∙◌}
use native.Mathlib.Omega.{arith}
use Rattle.csr32.proofs.CsrLaws.{valid}
use Rattle.csr32.proofs.WindowLaws.{zeros_as}
use Rattle.abtm_build.proofs.WindowLaws.{sized_as}
use Rattle.abtm_build.proofs.RowsLaws.{entries_as, filling_none, filling_bounded, filling_more, filling_done}
use Rattle.abtm_build.proofs.fill_rows.Goals as goal

pub loop-row-init : goal.loop-row-init
loop-row-init c = (refl, refl, refl, c.requires.zeros, filling_none _ _ _ _ _ _ _)

pub fill_row-at-requires : goal.fill_row-at-requires
fill_row-at-requires c = let ok = valid _ c.args.csr.valid in
    let f = c.loop-row.invariant.4 in
    record { sized = sized_as _ _ _ _ _ _ c.loop-row.invariant.0 c.loop-row.invariant.1 c.loop-row.invariant.2 c.requires.sized; zeros = c.loop-row.invariant.3; lists = (filling_bounded _ _ _ _ _ _ _ ok _ _ _ _ _ _ _ f, record { offsets_same = omega (arith, f.same_offsets, f.same_masks, c.requires.lists.offsets_same); metas_same = omega (arith, f.same_metas, f.same_masks, c.requires.lists.metas_same); few_tiles = omega (arith, f.same_masks, c.requires.lists.few_tiles); few_slots = omega (arith, f.same_vals, c.requires.lists.few_slots) }) }

pub loop-row-preserved : goal.loop-row-preserved
loop-row-preserved c = let ok = valid _ c.args.csr.valid in
    let f = c.loop-row.invariant.4 in
    (c.fill_row-at.auto.sums ∙ c.loop-row.invariant.0, c.fill_row-at.auto.words ∙ c.loop-row.invariant.1, c.fill_row-at.auto.blocks ∙ c.loop-row.invariant.2, zeros_as _ _ _ c.fill_row-at.ensures.window (sym c.fill_row-at.auto.sums), filling_more _ _ _ _ _ _ _ ok _ _ _ _ _ _ _ f c.loop-row-test.true _ (entries_as _ _ _ _ c.row.ensures.cols c.row.ensures.vals) _ _ _ _ _ (rw c.row.ensures.ncols at c.fill_row-at.ensures.tiles) _ c.narrow.ensures c.requires.lists.few_tiles c.requires.pointers c.fill_row-at.auto.masks c.fill_row-at.auto.values c.fill_row-at.auto.value_offsets c.fill_row-at.auto.metas)

pub shape_of-sums : goal.shape_of-sums
shape_of-sums c = c.loop-row.invariant.0

pub shape_of-words : goal.shape_of-words
shape_of-words c = c.loop-row.invariant.1

pub shape_of-blocks : goal.shape_of-blocks
shape_of-blocks c = c.loop-row.invariant.2

pub shape_of-row_tile_ptr : goal.shape_of-row_tile_ptr
shape_of-row_tile_ptr c = c.loop-row.invariant.4.same_out

pub shape_of-masks : goal.shape_of-masks
shape_of-masks c = c.loop-row.invariant.4.same_masks

pub shape_of-value_offsets : goal.shape_of-value_offsets
shape_of-value_offsets c = c.loop-row.invariant.4.same_offsets

pub shape_of-metas : goal.shape_of-metas
shape_of-metas c = c.loop-row.invariant.4.same_metas

pub shape_of-values : goal.shape_of-values
shape_of-values c = c.loop-row.invariant.4.same_vals

pub returns : goal.returns
returns c = filling_done _ _ _ _ _ _ _ (valid _ c.args.csr.valid) _ _ _ _ _ _ _ c.loop-row.invariant.4 (omega (arith, c.loop-row-test.false))
