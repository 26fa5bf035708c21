-- `dense_block_build::count_valid` meets its contract. Assumes nothing.
use mathlib.Core.Path.{refl}
use native.Mathlib.Omega.{arith}
use Rattle.dense_block.proofs.WidthLaws.{width_six}
use Rattle.dense_block_build.proofs.FillLaws.{in_bands, pointers_here, pointers_next, band_order, band-inside, part_is}
use Rattle.dense_block_build.proofs.SlotLaws.{counting_none, counting_done, counting_asks, counting_fits, counting_more}
use borrow.Author.Rules.{rules}
use Rattle.dense_block_build.proofs.count_valid.Goals as goal

pub loop-band-init : goal.loop-band-init
loop-band-init c = counting_none _ _

pub offset_bounds-layout-band : goal.offset_bounds-layout-band
offset_bounds-layout-band c = let h = pointers_here _ c.args.layout.size _ _ c.args.layout.pointers c.args.layout.columns _ (in_bands c.args.layout.size _ _ _ c.blocks_for-band-end.ensures c.loop-band-test.true) in
    search rules

pub bounds-layout-band : goal.bounds-layout-band
bounds-layout-band c = pointers_here _ c.args.layout.size _ _ c.args.layout.pointers c.args.layout.columns _ (in_bands c.args.layout.size _ _ _ c.blocks_for-band-end.ensures c.loop-band-test.true)

pub offset_bounds-layout-band-in-loop-band : goal.offset_bounds-layout-band-in-loop-band
offset_bounds-layout-band-in-loop-band c = let h = pointers_next _ c.args.layout.size _ _ c.args.layout.pointers c.args.layout.columns _ (in_bands c.args.layout.size _ _ _ c.blocks_for-band-end.ensures c.loop-band-test.true) in
    search rules

pub bounds-layout-band-in-loop-band : goal.bounds-layout-band-in-loop-band
bounds-layout-band-in-loop-band c = pointers_next _ c.args.layout.size _ _ c.args.layout.pointers c.args.layout.columns _ (in_bands c.args.layout.size _ _ _ c.blocks_for-band-end.ensures c.loop-band-test.true)

pub slice_bounds-row_slots-count : goal.slice_bounds-row_slots-count
slice_bounds-row_slots-count c = let h = in_bands c.args.layout.size _ _ _ c.blocks_for-band-end.ensures c.loop-band-test.true in
    let o = band_order _ c.args.layout.size _ _ c.args.layout.pointers c.args.layout.columns _ h _ _ refl refl in
    let l = band-inside _ c.args.layout.size _ _ c.args.layout.pointers c.args.layout.columns _ h _ _ refl refl in
    search rules

pub slice_bounds-row_slots-start : goal.slice_bounds-row_slots-start
slice_bounds-row_slots-start c = let h = in_bands c.args.layout.size _ _ _ c.blocks_for-band-end.ensures c.loop-band-test.true in
    let o = band_order _ c.args.layout.size _ _ c.args.layout.pointers c.args.layout.columns _ h _ _ refl refl in
    let l = band-inside _ c.args.layout.size _ _ c.args.layout.pointers c.args.layout.columns _ h _ _ refl refl in
    search rules

pub slice_bounds-row_slots-end : goal.slice_bounds-row_slots-end
slice_bounds-row_slots-end c = let h = in_bands c.args.layout.size _ _ _ c.blocks_for-band-end.ensures c.loop-band-test.true in
    let o = band_order _ c.args.layout.size _ _ c.args.layout.pointers c.args.layout.columns _ h _ _ refl refl in
    let l = band-inside _ c.args.layout.size _ _ c.args.layout.pointers c.args.layout.columns _ h _ _ refl refl in
    search rules

pub row_slots-slots-requires : goal.row_slots-slots-requires
row_slots-slots-requires c = let h = in_bands c.args.layout.size _ _ _ c.blocks_for-band-end.ensures c.loop-band-test.true in
    record { few = omega (arith, width_six c.args.layout.size, c.width-width.ensures, c.min-rows.ensures); columns = counting_asks _ c.args.layout.size c.args.layout.csr.valid _ _ c.loop-band.invariant h _ c.width-width.ensures _ (part_is _ c.args.layout.size _ _ c.args.layout.pointers c.args.layout.columns _ h _ _ refl refl) }

pub overflow_add-slots : goal.overflow_add-slots
overflow_add-slots c = let h = in_bands c.args.layout.size _ _ _ c.blocks_for-band-end.ensures c.loop-band-test.true in
    record { fits = counting_fits _ c.args.layout.size c.args.layout.csr.valid _ _ c.loop-band.invariant h _ c.width-width.ensures _ (part_is _ c.args.layout.size _ _ c.args.layout.pointers c.args.layout.columns _ h _ _ refl refl) _ _ c.min-rows.ensures c.row_slots-slots.ensures }

pub loop-band-preserved : goal.loop-band-preserved
loop-band-preserved c = let h = in_bands c.args.layout.size _ _ _ c.blocks_for-band-end.ensures c.loop-band-test.true in
    counting_more _ c.args.layout.size c.args.layout.csr.valid _ _ c.loop-band.invariant h _ c.width-width.ensures _ (part_is _ c.args.layout.size _ _ c.args.layout.pointers c.args.layout.columns _ h _ _ refl refl) _ _ c.min-rows.ensures c.row_slots-slots.ensures

pub returns : goal.returns
returns c = counting_done _ c.args.layout.size c.args.layout.csr.valid _ _ c.loop-band.invariant _ c.blocks_for-band-end.ensures c.loop-band-test.false
