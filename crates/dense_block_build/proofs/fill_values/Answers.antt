-- `dense_block_build::fill_values` meets its contract. Assumes nothing.
use mathlib.Core.Path.{refl}
use Rattle.dense_block_build.proofs.SizeLaws.{square_is}
use Rattle.dense_block_build.proofs.FillLaws.{in_bands, pointers_here, pointers_next, band_order, band-inside, filling_none, filling_same, filling_done, filling_notes, filling_start, filling_end, filling_asks, filling_more}
use borrow.Author.Rules.{rules}
use Rattle.dense_block_build.proofs.fill_values.Goals as goal

pub loop-band-init : goal.loop-band-init
loop-band-init c = filling_none _ c.args.layout.size _ _ c.args.layout.pointers c.args.layout.columns _ _ _ c.requires.empty c.requires.zeros

pub offset_bounds-layout-band : goal.offset_bounds-layout-band
offset_bounds-layout-band c = let h = pointers_here _ c.args.layout.size _ _ c.args.layout.pointers c.args.layout.columns _ (in_bands c.args.layout.size _ _ _ c.blocks_for-bands.ensures c.loop-band-test.true) in
    search rules

pub bounds-layout-band : goal.bounds-layout-band
bounds-layout-band c = pointers_here _ c.args.layout.size _ _ c.args.layout.pointers c.args.layout.columns _ (in_bands c.args.layout.size _ _ _ c.blocks_for-bands.ensures c.loop-band-test.true)

pub offset_bounds-layout-band-in-loop-band : goal.offset_bounds-layout-band-in-loop-band
offset_bounds-layout-band-in-loop-band c = let h = pointers_next _ c.args.layout.size _ _ c.args.layout.pointers c.args.layout.columns _ (in_bands c.args.layout.size _ _ _ c.blocks_for-bands.ensures c.loop-band-test.true) in
    search rules

pub bounds-layout-band-in-loop-band : goal.bounds-layout-band-in-loop-band
bounds-layout-band-in-loop-band c = pointers_next _ c.args.layout.size _ _ c.args.layout.pointers c.args.layout.columns _ (in_bands c.args.layout.size _ _ _ c.blocks_for-bands.ensures c.loop-band-test.true)

pub slice_bounds-keys-count : goal.slice_bounds-keys-count
slice_bounds-keys-count c = let h = in_bands c.args.layout.size _ _ _ c.blocks_for-bands.ensures c.loop-band-test.true in
    let o = band_order _ c.args.layout.size _ _ c.args.layout.pointers c.args.layout.columns _ h _ _ refl refl in
    let l = band-inside _ c.args.layout.size _ _ c.args.layout.pointers c.args.layout.columns _ h _ _ refl refl in
    search rules

pub slice_bounds-keys-start : goal.slice_bounds-keys-start
slice_bounds-keys-start c = let h = in_bands c.args.layout.size _ _ _ c.blocks_for-bands.ensures c.loop-band-test.true in
    let o = band_order _ c.args.layout.size _ _ c.args.layout.pointers c.args.layout.columns _ h _ _ refl refl in
    let l = band-inside _ c.args.layout.size _ _ c.args.layout.pointers c.args.layout.columns _ h _ _ refl refl in
    search rules

pub slice_bounds-keys-end : goal.slice_bounds-keys-end
slice_bounds-keys-end c = let h = in_bands c.args.layout.size _ _ _ c.blocks_for-bands.ensures c.loop-band-test.true in
    let o = band_order _ c.args.layout.size _ _ c.args.layout.pointers c.args.layout.columns _ h _ _ refl refl in
    let l = band-inside _ c.args.layout.size _ _ c.args.layout.pointers c.args.layout.columns _ h _ _ refl refl in
    search rules

pub note_columns-requires : goal.note_columns-requires
note_columns-requires c = let h = in_bands c.args.layout.size _ _ _ c.blocks_for-bands.ensures c.loop-band-test.true in let rest = filling_notes _ c.args.layout.size _ _ c.args.layout.pointers c.args.layout.columns _ _ _ _ _ c.loop-band.invariant h _ _ refl refl c.args.layout.csr.valid _ c.blocks_for-n.ensures c.requires.room in record { few = rest.0; rising = rest.1.0; empty = rest.1.1.0; room = rest.1.1.1 }

pub slice_bounds-add_band-count : goal.slice_bounds-add_band-count
slice_bounds-add_band-count c = let h = in_bands c.args.layout.size _ _ _ c.blocks_for-bands.ensures c.loop-band-test.true in
    let e = square_is c.args.layout.size _ c.width-width.ensures in
    let o = filling_start _ c.args.layout.size _ _ c.args.layout.pointers c.args.layout.columns _ _ _ _ _ c.loop-band.invariant h _ _ refl refl _ e in
    let l = filling_end _ c.args.layout.size _ _ c.args.layout.pointers c.args.layout.columns _ _ _ _ _ c.loop-band.invariant h _ _ refl refl _ e in
    let q = filling_same _ c.args.layout.size _ _ c.args.layout.pointers c.args.layout.columns _ _ _ _ _ c.loop-band.invariant _ c.requires.zeros in
    search rules

pub slice_bounds-add_band-start : goal.slice_bounds-add_band-start
slice_bounds-add_band-start c = let h = in_bands c.args.layout.size _ _ _ c.blocks_for-bands.ensures c.loop-band-test.true in
    let e = square_is c.args.layout.size _ c.width-width.ensures in
    let o = filling_start _ c.args.layout.size _ _ c.args.layout.pointers c.args.layout.columns _ _ _ _ _ c.loop-band.invariant h _ _ refl refl _ e in
    let l = filling_end _ c.args.layout.size _ _ c.args.layout.pointers c.args.layout.columns _ _ _ _ _ c.loop-band.invariant h _ _ refl refl _ e in
    let q = filling_same _ c.args.layout.size _ _ c.args.layout.pointers c.args.layout.columns _ _ _ _ _ c.loop-band.invariant _ c.requires.zeros in
    search rules

pub slice_bounds-add_band-end : goal.slice_bounds-add_band-end
slice_bounds-add_band-end c = let h = in_bands c.args.layout.size _ _ _ c.blocks_for-bands.ensures c.loop-band-test.true in
    let e = square_is c.args.layout.size _ c.width-width.ensures in
    let o = filling_start _ c.args.layout.size _ _ c.args.layout.pointers c.args.layout.columns _ _ _ _ _ c.loop-band.invariant h _ _ refl refl _ e in
    let l = filling_end _ c.args.layout.size _ _ c.args.layout.pointers c.args.layout.columns _ _ _ _ _ c.loop-band.invariant h _ _ refl refl _ e in
    let q = filling_same _ c.args.layout.size _ _ c.args.layout.pointers c.args.layout.columns _ _ _ _ _ c.loop-band.invariant _ c.requires.zeros in
    search rules

pub add_band-requires : goal.add_band-requires
add_band-requires c = let h = in_bands c.args.layout.size _ _ _ c.blocks_for-bands.ensures c.loop-band-test.true in
    let e = square_is c.args.layout.size _ c.width-width.ensures in let rest = filling_asks _ c.args.layout.size _ _ c.args.layout.pointers c.args.layout.columns _ _ _ _ _ c.loop-band.invariant h _ _ refl refl _ e _ _ _ c.blocks_for-n.ensures c.note_columns.ensures.bits c.note_columns.ensures.ranks in record { inside = rest.0; noted = rest.1.0; ranks = rest.1.1.0; zeros = rest.1.1.1 }

pub loop-band-preserved : goal.loop-band-preserved
loop-band-preserved c = let h = in_bands c.args.layout.size _ _ _ c.blocks_for-bands.ensures c.loop-band-test.true in
    let e = square_is c.args.layout.size _ c.width-width.ensures in
    filling_more _ c.args.layout.size _ _ c.args.layout.pointers c.args.layout.columns _ _ _ _ _ c.loop-band.invariant h _ _ refl refl _ e _ _ _ _ _ c.blocks_for-n.ensures c.note_columns.ensures.bits c.forget.ensures c.note_columns.auto.starts c.add_band.ensures

pub returns : goal.returns
returns c = filling_done _ c.args.layout.size _ _ c.args.layout.pointers c.args.layout.columns _ _ _ _ _ c.loop-band.invariant _ c.blocks_for-bands.ensures c.loop-band-test.false
