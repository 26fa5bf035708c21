-- `metadata_first_build::pack_rows` meets its contract. Assumes nothing.
use native.Mathlib.Omega.{arith}
use lib.ListN.{length-set}
use Rattle.metadata_first_build.proofs.RowsLaws.{packing_rows, packing_none, packing_few, packing_part, packing_row, packing_room, packing_zeros, packing_more, packing_same, packing_done}
use borrow.Author.Rules.{rules}
use Rattle.metadata_first_build.proofs.pack_rows.Goals as goal

pub loop-row-init : goal.loop-row-init
loop-row-init c = packing_none _ c.args.source.csr.valid _ c.args.source.built _ _ _ _ c.requires.pointers c.requires.zeros

pub bounds-row_value_ptr-row : goal.bounds-row_value_ptr-row
bounds-row_value_ptr-row c = omega (arith, c.loop-row.invariant.long_ptr, c.loop-row-test.true, c.min-nrows.ensures)

pub overflow_add-to : goal.overflow_add-to
overflow_add-to c = let h = packing_part _ c.args.source.csr.valid _ c.args.source.built _ _ _ _ _ _ _ _ c.loop-row.invariant (omega (arith, c.loop-row-test.true, c.min-nrows.ensures)) _ _ c.row-row_words.ensures.words c.row-row_words.ensures.masks _ c.count_bits.ensures in
    search rules

pub offset_bounds-packed-at : goal.offset_bounds-packed-at
offset_bounds-packed-at c = let h = packing_few _ c.args.source.csr.valid _ c.args.source.built _ _ _ _ _ _ _ _ c.loop-row.invariant in
    search rules

pub slice_bounds-pack_row-count : goal.slice_bounds-pack_row-count
slice_bounds-pack_row-count c = let h = packing_part _ c.args.source.csr.valid _ c.args.source.built _ _ _ _ _ _ _ _ c.loop-row.invariant (omega (arith, c.loop-row-test.true, c.min-nrows.ensures)) _ _ c.row-row_words.ensures.words c.row-row_words.ensures.masks _ c.count_bits.ensures in
    search rules

pub slice_bounds-pack_row-start : goal.slice_bounds-pack_row-start
slice_bounds-pack_row-start c = let h = packing_part _ c.args.source.csr.valid _ c.args.source.built _ _ _ _ _ _ _ _ c.loop-row.invariant (omega (arith, c.loop-row-test.true, c.min-nrows.ensures)) _ _ c.row-row_words.ensures.words c.row-row_words.ensures.masks _ c.count_bits.ensures in
    search rules

pub slice_bounds-pack_row-end : goal.slice_bounds-pack_row-end
slice_bounds-pack_row-end c = let h = packing_part _ c.args.source.csr.valid _ c.args.source.built _ _ _ _ _ _ _ _ c.loop-row.invariant (omega (arith, c.loop-row-test.true, c.min-nrows.ensures)) _ _ c.row-row_words.ensures.words c.row-row_words.ensures.masks _ c.count_bits.ensures in
    search rules

pub pack_row-requires : goal.pack_row-requires
pack_row-requires c = rw c.row.ensures.ncols (record { words = packing_row _ c.args.source.csr.valid _ c.args.source.built _ _ _ _ _ _ _ _ c.loop-row.invariant (omega (arith, c.loop-row-test.true, c.min-nrows.ensures)) _ _ c.row-row_words.ensures.words c.row-row_words.ensures.masks _ c.count_bits.ensures _ _ c.row.ensures.cols c.row.ensures.vals; room = packing_room _ c.args.source.csr.valid _ c.args.source.built _ _ _ _ _ _ _ _ c.loop-row.invariant (omega (arith, c.loop-row-test.true, c.min-nrows.ensures)) _ _ c.row-row_words.ensures.words c.row-row_words.ensures.masks _ c.count_bits.ensures _ _ c.row.ensures.cols c.row.ensures.vals c.requires.room; zeros = packing_zeros _ c.args.source.csr.valid _ c.args.source.built _ _ _ _ _ _ _ _ c.loop-row.invariant (omega (arith, c.loop-row-test.true, c.min-nrows.ensures)) _ _ c.row-row_words.ensures.words c.row-row_words.ensures.masks _ c.count_bits.ensures _ _ c.row.ensures.cols c.row.ensures.vals })

pub loop-row-preserved : goal.loop-row-preserved
loop-row-preserved c = packing_more _ c.args.source.csr.valid _ c.args.source.built _ _ _ _ _ _ _ _ c.loop-row.invariant (omega (arith, c.loop-row-test.true, c.min-nrows.ensures)) _ _ c.row-row_words.ensures.words c.row-row_words.ensures.masks _ c.count_bits.ensures _ _ c.row.ensures.cols c.row.ensures.vals _ _ _ _ c.narrow.ensures c.pack_row.auto.bits c.pack_row.auto.starts (rw c.row.ensures.ncols at c.pack_row.ensures)

pub bounds-row_value_ptr-csr : goal.bounds-row_value_ptr-csr
bounds-row_value_ptr-csr c = omega (arith, c.loop-row.invariant.long_ptr)

pub shape_of-bits : goal.shape_of-bits
shape_of-bits c = c.loop-row.invariant.same_bits

pub shape_of-starts : goal.shape_of-starts
shape_of-starts c = c.loop-row.invariant.same_starts

pub shape_of-row_value_ptr : goal.shape_of-row_value_ptr
shape_of-row_value_ptr c = omega (arith, length-set c.loop-row.row_value_ptr c.args.source.csr.matrix.nrows c.narrow-2.result, c.loop-row.invariant.long_ptr, c.requires.pointers)

pub shape_of-packed : goal.shape_of-packed
shape_of-packed c = packing_same _ c.args.source.csr.valid _ c.args.source.built _ _ _ _ _ _ _ _ c.loop-row.invariant _ c.requires.zeros

pub returns : goal.returns
returns c = let rest = packing_done _ c.args.source.csr.valid _ c.args.source.built _ _ _ _ _ _ _ _ c.loop-row.invariant _ (omega (arith, c.loop-row-test.false, c.min-nrows.ensures, packing_rows _ c.args.source.csr.valid _ c.args.source.built c.args.bits.now c.args.starts.now)) c.narrow-2.ensures in record { pointers = rest.0; values = rest.1 }
