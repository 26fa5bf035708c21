-- `metadata_first_dot::row_dot` meets its contract. Assumes nothing.
use mathlib.Core.Path.{refl}
use native.Mathlib.Omega.{arith}
use Rattle.lent.proofs.ListLaws.{part_lent}
use Rattle.metadata_first_dot.proofs.CallLaws.{row_words_lem, row_masks_lem, row_vals, row_ready, row_dot_is}
use Rattle.metadata_first_dot.proofs.row_dot.Goals as goal

pub offset_bounds-packed-row : goal.offset_bounds-packed-row
offset_bounds-packed-row c = let h = row_words_lem _ _ _ c.args.operands.valid _ c.requires in
    omega (arith, h)

pub bounds-packed-row : goal.bounds-packed-row
bounds-packed-row c = (row_words_lem _ _ _ c.args.operands.valid _ c.requires).here

pub overflow_add-end : goal.overflow_add-end
overflow_add-end c = let h = row_words_lem _ _ _ c.args.operands.valid _ c.requires in
    omega (arith, h)

pub offset_bounds-packed-row-2 : goal.offset_bounds-packed-row-2
offset_bounds-packed-row-2 c = let h = row_words_lem _ _ _ c.args.operands.valid _ c.requires in
    omega (arith, h)

pub bounds-packed-row-2 : goal.bounds-packed-row-2
bounds-packed-row-2 c = (row_words_lem _ _ _ c.args.operands.valid _ c.requires).next

pub offset_bounds-packed-row-3 : goal.offset_bounds-packed-row-3
offset_bounds-packed-row-3 c = let h = row_vals _ _ _ c.args.operands.valid _ c.requires in
    omega (arith, h)

pub bounds-packed-row-3 : goal.bounds-packed-row-3
bounds-packed-row-3 c = (row_vals _ _ _ c.args.operands.valid _ c.requires).here

pub overflow_add-last : goal.overflow_add-last
overflow_add-last c = let h = row_vals _ _ _ c.args.operands.valid _ c.requires in
    omega (arith, h)

pub offset_bounds-packed-row-4 : goal.offset_bounds-packed-row-4
offset_bounds-packed-row-4 c = let h = row_vals _ _ _ c.args.operands.valid _ c.requires in
    omega (arith, h)

pub bounds-packed-row-4 : goal.bounds-packed-row-4
bounds-packed-row-4 c = (row_vals _ _ _ c.args.operands.valid _ c.requires).next

pub offset_bounds-packed-start : goal.offset_bounds-packed-start
offset_bounds-packed-start c = let h = row_words_lem _ _ _ c.args.operands.valid _ c.requires in
    omega (arith, h)

pub slice_bounds-dot_row-count : goal.slice_bounds-dot_row-count
slice_bounds-dot_row-count c = let h = row_words_lem _ _ _ c.args.operands.valid _ c.requires in
    omega (arith, h)

pub slice_bounds-dot_row-start : goal.slice_bounds-dot_row-start
slice_bounds-dot_row-start c = let h = row_words_lem _ _ _ c.args.operands.valid _ c.requires in
    omega (arith, h)

pub slice_bounds-dot_row-end : goal.slice_bounds-dot_row-end
slice_bounds-dot_row-end c = let h = row_words_lem _ _ _ c.args.operands.valid _ c.requires in
    omega (arith, h)

pub offset_bounds-packed-start-2 : goal.offset_bounds-packed-start-2
offset_bounds-packed-start-2 c = let h = row_masks_lem _ _ _ c.args.operands.valid _ c.requires in
    omega (arith, h)

pub slice_bounds-dot_row-count-2 : goal.slice_bounds-dot_row-count-2
slice_bounds-dot_row-count-2 c = let h = row_masks_lem _ _ _ c.args.operands.valid _ c.requires in
    omega (arith, h)

pub slice_bounds-dot_row-start-2 : goal.slice_bounds-dot_row-start-2
slice_bounds-dot_row-start-2 c = let h = row_masks_lem _ _ _ c.args.operands.valid _ c.requires in
    omega (arith, h)

pub slice_bounds-dot_row-end-2 : goal.slice_bounds-dot_row-end-2
slice_bounds-dot_row-end-2 c = let h = row_masks_lem _ _ _ c.args.operands.valid _ c.requires in
    omega (arith, h)

pub offset_bounds-packed-first : goal.offset_bounds-packed-first
offset_bounds-packed-first c = let h = row_vals _ _ _ c.args.operands.valid _ c.requires in
    omega (arith, h)

pub slice_bounds-dot_row-count-3 : goal.slice_bounds-dot_row-count-3
slice_bounds-dot_row-count-3 c = let h = row_vals _ _ _ c.args.operands.valid _ c.requires in
    omega (arith, h)

pub slice_bounds-dot_row-start-3 : goal.slice_bounds-dot_row-start-3
slice_bounds-dot_row-start-3 c = let h = row_vals _ _ _ c.args.operands.valid _ c.requires in
    omega (arith, h)

pub slice_bounds-dot_row-end-3 : goal.slice_bounds-dot_row-end-3
slice_bounds-dot_row-end-3 c = let h = row_vals _ _ _ c.args.operands.valid _ c.requires in
    omega (arith, h)

pub dot_row-requires : goal.dot_row-requires
dot_row-requires c = row_ready _ _ _ c.args.operands.valid _ c.requires _ _ _ (part_lent _ _ _ _ _ refl refl) (part_lent _ _ _ _ _ refl refl) (part_lent _ _ _ _ _ refl refl)

pub returns : goal.returns
returns c = row_dot_is _ _ _ c.args.operands.valid _ c.requires _ _ _ (part_lent _ _ _ _ _ refl refl) (part_lent _ _ _ _ _ refl refl) (part_lent _ _ _ _ _ refl refl) _ c.dot_row.ensures
