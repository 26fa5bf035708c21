-- `abtm_apply::fill_product` meets its contract. Assumes nothing.
use mathlib.Core.Path.{refl}
use native.Mathlib.Omega.{arith}
use Rattle.abtm_check.proofs.TilesLaws.{row_places}
use Rattle.abtm_apply.proofs.ProductLaws.{rows_none, rows_few, lent_inside, row_number, rows-room, rows_more, rows_done, tiles_good}
use Rattle.abtm_apply.proofs.fill_product.Goals as goal

pub loop-row-init : goal.loop-row-init
loop-row-init c = rows_none _ _ _

pub offset_bounds-tiles-row : goal.offset_bounds-tiles-row
offset_bounds-tiles-row c = omega (arith, rows_few _ _ _ c.requires)

pub bounds-tiles-row : goal.bounds-tiles-row
bounds-tiles-row c = omega (arith, (row_places _ (tiles_good _ _ _ c.requires) c.loop-row.row _ _ (omega arith) refl refl).here)

pub offset_bounds-tiles-row-in-loop-row : goal.offset_bounds-tiles-row-in-loop-row
offset_bounds-tiles-row-in-loop-row c = omega (arith, rows_few _ _ _ c.requires)

pub bounds-tiles-row-in-loop-row : goal.bounds-tiles-row-in-loop-row
bounds-tiles-row-in-loop-row c = omega (arith, (row_places _ (tiles_good _ _ _ c.requires) c.loop-row.row _ _ (omega arith) refl refl).next)

pub slice_bounds-part-count : goal.slice_bounds-part-count
slice_bounds-part-count c = let p = row_places _ (tiles_good _ _ _ c.requires) c.loop-row.row _ _ (omega arith) refl refl in
    omega (arith, p.order, p.in_masks)

pub slice_bounds-part-start : goal.slice_bounds-part-start
slice_bounds-part-start c = let p = row_places _ (tiles_good _ _ _ c.requires) c.loop-row.row _ _ (omega arith) refl refl in
    omega (arith, p.order, p.in_masks)

pub slice_bounds-part-end : goal.slice_bounds-part-end
slice_bounds-part-end c = let p = row_places _ (tiles_good _ _ _ c.requires) c.loop-row.row _ _ (omega arith) refl refl in
    omega (arith, p.order, p.in_masks)

pub slice_bounds-part-count-in-loop-row : goal.slice_bounds-part-count-in-loop-row
slice_bounds-part-count-in-loop-row c = let p = row_places _ (tiles_good _ _ _ c.requires) c.loop-row.row _ _ (omega arith) refl refl in
    omega (arith, p.order, p.in_offsets)

pub slice_bounds-part-start-in-loop-row : goal.slice_bounds-part-start-in-loop-row
slice_bounds-part-start-in-loop-row c = let p = row_places _ (tiles_good _ _ _ c.requires) c.loop-row.row _ _ (omega arith) refl refl in
    omega (arith, p.order, p.in_offsets)

pub slice_bounds-part-end-in-loop-row : goal.slice_bounds-part-end-in-loop-row
slice_bounds-part-end-in-loop-row c = let p = row_places _ (tiles_good _ _ _ c.requires) c.loop-row.row _ _ (omega arith) refl refl in
    omega (arith, p.order, p.in_offsets)

pub slice_bounds-part-count-in-loop-row-2 : goal.slice_bounds-part-count-in-loop-row-2
slice_bounds-part-count-in-loop-row-2 c = let p = row_places _ (tiles_good _ _ _ c.requires) c.loop-row.row _ _ (omega arith) refl refl in
    omega (arith, p.order, p.in_metas)

pub slice_bounds-part-start-in-loop-row-2 : goal.slice_bounds-part-start-in-loop-row-2
slice_bounds-part-start-in-loop-row-2 c = let p = row_places _ (tiles_good _ _ _ c.requires) c.loop-row.row _ _ (omega arith) refl refl in
    omega (arith, p.order, p.in_metas)

pub slice_bounds-part-end-in-loop-row-2 : goal.slice_bounds-part-end-in-loop-row-2
slice_bounds-part-end-in-loop-row-2 c = let p = row_places _ (tiles_good _ _ _ c.requires) c.loop-row.row _ _ (omega arith) refl refl in
    omega (arith, p.order, p.in_metas)

pub row_sum-requires : goal.row_sum-requires
row_sum-requires c = lent_inside _ _ _ c.requires c.loop-row.row _ _ (omega arith) refl refl

pub offset_bounds-y-row : goal.offset_bounds-y-row
offset_bounds-y-row c = omega (arith, rows_few _ _ _ c.requires)

pub bounds-y-row : goal.bounds-y-row
bounds-y-row c = rows-room _ _ _ c.requires _ refl _ _ c.loop-row.invariant (omega arith)

pub loop-row-preserved : goal.loop-row-preserved
loop-row-preserved c = rows_more _ _ _ c.requires _ refl _ _ c.loop-row.invariant _ (omega arith) (row_number _ _ _ c.requires c.loop-row.row _ _ (omega arith) refl refl _ c.row_sum.ensures)

pub returns : goal.returns
returns c = rows_done _ _ _ c.requires _ refl _ _ c.loop-row.invariant (omega arith)
