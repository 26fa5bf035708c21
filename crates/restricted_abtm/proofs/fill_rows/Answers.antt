-- `restricted_abtm::fill_rows` meets its contract. Assumes nothing.
use mathlib.Core.List.{List}
use mathlib.Core.Path.{refl, ap, ◌∙◌}
use Prim.Native.Nat.{ℕ, ◌+◌, ◌-◌}
use lib.ListN.{length, get_or, take, drop}
use native.Mathlib.Omega.{arith}
use Rattle.abtm_check.proofs.TilesLaws.{row_places, lent_row}
use Rattle.restricted_abtm.proofs.FillLaws.{facts, filling_none, words-few, offsets_lent, metas_lent, lent_ready, row_small, filling_more, filled_kept, filled_pointers, filled_columns, filled_values}
use Rattle.restricted_abtm.proofs.fill_rows.Goals as goal

pub loop-row-init : goal.loop-row-init
loop-row-init c = filling_none _ _ _ _ _ _ _

pub bounds-tiles-row : goal.bounds-tiles-row
bounds-tiles-row c = omega (arith, (row_places _ (facts _ _ _ c.requires.accepted).tiles c.loop-row.row _ _ (omega arith) refl refl).here)

pub bounds-tiles-row-in-loop-row : goal.bounds-tiles-row-in-loop-row
bounds-tiles-row-in-loop-row c = omega (arith, (row_places _ (facts _ _ _ c.requires.accepted).tiles c.loop-row.row _ _ (omega arith) refl refl).next)

pub slice_bounds-listed-count : goal.slice_bounds-listed-count
slice_bounds-listed-count c = let p = row_places _ (facts _ _ _ c.requires.accepted).tiles c.loop-row.row _ _ (omega arith) refl refl in
    omega (arith, p.order, p.in_masks, ap length c.masks_of-masks.ensures)

pub slice_bounds-listed-start : goal.slice_bounds-listed-start
slice_bounds-listed-start c = let p = row_places _ (facts _ _ _ c.requires.accepted).tiles c.loop-row.row _ _ (omega arith) refl refl in
    omega (arith, p.order, p.in_masks, ap length c.masks_of-masks.ensures)

pub slice_bounds-listed-end : goal.slice_bounds-listed-end
slice_bounds-listed-end c = let p = row_places _ (facts _ _ _ c.requires.accepted).tiles c.loop-row.row _ _ (omega arith) refl refl in
    omega (arith, p.order, p.in_masks, ap length c.masks_of-masks.ensures)

pub slice_bounds-listed-count-in-loop-row : goal.slice_bounds-listed-count-in-loop-row
slice_bounds-listed-count-in-loop-row c = let p = row_places _ (facts _ _ _ c.requires.accepted).tiles c.loop-row.row _ _ (omega arith) refl refl in
    omega (arith, p.order, p.in_offsets)

pub slice_bounds-listed-start-in-loop-row : goal.slice_bounds-listed-start-in-loop-row
slice_bounds-listed-start-in-loop-row c = let p = row_places _ (facts _ _ _ c.requires.accepted).tiles c.loop-row.row _ _ (omega arith) refl refl in
    omega (arith, p.order, p.in_offsets)

pub slice_bounds-listed-end-in-loop-row : goal.slice_bounds-listed-end-in-loop-row
slice_bounds-listed-end-in-loop-row c = let p = row_places _ (facts _ _ _ c.requires.accepted).tiles c.loop-row.row _ _ (omega arith) refl refl in
    omega (arith, p.order, p.in_offsets)

pub slice_bounds-listed-count-in-loop-row-2 : goal.slice_bounds-listed-count-in-loop-row-2
slice_bounds-listed-count-in-loop-row-2 c = let p = row_places _ (facts _ _ _ c.requires.accepted).tiles c.loop-row.row _ _ (omega arith) refl refl in
    omega (arith, p.order, p.in_metas)

pub slice_bounds-listed-start-in-loop-row-2 : goal.slice_bounds-listed-start-in-loop-row-2
slice_bounds-listed-start-in-loop-row-2 c = let p = row_places _ (facts _ _ _ c.requires.accepted).tiles c.loop-row.row _ _ (omega arith) refl refl in
    omega (arith, p.order, p.in_metas)

pub slice_bounds-listed-end-in-loop-row-2 : goal.slice_bounds-listed-end-in-loop-row-2
slice_bounds-listed-end-in-loop-row-2 c = let p = row_places _ (facts _ _ _ c.requires.accepted).tiles c.loop-row.row _ _ (omega arith) refl refl in
    omega (arith, p.order, p.in_metas)

pub invariant_of-listed : goal.invariant_of-listed
invariant_of-listed c = let ok = c.requires.accepted in
    let part = lent_row _ (facts _ _ _ ok).tiles c.loop-row.row _ _ (omega arith) refl refl in
    let start : ℕ = get_or c.args.tiles.row_tile_ptr.now c.loop-row.row 0 in
    let end : ℕ = get_or c.args.tiles.row_tile_ptr.now (c.loop-row.row + 1) 0 in
    let masks = ap (λ (l : List ℕ). take (end - start) (drop start l)) c.masks_of-masks.ensures ∙ part c.args.tiles.masks.now in
    record { offsets_paired = offsets_lent _ _ _ ok c.loop-row.row (omega arith) _ _ _ masks (part _) (part _); metas_paired = metas_lent _ _ _ ok c.loop-row.row (omega arith) _ _ _ masks (part _) (part _) }

pub invariant_of-listed-in-loop-row : goal.invariant_of-listed-in-loop-row
invariant_of-listed-in-loop-row c = let ok = c.requires.accepted in
    let part = lent_row _ (facts _ _ _ ok).tiles c.loop-row.row _ _ (omega arith) refl refl in
    let start : ℕ = get_or c.args.tiles.row_tile_ptr.now c.loop-row.row 0 in
    let end : ℕ = get_or c.args.tiles.row_tile_ptr.now (c.loop-row.row + 1) 0 in
    let masks = ap (λ (l : List ℕ). take (end - start) (drop start l)) c.masks_of-masks.ensures ∙ part c.args.tiles.masks.now in
    record { ready = lent_ready _ _ _ ok c.loop-row.row (omega arith) _ _ _ masks (part _) (part _) (λ k. rw (← c.masks_of-masks.ensures) (c.type_inv.masks k).fits) }

pub keep_row-at-requires : goal.keep_row-at-requires
keep_row-at-requires c = let ok = c.requires.accepted in
    let part = lent_row _ (facts _ _ _ ok).tiles c.loop-row.row _ _ (omega arith) refl refl in
    let start : ℕ = get_or c.args.tiles.row_tile_ptr.now c.loop-row.row 0 in
    let end : ℕ = get_or c.args.tiles.row_tile_ptr.now (c.loop-row.row + 1) 0 in
    let masks = ap (λ (l : List ℕ). take (end - start) (drop start l)) c.masks_of-masks.ensures ∙ part c.args.tiles.masks.now in
    record { words = words-few _ _ _ ok; room = (omega (arith, c.loop-row.invariant.columns.same, c.requires.room), omega (arith, c.loop-row.invariant.values.same, c.requires.room)); few = row_small _ _ _ ok c.loop-row.row (omega arith) _ _ _ masks (part _) (part _) _ _ _ _ c.requires.pointers _ _ _ _ c.loop-row.invariant }

pub loop-row-preserved : goal.loop-row-preserved
loop-row-preserved c = let ok = c.requires.accepted in
    let part = lent_row _ (facts _ _ _ ok).tiles c.loop-row.row _ _ (omega arith) refl refl in
    let start : ℕ = get_or c.args.tiles.row_tile_ptr.now c.loop-row.row 0 in
    let end : ℕ = get_or c.args.tiles.row_tile_ptr.now (c.loop-row.row + 1) 0 in
    let masks = ap (λ (l : List ℕ). take (end - start) (drop start l)) c.masks_of-masks.ensures ∙ part c.args.tiles.masks.now in
    filling_more _ _ _ ok c.loop-row.row (omega arith) _ _ _ masks (part _) (part _) _ _ _ _ c.requires.pointers _ _ _ _ c.loop-row.invariant _ _ _ _ c.narrow.ensures
    c.keep_row-at.ensures.next c.keep_row-at.ensures.columns c.keep_row-at.ensures.values c.keep_row-at.auto.out_col_idx c.keep_row-at.auto.out_values

pub returns : goal.returns
returns c = let ok = c.requires.accepted in
    let inv = c.loop-row.invariant in
    record { kept = filled_kept _ _ _ ok _ _ _ _ _ _ _ _ _ inv (omega arith); pointers = filled_pointers _ _ _ ok _ _ _ _ _ _ _ _ _ inv (omega arith) _ c.narrow-2.ensures (omega (arith, inv.pointers_same, c.requires.pointers)); columns = filled_columns _ _ _ ok _ _ _ _ _ _ _ _ _ inv (omega arith); values = filled_values _ _ _ ok _ _ _ _ _ _ _ _ _ inv (omega arith) }
