-- `abtm_expand::fill_mask` meets its contract. Assumes nothing.
use mathlib.Core.List.{List}
use mathlib.Core.Path.{refl, sym, ap, ◌∙◌}
use Prim.Native.Nat.{ℕ, ◌+◌, ◌-◌}
use lib.ListN.{length, get_or, take, drop}
use native.Mathlib.Omega.{arith}
use borrow.Author.Rules.{rules}
use Rattle.abtm_check.proofs.TilesLaws.{row_places, lent_row}
use Rattle.abtm_expand.proofs.ExpandLaws.{expand_facts, metas_lent, lent_words, expanding_none, expanding_member, expanding_other, expanding_done}
use Rattle.abtm_expand.proofs.fill_mask.Goals.{then-is_member, else-is_member}
use Rattle.abtm_expand.proofs.fill_mask.Goals as goal

pub loop-row-init : goal.loop-row-init
loop-row-init c = expanding_none _ _ _ _ c.requires.valid _ (search rules) c.copy_words.ensures

pub offset_bounds-tiles-row : goal.offset_bounds-tiles-row
offset_bounds-tiles-row c = omega (arith, (expand_facts _ _ _ _ c.requires.valid).tiles.rows_in)

pub bounds-tiles-row : goal.bounds-tiles-row
bounds-tiles-row c = omega (arith, (row_places _ (expand_facts _ _ _ _ c.requires.valid).tiles c.loop-row.row _ _ (omega arith) refl refl).here)

pub offset_bounds-tiles-row-then-is_member : goal.offset_bounds-tiles-row-then-is_member
offset_bounds-tiles-row-then-is_member c = omega (arith, (expand_facts _ _ _ _ c.requires.valid).tiles.rows_in)

pub bounds-tiles-row-then-is_member : goal.bounds-tiles-row-then-is_member
bounds-tiles-row-then-is_member c = omega (arith, (row_places _ (expand_facts _ _ _ _ c.requires.valid).tiles c.loop-row.row _ _ (omega arith) refl refl).next)

pub slice_bounds-join_tiles-count : goal.slice_bounds-join_tiles-count
slice_bounds-join_tiles-count c = let p = row_places _ (expand_facts _ _ _ _ c.requires.valid).tiles c.loop-row.row _ _ (omega arith) refl refl in
    omega (arith, p.order, p.in_masks, ap length c.masks_of-masks.ensures)

pub slice_bounds-join_tiles-start : goal.slice_bounds-join_tiles-start
slice_bounds-join_tiles-start c = let p = row_places _ (expand_facts _ _ _ _ c.requires.valid).tiles c.loop-row.row _ _ (omega arith) refl refl in
    omega (arith, p.order, p.in_masks, ap length c.masks_of-masks.ensures)

pub slice_bounds-join_tiles-end : goal.slice_bounds-join_tiles-end
slice_bounds-join_tiles-end c = let p = row_places _ (expand_facts _ _ _ _ c.requires.valid).tiles c.loop-row.row _ _ (omega arith) refl refl in
    omega (arith, p.order, p.in_masks, ap length c.masks_of-masks.ensures)

pub slice_bounds-join_tiles-count-then-is_member : goal.slice_bounds-join_tiles-count-then-is_member
slice_bounds-join_tiles-count-then-is_member c = let p = row_places _ (expand_facts _ _ _ _ c.requires.valid).tiles c.loop-row.row _ _ (omega arith) refl refl in
    omega (arith, p.order, p.in_metas)

pub slice_bounds-join_tiles-start-then-is_member : goal.slice_bounds-join_tiles-start-then-is_member
slice_bounds-join_tiles-start-then-is_member c = let p = row_places _ (expand_facts _ _ _ _ c.requires.valid).tiles c.loop-row.row _ _ (omega arith) refl refl in
    omega (arith, p.order, p.in_metas)

pub slice_bounds-join_tiles-end-then-is_member : goal.slice_bounds-join_tiles-end-then-is_member
slice_bounds-join_tiles-end-then-is_member c = let p = row_places _ (expand_facts _ _ _ _ c.requires.valid).tiles c.loop-row.row _ _ (omega arith) refl refl in
    omega (arith, p.order, p.in_metas)

pub join_tiles-requires : goal.join_tiles-requires
join_tiles-requires c = let part = lent_row _ (expand_facts _ _ _ _ c.requires.valid).tiles c.loop-row.row _ _ (omega arith) refl refl in
    let start : ℕ = get_or c.args.tiles.row_tile_ptr.now c.loop-row.row 0 in
    let end : ℕ = get_or c.args.tiles.row_tile_ptr.now (c.loop-row.row + 1) 0 in
    let masks = ap (λ (l : List ℕ). take (end - start) (drop start l)) c.masks_of-masks.ensures ∙ part c.args.tiles.masks.now in
    record { paired = metas_lent _ _ _ _ c.requires.valid c.loop-row.row (omega arith) _ _ masks (part _); inside = lent_words _ _ _ _ c.requires.valid c.loop-row.row (omega arith) _ _ masks (part _) _ c.loop-row.invariant (λ k. rw (← c.masks_of-masks.ensures) (c.type_inv.masks k).fits) }

pub loop-row-preserved : goal.loop-row-preserved
loop-row-preserved c = let part = lent_row _ (expand_facts _ _ _ _ c.requires.valid).tiles c.loop-row.row _ _ (omega arith) refl refl in
    let start : ℕ = get_or c.args.tiles.row_tile_ptr.now c.loop-row.row 0 in
    let end : ℕ = get_or c.args.tiles.row_tile_ptr.now (c.loop-row.row + 1) 0 in
    let masks = ap (λ (l : List ℕ). take (end - start) (drop start l)) c.masks_of-masks.ensures ∙ part c.args.tiles.masks.now in
    elim c.if-is_member.branch [
      | then-is_member w ↦ rw w.out-is (expanding_member _ _ _ _ c.requires.valid c.loop-row.row (omega arith) _ _ masks (part _) _ c.loop-row.invariant _ (sym w.if-is_member.true ∙ c.is_member.ensures) w.join_tiles.ensures)
      | else-is_member w ↦ rw w.out-is (expanding_other _ _ _ _ c.requires.valid _ _ c.loop-row.invariant (omega arith) (sym w.if-is_member.false ∙ c.is_member.ensures))
    ]

pub returns : goal.returns
returns c = expanding_done _ _ _ _ c.requires.valid _ _ c.loop-row.invariant (omega arith)
