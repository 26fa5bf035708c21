-- `abtm_apply::add_tile` meets its contract. Assumes nothing.
use native.Mathlib.Omega.{arith}
use borrow.Author.Rules.{rules}
use Rattle.abtm_apply.proofs.TileLaws.{tile_end, tile_columns, tile_base, dense_long, compact_long, dense_adds, compact_adds}
use Rattle.abtm_apply.proofs.add_tile.Goals as goal

pub overflow_add-end : goal.overflow_add-end
overflow_add-end c = omega (arith, tile_end _ _ _ _ _ _ _ c.requires c.base_col-base.ensures c.slot_count.ensures)

pub slice_bounds-add_dense-end : goal.slice_bounds-add_dense-end
slice_bounds-add_dense-end c = omega (arith, tile_end _ _ _ _ _ _ _ c.requires c.base_col-base.ensures c.slot_count.ensures)

pub add_dense-requires : goal.add_dense-requires
add_dense-requires c =
    let end = tile_end _ _ _ _ _ _ _ c.requires c.base_col-base.ensures c.slot_count.ensures in
    (tile_base _ _ _ _ _ _ _ c.requires c.base_col-base.ensures c.slot_count.ensures (search rules), dense_long c.args.values.now c.args.x.now c.args.tile.mask _ c.args.tile.meta _ _ c.base_col-base.ensures c.slot_count.ensures c.if-is_dense.ensures end)

pub returns-then-is_dense : goal.returns-then-is_dense
returns-then-is_dense c = dense_adds c.args.values.now c.args.x.now c.args.tile.mask _ c.args.tile.meta _ _ c.base_col-base.ensures c.slot_count.ensures c.if-is_dense.ensures _ _ c.add_dense.ensures

pub slice_bounds-compact_sum-end : goal.slice_bounds-compact_sum-end
slice_bounds-compact_sum-end c = omega (arith, tile_end _ _ _ _ _ _ _ c.requires c.base_col-base.ensures c.slot_count.ensures)

pub compact_sum-requires : goal.compact_sum-requires
compact_sum-requires c =
    let end = tile_end _ _ _ _ _ _ _ c.requires c.base_col-base.ensures c.slot_count.ensures in
    record {
      base = omega arith;
      values = compact_long c.args.values.now c.args.x.now c.args.tile.mask _ c.args.tile.meta _ _ c.base_col-base.ensures c.slot_count.ensures c.if-is_dense.ensures end;
      columns = tile_columns _ _ _ _ _ _ _ c.requires c.base_col-base.ensures c.slot_count.ensures;
    }

pub returns : goal.returns
returns c = compact_adds c.args.values.now c.args.x.now c.args.tile.mask _ c.args.tile.meta _ _ c.base_col-base.ensures c.slot_count.ensures c.if-is_dense.ensures _ _ c.compact_sum.ensures
