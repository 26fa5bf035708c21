-- `demand_tiled::tiled_number` meets its contract. Assumes nothing.
use Rattle.hybit_core.specs.Table.{given}
use Rattle.demand_tiled.proofs.EndLaws.{tile_zeros, tiled-told, tiled_short, tiled_tiles, tiled-plots, tiled-product}
use Rattle.demand_examine.proofs.StepLaws.{plot_zeros, list_zeros, at_length, answer_refused}
use Rattle.demand_examine.proofs.CheckLaws.{tiled_refused}
use mathlib.Core.Path.{sym, ap, ◌∙◌}
use Rattle.demand_tiled.proofs.tiled_number.Goals as goal

pub shape_of-row_tile_ptr-in-Err : goal.shape_of-row_tile_ptr-in-Err
shape_of-row_tile_ptr-in-Err c = c.clear_tiled.auto.row_tile_ptr

pub shape_of-tile_masks-in-Err : goal.shape_of-tile_masks-in-Err
shape_of-tile_masks-in-Err c = c.clear_tiled.auto.tile_masks

pub shape_of-value_offsets-in-Err : goal.shape_of-value_offsets-in-Err
shape_of-value_offsets-in-Err c = c.clear_tiled.auto.value_offsets

pub shape_of-metas-in-Err : goal.shape_of-metas-in-Err
shape_of-metas-in-Err c = c.clear_tiled.auto.metas

pub shape_of-tile_values-in-Err : goal.shape_of-tile_values-in-Err
shape_of-tile_values-in-Err c = c.clear_tiled.auto.tile_values

pub shape_of-out_row_ptr-in-Err : goal.shape_of-out_row_ptr-in-Err
shape_of-out_row_ptr-in-Err c = c.clear_tiled.auto.out_row_ptr

pub shape_of-out_col_idx-in-Err : goal.shape_of-out_col_idx-in-Err
shape_of-out_col_idx-in-Err c = c.clear_tiled.auto.out_col_idx

pub shape_of-out_values-in-Err : goal.shape_of-out_values-in-Err
shape_of-out_values-in-Err c = c.clear_tiled.auto.out_values

pub shape_of-product-in-Err : goal.shape_of-product-in-Err
shape_of-product-in-Err c = c.clear_tiled.auto.product

pub returns-in-Err : goal.returns-in-Err
returns-in-Err c = let k = tiled_refused _ _ _ _ _ _ _ _ _ _ c.examine_tiled-v.ensures c.in-Err.is in
    record { answer = answer_refused _ _ _ k; tiles = tile_zeros _ _ _ _ _ _ _ _ _ k c.clear_tiled.ensures.pointers c.clear_tiled.ensures.bits c.clear_tiled.ensures.offsets c.clear_tiled.ensures.metas c.clear_tiled.ensures.values; list = plot_zeros _ _ _ _ _ _ _ k c.clear_tiled.ensures.list.0 c.clear_tiled.ensures.list.1 c.clear_tiled.ensures.list.2; product = list_zeros _ _ _ _ _ _ k c.clear_tiled.ensures.product }

pub shape_of-row_tile_ptr : goal.shape_of-row_tile_ptr
shape_of-row_tile_ptr c = c.tile_number-d.auto.row_tile_ptr

pub shape_of-tile_masks : goal.shape_of-tile_masks
shape_of-tile_masks c = c.tile_number-d.auto.tile_masks

pub shape_of-value_offsets : goal.shape_of-value_offsets
shape_of-value_offsets c = c.tile_number-d.auto.value_offsets

pub shape_of-metas : goal.shape_of-metas
shape_of-metas c = c.tile_number-d.auto.metas

pub shape_of-tile_values : goal.shape_of-tile_values
shape_of-tile_values c = c.tile_number-d.auto.tile_values

pub shape_of-out_row_ptr : goal.shape_of-out_row_ptr
shape_of-out_row_ptr c = c.tile_number-d.auto.out_row_ptr

pub shape_of-out_col_idx : goal.shape_of-out_col_idx
shape_of-out_col_idx c = c.tile_number-d.auto.out_col_idx

pub shape_of-out_values : goal.shape_of-out_values
shape_of-out_values c = c.tile_number-d.auto.out_values

pub shape_of-product : goal.shape_of-product
shape_of-product c = c.tile_number-d.auto.product

pub returns : goal.returns
returns c = let h = c.examine_tiled-v.ensures in
    let k = c.in_default.is in
    let e = sym (ap given c.in_default-d.is) ∙ c.tile_number-d.ensures.answer in
    record { answer = tiled-told _ _ _ _ _ _ _ _ _ h k _ c.tile_number-d.ensures.answer; tiles = tiled_tiles _ _ _ _ _ _ _ _ _ h k _ e _ _ _ _ _ c.tile_number-d.ensures.tiles; list = tiled-plots _ _ _ _ _ _ _ _ _ h k _ e _ _ _ c.tile_number-d.ensures.list; product = tiled-product _ _ _ _ _ _ _ _ _ h k _ e _ c.tile_number-d.ensures.product }

pub shape_of-row_tile_ptr-in-Err-d : goal.shape_of-row_tile_ptr-in-Err-d
shape_of-row_tile_ptr-in-Err-d c = c.clear_tiled-in-Err-d.auto.row_tile_ptr ∙ c.tile_number-d.auto.row_tile_ptr

pub shape_of-tile_masks-in-Err-d : goal.shape_of-tile_masks-in-Err-d
shape_of-tile_masks-in-Err-d c = c.clear_tiled-in-Err-d.auto.tile_masks ∙ c.tile_number-d.auto.tile_masks

pub shape_of-value_offsets-in-Err-d : goal.shape_of-value_offsets-in-Err-d
shape_of-value_offsets-in-Err-d c = c.clear_tiled-in-Err-d.auto.value_offsets ∙ c.tile_number-d.auto.value_offsets

pub shape_of-metas-in-Err-d : goal.shape_of-metas-in-Err-d
shape_of-metas-in-Err-d c = c.clear_tiled-in-Err-d.auto.metas ∙ c.tile_number-d.auto.metas

pub shape_of-tile_values-in-Err-d : goal.shape_of-tile_values-in-Err-d
shape_of-tile_values-in-Err-d c = c.clear_tiled-in-Err-d.auto.tile_values ∙ c.tile_number-d.auto.tile_values

pub shape_of-out_row_ptr-in-Err-d : goal.shape_of-out_row_ptr-in-Err-d
shape_of-out_row_ptr-in-Err-d c = c.clear_tiled-in-Err-d.auto.out_row_ptr ∙ c.tile_number-d.auto.out_row_ptr

pub shape_of-out_col_idx-in-Err-d : goal.shape_of-out_col_idx-in-Err-d
shape_of-out_col_idx-in-Err-d c = c.clear_tiled-in-Err-d.auto.out_col_idx ∙ c.tile_number-d.auto.out_col_idx

pub shape_of-out_values-in-Err-d : goal.shape_of-out_values-in-Err-d
shape_of-out_values-in-Err-d c = c.clear_tiled-in-Err-d.auto.out_values ∙ c.tile_number-d.auto.out_values

pub shape_of-product-in-Err-d : goal.shape_of-product-in-Err-d
shape_of-product-in-Err-d c = c.clear_tiled-in-Err-d.auto.product ∙ c.tile_number-d.auto.product

pub returns-in-Err-d : goal.returns-in-Err-d
returns-in-Err-d c = let e = sym (ap given c.in-Err-d.is) ∙ c.tile_number-d.ensures.answer in
    let k = tiled_short _ _ _ _ _ _ _ _ _ c.examine_tiled-v.ensures c.in_default.is _ e in
    record { answer = answer_refused _ _ _ k; tiles = tile_zeros _ _ _ _ _ _ _ _ _ k (at_length _ _ _ _ c.clear_tiled-in-Err-d.ensures.pointers c.tile_number-d.auto.row_tile_ptr) (at_length _ _ _ _ c.clear_tiled-in-Err-d.ensures.bits c.tile_number-d.auto.tile_masks) (at_length _ _ _ _ c.clear_tiled-in-Err-d.ensures.offsets c.tile_number-d.auto.value_offsets) (at_length _ _ _ _ c.clear_tiled-in-Err-d.ensures.metas c.tile_number-d.auto.metas) (at_length _ _ _ _ c.clear_tiled-in-Err-d.ensures.values c.tile_number-d.auto.tile_values); list = plot_zeros _ _ _ _ _ _ _ k (at_length _ _ _ _ c.clear_tiled-in-Err-d.ensures.list.0 c.tile_number-d.auto.out_row_ptr) (at_length _ _ _ _ c.clear_tiled-in-Err-d.ensures.list.1 c.tile_number-d.auto.out_col_idx) (at_length _ _ _ _ c.clear_tiled-in-Err-d.ensures.list.2 c.tile_number-d.auto.out_values); product = list_zeros _ _ _ _ _ _ k (at_length _ _ _ _ c.clear_tiled-in-Err-d.ensures.product c.tile_number-d.auto.product) }
