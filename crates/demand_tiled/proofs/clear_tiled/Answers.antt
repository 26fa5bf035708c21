-- `demand_tiled::clear_tiled` meets its contract. Assumes nothing.
use Rattle.demand_tiled.proofs.clear_tiled.Goals as goal

pub shape_of-row_tile_ptr : goal.shape_of-row_tile_ptr
shape_of-row_tile_ptr c = c.clear_from.auto.s

pub shape_of-tile_masks : goal.shape_of-tile_masks
shape_of-tile_masks c = c.clear_from-2.auto.s

pub shape_of-value_offsets : goal.shape_of-value_offsets
shape_of-value_offsets c = c.clear_from-3.auto.s

pub shape_of-metas : goal.shape_of-metas
shape_of-metas c = c.clear_from-4.auto.s

pub shape_of-tile_values : goal.shape_of-tile_values
shape_of-tile_values c = c.clear_from-5.auto.s

pub shape_of-out_row_ptr : goal.shape_of-out_row_ptr
shape_of-out_row_ptr c = c.clear_list.auto.out_row_ptr

pub shape_of-out_col_idx : goal.shape_of-out_col_idx
shape_of-out_col_idx c = c.clear_list.auto.out_col_idx

pub shape_of-out_values : goal.shape_of-out_values
shape_of-out_values c = c.clear_list.auto.out_values

pub shape_of-product : goal.shape_of-product
shape_of-product c = c.clear_list.auto.product

pub returns : goal.returns
returns c = record { pointers = c.clear_from.ensures; bits = c.clear_from-2.ensures; offsets = c.clear_from-3.ensures; metas = c.clear_from-4.ensures; values = c.clear_from-5.ensures; list = (c.clear_list.ensures.pointers, c.clear_list.ensures.columns, c.clear_list.ensures.values); product = c.clear_list.ensures.product }
