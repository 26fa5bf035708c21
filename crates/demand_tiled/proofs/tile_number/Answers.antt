-- `demand_tiled::tile_number` meets its contract. Assumes nothing.
use mathlib.Core.Path.{refl}
use native.Mathlib.Omega.{arith}
use lib.ListN.{length-take}
use Rattle.demand_tiled.proofs.NumberLaws.{tiles_used, untiled, tiled-number}
use Rattle.demand_tiled.proofs.tile_number.Goals as goal

pub overflow_add-csr : goal.overflow_add-csr
overflow_add-csr c = let u = tiles_used _ _ _ _ _ _ _ _ c.from_csr32-t.ensures.answer _ _ _ c.in-Ok.is in omega (arith, u.rows_in)

pub slice_bounds-tile_list_number-end : goal.slice_bounds-tile_list_number-end
slice_bounds-tile_list_number-end c = let u = tiles_used _ _ _ _ _ _ _ _ c.from_csr32-t.ensures.answer _ _ _ c.in-Ok.is in omega (arith, u.ptr_in, c.from_csr32-t.auto.row_tile_ptr)

pub slice_bounds-tile_list_number-end-in-Ok : goal.slice_bounds-tile_list_number-end-in-Ok
slice_bounds-tile_list_number-end-in-Ok c = let u = tiles_used _ _ _ _ _ _ _ _ c.from_csr32-t.ensures.answer _ _ _ c.in-Ok.is in simp length-take (omega (arith, u.ptr_in, c.from_csr32-t.auto.row_tile_ptr))

pub slice_bounds-tile_list_number-end-in-Ok-2 : goal.slice_bounds-tile_list_number-end-in-Ok-2
slice_bounds-tile_list_number-end-in-Ok-2 c = let u = tiles_used _ _ _ _ _ _ _ _ c.from_csr32-t.ensures.answer _ _ _ c.in-Ok.is in omega (arith, u.mask_in, c.from_csr32-t.auto.masks)

pub slice_bounds-tile_list_number-end-in-Ok-3 : goal.slice_bounds-tile_list_number-end-in-Ok-3
slice_bounds-tile_list_number-end-in-Ok-3 c = let u = tiles_used _ _ _ _ _ _ _ _ c.from_csr32-t.ensures.answer _ _ _ c.in-Ok.is in simp length-take (omega (arith, u.mask_in, c.from_csr32-t.auto.masks))

pub slice_bounds-tile_list_number-end-in-Ok-4 : goal.slice_bounds-tile_list_number-end-in-Ok-4
slice_bounds-tile_list_number-end-in-Ok-4 c = let u = tiles_used _ _ _ _ _ _ _ _ c.from_csr32-t.ensures.answer _ _ _ c.in-Ok.is in omega (arith, u.offset_in, c.from_csr32-t.auto.value_offsets)

pub slice_bounds-tile_list_number-end-in-Ok-5 : goal.slice_bounds-tile_list_number-end-in-Ok-5
slice_bounds-tile_list_number-end-in-Ok-5 c = let u = tiles_used _ _ _ _ _ _ _ _ c.from_csr32-t.ensures.answer _ _ _ c.in-Ok.is in simp length-take (omega (arith, u.offset_in, c.from_csr32-t.auto.value_offsets))

pub slice_bounds-tile_list_number-end-in-Ok-6 : goal.slice_bounds-tile_list_number-end-in-Ok-6
slice_bounds-tile_list_number-end-in-Ok-6 c = let u = tiles_used _ _ _ _ _ _ _ _ c.from_csr32-t.ensures.answer _ _ _ c.in-Ok.is in omega (arith, u.meta_in, c.from_csr32-t.auto.metas)

pub slice_bounds-tile_list_number-end-in-Ok-7 : goal.slice_bounds-tile_list_number-end-in-Ok-7
slice_bounds-tile_list_number-end-in-Ok-7 c = let u = tiles_used _ _ _ _ _ _ _ _ c.from_csr32-t.ensures.answer _ _ _ c.in-Ok.is in simp length-take (omega (arith, u.meta_in, c.from_csr32-t.auto.metas))

pub slice_bounds-tile_list_number-end-in-Ok-8 : goal.slice_bounds-tile_list_number-end-in-Ok-8
slice_bounds-tile_list_number-end-in-Ok-8 c = let u = tiles_used _ _ _ _ _ _ _ _ c.from_csr32-t.ensures.answer _ _ _ c.in-Ok.is in omega (arith, u.vals_in, c.from_csr32-t.auto.values)

pub slice_bounds-tile_list_number-end-in-Ok-9 : goal.slice_bounds-tile_list_number-end-in-Ok-9
slice_bounds-tile_list_number-end-in-Ok-9 c = let u = tiles_used _ _ _ _ _ _ _ _ c.from_csr32-t.ensures.answer _ _ _ c.in-Ok.is in simp length-take (omega (arith, u.vals_in, c.from_csr32-t.auto.values))

pub shape_of-row_tile_ptr-in-Err : goal.shape_of-row_tile_ptr-in-Err
shape_of-row_tile_ptr-in-Err c = c.from_csr32-t.auto.row_tile_ptr

pub shape_of-tile_masks-in-Err : goal.shape_of-tile_masks-in-Err
shape_of-tile_masks-in-Err c = c.from_csr32-t.auto.masks

pub shape_of-value_offsets-in-Err : goal.shape_of-value_offsets-in-Err
shape_of-value_offsets-in-Err c = c.from_csr32-t.auto.value_offsets

pub shape_of-metas-in-Err : goal.shape_of-metas-in-Err
shape_of-metas-in-Err c = c.from_csr32-t.auto.metas

pub shape_of-tile_values-in-Err : goal.shape_of-tile_values-in-Err
shape_of-tile_values-in-Err c = c.from_csr32-t.auto.values

pub shape_of-out_row_ptr-in-Err : goal.shape_of-out_row_ptr-in-Err
shape_of-out_row_ptr-in-Err c = c.clear_list.auto.out_row_ptr

pub shape_of-out_col_idx-in-Err : goal.shape_of-out_col_idx-in-Err
shape_of-out_col_idx-in-Err c = c.clear_list.auto.out_col_idx

pub shape_of-out_values-in-Err : goal.shape_of-out_values-in-Err
shape_of-out_values-in-Err c = c.clear_list.auto.out_values

pub shape_of-product-in-Err : goal.shape_of-product-in-Err
shape_of-product-in-Err c = c.clear_list.auto.product

pub returns-in-Err : goal.returns-in-Err
returns-in-Err c = let rest = untiled _ _ _ _ _ _ _ _ c.from_csr32-t.ensures.answer _ _ _ _ _ _ _ _ _ _ _ _ _ _ (record { pointers = c.from_csr32-t.ensures.pointers; bits = c.from_csr32-t.ensures.bits; offsets = c.from_csr32-t.ensures.offsets; metas = c.from_csr32-t.ensures.metas; values = c.from_csr32-t.ensures.values }) _ c.in-Err.is c.clear_list.ensures.pointers c.clear_list.ensures.columns c.clear_list.ensures.values c.clear_list.ensures.product in record { answer = rest.0; tiles = rest.1.0; list = rest.1.1.0; product = rest.1.1.1 }

pub shape_of-row_tile_ptr-in-Ok : goal.shape_of-row_tile_ptr-in-Ok
shape_of-row_tile_ptr-in-Ok c = c.from_csr32-t.auto.row_tile_ptr

pub shape_of-tile_masks-in-Ok : goal.shape_of-tile_masks-in-Ok
shape_of-tile_masks-in-Ok c = c.from_csr32-t.auto.masks

pub shape_of-value_offsets-in-Ok : goal.shape_of-value_offsets-in-Ok
shape_of-value_offsets-in-Ok c = c.from_csr32-t.auto.value_offsets

pub shape_of-metas-in-Ok : goal.shape_of-metas-in-Ok
shape_of-metas-in-Ok c = c.from_csr32-t.auto.metas

pub shape_of-tile_values-in-Ok : goal.shape_of-tile_values-in-Ok
shape_of-tile_values-in-Ok c = c.from_csr32-t.auto.values

pub shape_of-out_row_ptr-in-Ok : goal.shape_of-out_row_ptr-in-Ok
shape_of-out_row_ptr-in-Ok c = c.tile_list_number.auto.out_row_ptr

pub shape_of-out_col_idx-in-Ok : goal.shape_of-out_col_idx-in-Ok
shape_of-out_col_idx-in-Ok c = c.tile_list_number.auto.out_col_idx

pub shape_of-out_values-in-Ok : goal.shape_of-out_values-in-Ok
shape_of-out_values-in-Ok c = c.tile_list_number.auto.out_values

pub shape_of-product-in-Ok : goal.shape_of-product-in-Ok
shape_of-product-in-Ok c = c.tile_list_number.auto.product

pub returns-in-Ok : goal.returns-in-Ok
returns-in-Ok c = let rest = tiled-number _ _ _ _ _ _ _ _ c.from_csr32-t.ensures.answer _ _ _ _ _ _ _ _ _ _ _ _ _ _ (record { pointers = c.from_csr32-t.ensures.pointers; bits = c.from_csr32-t.ensures.bits; offsets = c.from_csr32-t.ensures.offsets; metas = c.from_csr32-t.ensures.metas; values = c.from_csr32-t.ensures.values }) _ _ _ c.in-Ok.is _ _ refl c.tile_list_number.ensures.answer c.tile_list_number.ensures.list c.tile_list_number.ensures.product in record { answer = rest.0; tiles = rest.1.0; list = rest.1.1.0; product = rest.1.1.1 }
