-- `demand_tiled::tile_list_number` meets its contract. Assumes nothing.
use mathlib.Core.Path.{refl}
use native.Mathlib.Omega.{arith}
use lib.ListN.{length-take}
use Rattle.demand_tiled.proofs.NumberLaws.{list_used, unlisted, listed}
use Rattle.demand_tiled.proofs.tile_list_number.Goals as goal

pub overflow_add-tiles : goal.overflow_add-tiles
overflow_add-tiles c = let u = list_used _ _ _ _ _ _ c.from_abtm-t.ensures.answer _ c.in-Ok.is in omega (arith, u.rows_in)

pub slice_bounds-list_number-end : goal.slice_bounds-list_number-end
slice_bounds-list_number-end c = let u = list_used _ _ _ _ _ _ c.from_abtm-t.ensures.answer _ c.in-Ok.is in omega (arith, u.ptr_in, c.from_abtm-t.auto.out_row_ptr)

pub slice_bounds-list_number-end-in-Ok : goal.slice_bounds-list_number-end-in-Ok
slice_bounds-list_number-end-in-Ok c = let u = list_used _ _ _ _ _ _ c.from_abtm-t.ensures.answer _ c.in-Ok.is in simp length-take (omega (arith, u.ptr_in, c.from_abtm-t.auto.out_row_ptr))

pub slice_bounds-list_number-end-in-Ok-2 : goal.slice_bounds-list_number-end-in-Ok-2
slice_bounds-list_number-end-in-Ok-2 c = let u = list_used _ _ _ _ _ _ c.from_abtm-t.ensures.answer _ c.in-Ok.is in omega (arith, u.col_in, c.from_abtm-t.auto.out_col_idx)

pub slice_bounds-list_number-end-in-Ok-3 : goal.slice_bounds-list_number-end-in-Ok-3
slice_bounds-list_number-end-in-Ok-3 c = let u = list_used _ _ _ _ _ _ c.from_abtm-t.ensures.answer _ c.in-Ok.is in simp length-take (omega (arith, u.col_in, c.from_abtm-t.auto.out_col_idx))

pub slice_bounds-list_number-end-in-Ok-4 : goal.slice_bounds-list_number-end-in-Ok-4
slice_bounds-list_number-end-in-Ok-4 c = let u = list_used _ _ _ _ _ _ c.from_abtm-t.ensures.answer _ c.in-Ok.is in omega (arith, u.val_in, c.from_abtm-t.auto.out_values)

pub slice_bounds-list_number-end-in-Ok-5 : goal.slice_bounds-list_number-end-in-Ok-5
slice_bounds-list_number-end-in-Ok-5 c = let u = list_used _ _ _ _ _ _ c.from_abtm-t.ensures.answer _ c.in-Ok.is in simp length-take (omega (arith, u.val_in, c.from_abtm-t.auto.out_values))

pub returns-in-Err : goal.returns-in-Err
returns-in-Err c = let rest = unlisted _ _ _ _ _ _ c.from_abtm-t.ensures.answer _ _ _ _ _ _ _ (record { pointers = c.from_abtm-t.ensures.pointers; columns = c.from_abtm-t.ensures.columns; values = c.from_abtm-t.ensures.values }) _ c.in-Err.is c.clear_from.ensures in record { answer = rest.0; list = rest.1.0; product = rest.1.1 }

pub returns-in-Ok : goal.returns-in-Ok
returns-in-Ok c = let rest = listed _ _ _ _ _ _ c.from_abtm-t.ensures.answer _ _ _ _ _ _ _ (record { pointers = c.from_abtm-t.ensures.pointers; columns = c.from_abtm-t.ensures.columns; values = c.from_abtm-t.ensures.values }) _ c.in-Ok.is _ _ refl c.list_number.ensures.answer c.list_number.ensures.list in record { answer = rest.0; list = rest.1.0; product = rest.1.1 }
