-- `demand_routes::restrict_dot` meets its contract. Assumes nothing.
use mathlib.Core.Path.{refl}
use native.Mathlib.Omega.{arith}
use lib.ListN.{length-take}
use Rattle.demand_routes.proofs.AllLaws.{restrict_used, restrict_none, restrict_some}
use Rattle.demand_routes.proofs.restrict_dot.Goals as goal

pub overflow_add-csr : goal.overflow_add-csr
overflow_add-csr c = let u = restrict_used _ _ _ _ _ _ c.from_csr32-t.ensures.answer _ c.in-Ok.is in omega (arith, u.rows_in)

pub slice_bounds-all_dot-end : goal.slice_bounds-all_dot-end
slice_bounds-all_dot-end c = let u = restrict_used _ _ _ _ _ _ c.from_csr32-t.ensures.answer _ c.in-Ok.is in omega (arith, u.ptr_in, c.from_csr32-t.auto.out_row_ptr)

pub slice_bounds-all_dot-end-in-Ok : goal.slice_bounds-all_dot-end-in-Ok
slice_bounds-all_dot-end-in-Ok c = let u = restrict_used _ _ _ _ _ _ c.from_csr32-t.ensures.answer _ c.in-Ok.is in simp length-take (omega (arith, u.ptr_in, c.from_csr32-t.auto.out_row_ptr))

pub slice_bounds-all_dot-end-in-Ok-2 : goal.slice_bounds-all_dot-end-in-Ok-2
slice_bounds-all_dot-end-in-Ok-2 c = let u = restrict_used _ _ _ _ _ _ c.from_csr32-t.ensures.answer _ c.in-Ok.is in omega (arith, u.col_in, c.from_csr32-t.auto.out_col_idx)

pub slice_bounds-all_dot-end-in-Ok-3 : goal.slice_bounds-all_dot-end-in-Ok-3
slice_bounds-all_dot-end-in-Ok-3 c = let u = restrict_used _ _ _ _ _ _ c.from_csr32-t.ensures.answer _ c.in-Ok.is in simp length-take (omega (arith, u.col_in, c.from_csr32-t.auto.out_col_idx))

pub slice_bounds-all_dot-end-in-Ok-4 : goal.slice_bounds-all_dot-end-in-Ok-4
slice_bounds-all_dot-end-in-Ok-4 c = let u = restrict_used _ _ _ _ _ _ c.from_csr32-t.ensures.answer _ c.in-Ok.is in omega (arith, u.val_in, c.from_csr32-t.auto.out_values)

pub slice_bounds-all_dot-end-in-Ok-5 : goal.slice_bounds-all_dot-end-in-Ok-5
slice_bounds-all_dot-end-in-Ok-5 c = let u = restrict_used _ _ _ _ _ _ c.from_csr32-t.ensures.answer _ c.in-Ok.is in simp length-take (omega (arith, u.val_in, c.from_csr32-t.auto.out_values))

pub all_dot-requires : goal.all_dot-requires
all_dot-requires c = let u = restrict_used _ _ _ _ _ _ c.from_csr32-t.ensures.answer _ c.in-Ok.is in u.cols_in

pub shape_of-out_row_ptr-in-Err : goal.shape_of-out_row_ptr-in-Err
shape_of-out_row_ptr-in-Err c = c.from_csr32-t.auto.out_row_ptr

pub shape_of-out_col_idx-in-Err : goal.shape_of-out_col_idx-in-Err
shape_of-out_col_idx-in-Err c = c.from_csr32-t.auto.out_col_idx

pub shape_of-out_values-in-Err : goal.shape_of-out_values-in-Err
shape_of-out_values-in-Err c = c.from_csr32-t.auto.out_values

pub shape_of-row_word_ptr-in-Err : goal.shape_of-row_word_ptr-in-Err
shape_of-row_word_ptr-in-Err c = c.clear_all.auto.row_word_ptr

pub shape_of-word_indices-in-Err : goal.shape_of-word_indices-in-Err
shape_of-word_indices-in-Err c = c.clear_all.auto.word_indices

pub shape_of-bits-in-Err : goal.shape_of-bits-in-Err
shape_of-bits-in-Err c = c.clear_all.auto.masks

pub shape_of-row_value_ptr-in-Err : goal.shape_of-row_value_ptr-in-Err
shape_of-row_value_ptr-in-Err c = c.clear_all.auto.row_value_ptr

pub shape_of-packed-in-Err : goal.shape_of-packed-in-Err
shape_of-packed-in-Err c = c.clear_all.auto.packed

pub shape_of-all-in-Err : goal.shape_of-all-in-Err
shape_of-all-in-Err c = c.clear_from.auto.s

pub returns-in-Err : goal.returns-in-Err
returns-in-Err c = let rest = restrict_none _ _ _ _ _ _ c.from_csr32-t.ensures.answer _ _ _ _ _ _ _ _ _ _ _ _ _ (record { pointers = c.from_csr32-t.ensures.pointers; columns = c.from_csr32-t.ensures.columns; values = c.from_csr32-t.ensures.values }) _ c.in-Err.is c.clear_from.ensures c.clear_all.ensures.pointers c.clear_all.ensures.numbers c.clear_all.ensures.bits c.clear_all.ensures.starts c.clear_all.ensures.values in record { answer = rest.0; list = rest.1.0; all = rest.1.1.0; store = rest.1.1.1 }

pub shape_of-out_row_ptr-in-Ok : goal.shape_of-out_row_ptr-in-Ok
shape_of-out_row_ptr-in-Ok c = c.from_csr32-t.auto.out_row_ptr

pub shape_of-out_col_idx-in-Ok : goal.shape_of-out_col_idx-in-Ok
shape_of-out_col_idx-in-Ok c = c.from_csr32-t.auto.out_col_idx

pub shape_of-out_values-in-Ok : goal.shape_of-out_values-in-Ok
shape_of-out_values-in-Ok c = c.from_csr32-t.auto.out_values

pub shape_of-row_word_ptr-in-Ok : goal.shape_of-row_word_ptr-in-Ok
shape_of-row_word_ptr-in-Ok c = c.all_dot.auto.row_word_ptr

pub shape_of-word_indices-in-Ok : goal.shape_of-word_indices-in-Ok
shape_of-word_indices-in-Ok c = c.all_dot.auto.word_indices

pub shape_of-bits-in-Ok : goal.shape_of-bits-in-Ok
shape_of-bits-in-Ok c = c.all_dot.auto.bits

pub shape_of-row_value_ptr-in-Ok : goal.shape_of-row_value_ptr-in-Ok
shape_of-row_value_ptr-in-Ok c = c.all_dot.auto.row_value_ptr

pub shape_of-packed-in-Ok : goal.shape_of-packed-in-Ok
shape_of-packed-in-Ok c = c.all_dot.auto.packed

pub shape_of-all-in-Ok : goal.shape_of-all-in-Ok
shape_of-all-in-Ok c = c.all_dot.auto.all

pub returns-in-Ok : goal.returns-in-Ok
returns-in-Ok c = let rest = restrict_some _ _ _ _ _ _ c.from_csr32-t.ensures.answer _ _ _ _ _ _ _ _ _ _ _ _ _ (record { pointers = c.from_csr32-t.ensures.pointers; columns = c.from_csr32-t.ensures.columns; values = c.from_csr32-t.ensures.values }) _ c.in-Ok.is _ _ refl c.all_dot.ensures.answer c.all_dot.ensures.all c.all_dot.ensures.store in record { answer = rest.0; list = rest.1.0; all = rest.1.1.0; store = rest.1.1.1 }
