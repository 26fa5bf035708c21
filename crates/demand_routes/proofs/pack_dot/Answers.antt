-- `demand_routes::pack_dot` meets its contract. Assumes nothing.
use native.Mathlib.Omega.{arith}
use lib.ListN.{length-take}
use Rattle.demand_routes.proofs.RouteLaws.{pack_refused, pack_used, dot_lent}
use Rattle.demand_routes.proofs.pack_dot.Goals as goal

pub overflow_add-csr : goal.overflow_add-csr
overflow_add-csr c = let u = pack_used _ _ _ _ _ _ _ c.from_csr32-t.ensures.answer _ _ c.in-Ok.is in omega (arith, u.rows_in)

pub slice_bounds-sparse_dot_row-end : goal.slice_bounds-sparse_dot_row-end
slice_bounds-sparse_dot_row-end c = let u = pack_used _ _ _ _ _ _ _ c.from_csr32-t.ensures.answer _ _ c.in-Ok.is in omega (arith, u.ptr_in, c.from_csr32-t.auto.row_word_ptr)

pub slice_bounds-sparse_dot_row-end-in-Ok : goal.slice_bounds-sparse_dot_row-end-in-Ok
slice_bounds-sparse_dot_row-end-in-Ok c = let u = pack_used _ _ _ _ _ _ _ c.from_csr32-t.ensures.answer _ _ c.in-Ok.is in simp length-take (omega (arith, u.ptr_in, c.from_csr32-t.auto.row_word_ptr))

pub slice_bounds-sparse_dot_row-end-in-Ok-2 : goal.slice_bounds-sparse_dot_row-end-in-Ok-2
slice_bounds-sparse_dot_row-end-in-Ok-2 c = let u = pack_used _ _ _ _ _ _ _ c.from_csr32-t.ensures.answer _ _ c.in-Ok.is in omega (arith, u.word_in, c.from_csr32-t.auto.word_indices)

pub slice_bounds-sparse_dot_row-end-in-Ok-3 : goal.slice_bounds-sparse_dot_row-end-in-Ok-3
slice_bounds-sparse_dot_row-end-in-Ok-3 c = let u = pack_used _ _ _ _ _ _ _ c.from_csr32-t.ensures.answer _ _ c.in-Ok.is in simp length-take (omega (arith, u.word_in, c.from_csr32-t.auto.word_indices))

pub slice_bounds-sparse_dot_row-end-in-Ok-4 : goal.slice_bounds-sparse_dot_row-end-in-Ok-4
slice_bounds-sparse_dot_row-end-in-Ok-4 c = let u = pack_used _ _ _ _ _ _ _ c.from_csr32-t.ensures.answer _ _ c.in-Ok.is in omega (arith, u.mask_in, c.from_csr32-t.auto.masks)

pub slice_bounds-sparse_dot_row-end-in-Ok-5 : goal.slice_bounds-sparse_dot_row-end-in-Ok-5
slice_bounds-sparse_dot_row-end-in-Ok-5 c = let u = pack_used _ _ _ _ _ _ _ c.from_csr32-t.ensures.answer _ _ c.in-Ok.is in simp length-take (omega (arith, u.mask_in, c.from_csr32-t.auto.masks))

pub overflow_add-csr-in-Ok : goal.overflow_add-csr-in-Ok
overflow_add-csr-in-Ok c = let u = pack_used _ _ _ _ _ _ _ c.from_csr32-t.ensures.answer _ _ c.in-Ok.is in omega (arith, u.rows_in)

pub slice_bounds-sparse_dot_row-end-in-Ok-6 : goal.slice_bounds-sparse_dot_row-end-in-Ok-6
slice_bounds-sparse_dot_row-end-in-Ok-6 c = let u = pack_used _ _ _ _ _ _ _ c.from_csr32-t.ensures.answer _ _ c.in-Ok.is in omega (arith, u.vptr_in, c.from_csr32-t.auto.row_value_ptr)

pub slice_bounds-sparse_dot_row-end-in-Ok-7 : goal.slice_bounds-sparse_dot_row-end-in-Ok-7
slice_bounds-sparse_dot_row-end-in-Ok-7 c = let u = pack_used _ _ _ _ _ _ _ c.from_csr32-t.ensures.answer _ _ c.in-Ok.is in simp length-take (omega (arith, u.vptr_in, c.from_csr32-t.auto.row_value_ptr))

pub slice_bounds-sparse_dot_row-end-in-Ok-8 : goal.slice_bounds-sparse_dot_row-end-in-Ok-8
slice_bounds-sparse_dot_row-end-in-Ok-8 c = let u = pack_used _ _ _ _ _ _ _ c.from_csr32-t.ensures.answer _ _ c.in-Ok.is in omega (arith, u.vals_in, c.from_csr32-t.auto.packed)

pub slice_bounds-sparse_dot_row-end-in-Ok-9 : goal.slice_bounds-sparse_dot_row-end-in-Ok-9
slice_bounds-sparse_dot_row-end-in-Ok-9 c = let u = pack_used _ _ _ _ _ _ _ c.from_csr32-t.ensures.answer _ _ c.in-Ok.is in simp length-take (omega (arith, u.vals_in, c.from_csr32-t.auto.packed))

pub shape_of-row_word_ptr-in-Err : goal.shape_of-row_word_ptr-in-Err
shape_of-row_word_ptr-in-Err c = c.from_csr32-t.auto.row_word_ptr

pub shape_of-word_indices-in-Err : goal.shape_of-word_indices-in-Err
shape_of-word_indices-in-Err c = c.from_csr32-t.auto.word_indices

pub shape_of-bits-in-Err : goal.shape_of-bits-in-Err
shape_of-bits-in-Err c = c.from_csr32-t.auto.masks

pub shape_of-row_value_ptr-in-Err : goal.shape_of-row_value_ptr-in-Err
shape_of-row_value_ptr-in-Err c = c.from_csr32-t.auto.row_value_ptr

pub shape_of-packed-in-Err : goal.shape_of-packed-in-Err
shape_of-packed-in-Err c = c.from_csr32-t.auto.packed

pub returns-in-Err : goal.returns-in-Err
returns-in-Err c = record { answer = pack_refused _ _ _ _ _ _ _ c.from_csr32-t.ensures.answer _ c.in-Err.is _ _ _; store = record { pointers = c.from_csr32-t.ensures.pointers; numbers = c.from_csr32-t.ensures.numbers; bits = c.from_csr32-t.ensures.bits; starts = c.from_csr32-t.ensures.starts; values = c.from_csr32-t.ensures.values } }

pub shape_of-row_word_ptr-in-Ok : goal.shape_of-row_word_ptr-in-Ok
shape_of-row_word_ptr-in-Ok c = c.from_csr32-t.auto.row_word_ptr

pub shape_of-word_indices-in-Ok : goal.shape_of-word_indices-in-Ok
shape_of-word_indices-in-Ok c = c.from_csr32-t.auto.word_indices

pub shape_of-bits-in-Ok : goal.shape_of-bits-in-Ok
shape_of-bits-in-Ok c = c.from_csr32-t.auto.masks

pub shape_of-row_value_ptr-in-Ok : goal.shape_of-row_value_ptr-in-Ok
shape_of-row_value_ptr-in-Ok c = c.from_csr32-t.auto.row_value_ptr

pub shape_of-packed-in-Ok : goal.shape_of-packed-in-Ok
shape_of-packed-in-Ok c = c.from_csr32-t.auto.packed

pub returns-in-Ok : goal.returns-in-Ok
returns-in-Ok c = record { answer = dot_lent _ _ _ _ _ _ _ c.from_csr32-t.ensures.answer _ _ c.in-Ok.is _ _ _ _ _ c.from_csr32-t.ensures.pointers c.from_csr32-t.ensures.numbers c.from_csr32-t.ensures.bits c.from_csr32-t.ensures.starts c.from_csr32-t.ensures.values _ _ _ _ c.sparse_dot_row.ensures; store = record { pointers = c.from_csr32-t.ensures.pointers; numbers = c.from_csr32-t.ensures.numbers; bits = c.from_csr32-t.ensures.bits; starts = c.from_csr32-t.ensures.starts; values = c.from_csr32-t.ensures.values } }
