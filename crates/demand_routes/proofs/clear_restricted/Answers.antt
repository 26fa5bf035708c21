-- `demand_routes::clear_restricted` meets its contract. Assumes nothing.
use Rattle.demand_routes.proofs.clear_restricted.Goals as goal

pub shape_of-out_row_ptr : goal.shape_of-out_row_ptr
shape_of-out_row_ptr c = c.clear_from.auto.s

pub shape_of-out_col_idx : goal.shape_of-out_col_idx
shape_of-out_col_idx c = c.clear_from-2.auto.s

pub shape_of-out_values : goal.shape_of-out_values
shape_of-out_values c = c.clear_from-3.auto.s

pub shape_of-row_word_ptr : goal.shape_of-row_word_ptr
shape_of-row_word_ptr c = c.clear_all.auto.row_word_ptr

pub shape_of-word_indices : goal.shape_of-word_indices
shape_of-word_indices c = c.clear_all.auto.word_indices

pub shape_of-bits : goal.shape_of-bits
shape_of-bits c = c.clear_all.auto.masks

pub shape_of-row_value_ptr : goal.shape_of-row_value_ptr
shape_of-row_value_ptr c = c.clear_all.auto.row_value_ptr

pub shape_of-packed : goal.shape_of-packed
shape_of-packed c = c.clear_all.auto.packed

pub shape_of-all : goal.shape_of-all
shape_of-all c = c.clear_from-4.auto.s

pub returns : goal.returns
returns c = record { list = (c.clear_from.ensures, c.clear_from-2.ensures, c.clear_from-3.ensures); pointers = c.clear_all.ensures.pointers; numbers = c.clear_all.ensures.numbers; bits = c.clear_all.ensures.bits; starts = c.clear_all.ensures.starts; values = c.clear_all.ensures.values; all = c.clear_from-4.ensures }
