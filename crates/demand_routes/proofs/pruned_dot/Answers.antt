-- `demand_routes::pruned_dot` meets its contract. Assumes nothing.
use Rattle.demand_routes.proofs.EndLaws.{store_zeros, pruned_told, pruned_lists}
use Rattle.demand_examine.proofs.StepLaws.{answer_refused}
use Rattle.demand_examine.proofs.CheckLaws.{pruned_refused}
use Rattle.demand_routes.proofs.pruned_dot.Goals as goal

pub shape_of-row_word_ptr-in-Err : goal.shape_of-row_word_ptr-in-Err
shape_of-row_word_ptr-in-Err c = c.clear_all.auto.row_word_ptr

pub shape_of-word_indices-in-Err : goal.shape_of-word_indices-in-Err
shape_of-word_indices-in-Err c = c.clear_all.auto.word_indices

pub shape_of-bits-in-Err : goal.shape_of-bits-in-Err
shape_of-bits-in-Err c = c.clear_all.auto.masks

pub shape_of-row_value_ptr-in-Err : goal.shape_of-row_value_ptr-in-Err
shape_of-row_value_ptr-in-Err c = c.clear_all.auto.row_value_ptr

pub shape_of-packed-in-Err : goal.shape_of-packed-in-Err
shape_of-packed-in-Err c = c.clear_all.auto.packed

pub returns-in-Err : goal.returns-in-Err
returns-in-Err c = let k = pruned_refused _ _ _ _ _ _ _ c.examine-v.ensures c.in-Err.is in
    record { answer = answer_refused _ _ _ k; store = store_zeros _ _ _ _ _ _ _ _ _ k c.clear_all.ensures.pointers c.clear_all.ensures.numbers c.clear_all.ensures.bits c.clear_all.ensures.starts c.clear_all.ensures.values }

pub shape_of-row_word_ptr : goal.shape_of-row_word_ptr
shape_of-row_word_ptr c = c.pack_dot.auto.row_word_ptr

pub shape_of-word_indices : goal.shape_of-word_indices
shape_of-word_indices c = c.pack_dot.auto.word_indices

pub shape_of-bits : goal.shape_of-bits
shape_of-bits c = c.pack_dot.auto.bits

pub shape_of-row_value_ptr : goal.shape_of-row_value_ptr
shape_of-row_value_ptr c = c.pack_dot.auto.row_value_ptr

pub shape_of-packed : goal.shape_of-packed
shape_of-packed c = c.pack_dot.auto.packed

pub returns : goal.returns
returns c = record { answer = pruned_told _ _ _ _ _ _ c.examine-v.ensures c.in_default.is _ c.pack_dot.ensures.answer; store = pruned_lists _ _ _ _ _ _ c.examine-v.ensures c.in_default.is _ _ _ _ _ c.pack_dot.ensures.store }
