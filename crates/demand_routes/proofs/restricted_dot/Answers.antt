-- `demand_routes::restricted_dot` meets its contract. Assumes nothing.
use Rattle.hybit_core.specs.Table.{given}
use Rattle.demand_routes.proofs.EndLaws.{store_zeros, restricted-told, restricted_short, restricted-plots, restricted-all, restricted_store}
use Rattle.demand_examine.proofs.StepLaws.{plot_zeros, list_zeros, at_length, answer_refused}
use Rattle.demand_examine.proofs.CheckLaws.{restricted_refused}
use mathlib.Core.Path.{sym, ap, ◌∙◌}
use Rattle.demand_routes.proofs.restricted_dot.Goals as goal

pub shape_of-out_row_ptr-in-Err : goal.shape_of-out_row_ptr-in-Err
shape_of-out_row_ptr-in-Err c = c.clear_restricted.auto.out_row_ptr

pub shape_of-out_col_idx-in-Err : goal.shape_of-out_col_idx-in-Err
shape_of-out_col_idx-in-Err c = c.clear_restricted.auto.out_col_idx

pub shape_of-out_values-in-Err : goal.shape_of-out_values-in-Err
shape_of-out_values-in-Err c = c.clear_restricted.auto.out_values

pub shape_of-row_word_ptr-in-Err : goal.shape_of-row_word_ptr-in-Err
shape_of-row_word_ptr-in-Err c = c.clear_restricted.auto.row_word_ptr

pub shape_of-word_indices-in-Err : goal.shape_of-word_indices-in-Err
shape_of-word_indices-in-Err c = c.clear_restricted.auto.word_indices

pub shape_of-bits-in-Err : goal.shape_of-bits-in-Err
shape_of-bits-in-Err c = c.clear_restricted.auto.bits

pub shape_of-row_value_ptr-in-Err : goal.shape_of-row_value_ptr-in-Err
shape_of-row_value_ptr-in-Err c = c.clear_restricted.auto.row_value_ptr

pub shape_of-packed-in-Err : goal.shape_of-packed-in-Err
shape_of-packed-in-Err c = c.clear_restricted.auto.packed

pub shape_of-all-in-Err : goal.shape_of-all-in-Err
shape_of-all-in-Err c = c.clear_restricted.auto.all

pub returns-in-Err : goal.returns-in-Err
returns-in-Err c = let k = restricted_refused _ _ _ _ _ _ _ _ _ c.examine-v.ensures c.in-Err.is in
    record { answer = answer_refused _ _ _ k; list = plot_zeros _ _ _ _ _ _ _ k c.clear_restricted.ensures.list.0 c.clear_restricted.ensures.list.1 c.clear_restricted.ensures.list.2; all = list_zeros _ _ _ _ _ _ k c.clear_restricted.ensures.all; store = store_zeros _ _ _ _ _ _ _ _ _ k c.clear_restricted.ensures.pointers c.clear_restricted.ensures.numbers c.clear_restricted.ensures.bits c.clear_restricted.ensures.starts c.clear_restricted.ensures.values }

pub shape_of-out_row_ptr : goal.shape_of-out_row_ptr
shape_of-out_row_ptr c = c.restrict_dot-d.auto.out_row_ptr

pub shape_of-out_col_idx : goal.shape_of-out_col_idx
shape_of-out_col_idx c = c.restrict_dot-d.auto.out_col_idx

pub shape_of-out_values : goal.shape_of-out_values
shape_of-out_values c = c.restrict_dot-d.auto.out_values

pub shape_of-row_word_ptr : goal.shape_of-row_word_ptr
shape_of-row_word_ptr c = c.restrict_dot-d.auto.row_word_ptr

pub shape_of-word_indices : goal.shape_of-word_indices
shape_of-word_indices c = c.restrict_dot-d.auto.word_indices

pub shape_of-bits : goal.shape_of-bits
shape_of-bits c = c.restrict_dot-d.auto.bits

pub shape_of-row_value_ptr : goal.shape_of-row_value_ptr
shape_of-row_value_ptr c = c.restrict_dot-d.auto.row_value_ptr

pub shape_of-packed : goal.shape_of-packed
shape_of-packed c = c.restrict_dot-d.auto.packed

pub shape_of-all : goal.shape_of-all
shape_of-all c = c.restrict_dot-d.auto.all

pub returns : goal.returns
returns c = let h = c.examine-v.ensures in
    let k = c.in_default.is in
    let e = sym (ap given c.in_default-d.is) ∙ c.restrict_dot-d.ensures.answer in
    record { answer = restricted-told _ _ _ _ _ _ _ _ h k _ c.restrict_dot-d.ensures.answer; list = restricted-plots _ _ _ _ _ _ _ _ h k _ e _ _ _ c.restrict_dot-d.ensures.list; all = restricted-all _ _ _ _ _ _ _ _ h k _ e _ _ c.restrict_dot-d.ensures.all; store = restricted_store _ _ _ _ _ _ _ _ h k _ e _ _ _ _ _ c.restrict_dot-d.ensures.store }

pub shape_of-out_row_ptr-in-Err-d : goal.shape_of-out_row_ptr-in-Err-d
shape_of-out_row_ptr-in-Err-d c = c.clear_restricted-in-Err-d.auto.out_row_ptr ∙ c.restrict_dot-d.auto.out_row_ptr

pub shape_of-out_col_idx-in-Err-d : goal.shape_of-out_col_idx-in-Err-d
shape_of-out_col_idx-in-Err-d c = c.clear_restricted-in-Err-d.auto.out_col_idx ∙ c.restrict_dot-d.auto.out_col_idx

pub shape_of-out_values-in-Err-d : goal.shape_of-out_values-in-Err-d
shape_of-out_values-in-Err-d c = c.clear_restricted-in-Err-d.auto.out_values ∙ c.restrict_dot-d.auto.out_values

pub shape_of-row_word_ptr-in-Err-d : goal.shape_of-row_word_ptr-in-Err-d
shape_of-row_word_ptr-in-Err-d c = c.clear_restricted-in-Err-d.auto.row_word_ptr ∙ c.restrict_dot-d.auto.row_word_ptr

pub shape_of-word_indices-in-Err-d : goal.shape_of-word_indices-in-Err-d
shape_of-word_indices-in-Err-d c = c.clear_restricted-in-Err-d.auto.word_indices ∙ c.restrict_dot-d.auto.word_indices

pub shape_of-bits-in-Err-d : goal.shape_of-bits-in-Err-d
shape_of-bits-in-Err-d c = c.clear_restricted-in-Err-d.auto.bits ∙ c.restrict_dot-d.auto.bits

pub shape_of-row_value_ptr-in-Err-d : goal.shape_of-row_value_ptr-in-Err-d
shape_of-row_value_ptr-in-Err-d c = c.clear_restricted-in-Err-d.auto.row_value_ptr ∙ c.restrict_dot-d.auto.row_value_ptr

pub shape_of-packed-in-Err-d : goal.shape_of-packed-in-Err-d
shape_of-packed-in-Err-d c = c.clear_restricted-in-Err-d.auto.packed ∙ c.restrict_dot-d.auto.packed

pub shape_of-all-in-Err-d : goal.shape_of-all-in-Err-d
shape_of-all-in-Err-d c = c.clear_restricted-in-Err-d.auto.all ∙ c.restrict_dot-d.auto.all

pub returns-in-Err-d : goal.returns-in-Err-d
returns-in-Err-d c = let e = sym (ap given c.in-Err-d.is) ∙ c.restrict_dot-d.ensures.answer in
    let k = restricted_short _ _ _ _ _ _ _ _ c.examine-v.ensures c.in_default.is _ e in
    record { answer = answer_refused _ _ _ k; list = plot_zeros _ _ _ _ _ _ _ k (at_length _ _ _ _ c.clear_restricted-in-Err-d.ensures.list.0 c.restrict_dot-d.auto.out_row_ptr) (at_length _ _ _ _ c.clear_restricted-in-Err-d.ensures.list.1 c.restrict_dot-d.auto.out_col_idx) (at_length _ _ _ _ c.clear_restricted-in-Err-d.ensures.list.2 c.restrict_dot-d.auto.out_values); all = list_zeros _ _ _ _ _ _ k (at_length _ _ _ _ c.clear_restricted-in-Err-d.ensures.all c.restrict_dot-d.auto.all); store = store_zeros _ _ _ _ _ _ _ _ _ k (at_length _ _ _ _ c.clear_restricted-in-Err-d.ensures.pointers c.restrict_dot-d.auto.row_word_ptr) (at_length _ _ _ _ c.clear_restricted-in-Err-d.ensures.numbers c.restrict_dot-d.auto.word_indices) (at_length _ _ _ _ c.clear_restricted-in-Err-d.ensures.bits c.restrict_dot-d.auto.bits) (at_length _ _ _ _ c.clear_restricted-in-Err-d.ensures.starts c.restrict_dot-d.auto.row_value_ptr) (at_length _ _ _ _ c.clear_restricted-in-Err-d.ensures.values c.restrict_dot-d.auto.packed) }
