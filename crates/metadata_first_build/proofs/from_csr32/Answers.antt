-- `metadata_first_build::from_csr32` meets its contract. Assumes nothing.
use mathlib.Core.Path.{◌∙◌, ap}
use native.Mathlib.Omega.{arith}
use lib.ListN.{length-take}
use Rattle.metadata_first_build.proofs.AnswerLaws.{pack_refused, no_words, no_values_written, used, list_is, pack_source, pack_framed, pack_built}
use borrow.Author.Rules.{rules}
use mathlib.Core.Bool.{not}
use Rattle.metadata_first_build.proofs.from_csr32.Goals as goal

pub shape_of-row_word_ptr-in_default : goal.shape_of-row_word_ptr-in_default
shape_of-row_word_ptr-in_default c = c.clear_all.auto.row_word_ptr ∙ c.from_csr32.auto.row_word_ptr

pub shape_of-word_indices-in_default : goal.shape_of-word_indices-in_default
shape_of-word_indices-in_default c = c.clear_all.auto.word_indices ∙ c.from_csr32.auto.word_indices

pub shape_of-masks-in_default : goal.shape_of-masks-in_default
shape_of-masks-in_default c = c.clear_all.auto.masks ∙ c.from_csr32.auto.masks

pub shape_of-row_value_ptr-in_default : goal.shape_of-row_value_ptr-in_default
shape_of-row_value_ptr-in_default c = c.clear_all.auto.row_value_ptr

pub shape_of-packed-in_default : goal.shape_of-packed-in_default
shape_of-packed-in_default c = c.clear_all.auto.packed

pub returns-in_default : goal.returns-in_default
returns-in_default c = let rest = pack_refused _ _ _ _ _ _ (no_words _ _ _ _ _ _ _ c.from_csr32.ensures.answer _ c.in_default.is) _ _ _ _ _ _ _ _ _ _ _ c.refusal.ensures c.clear_all.ensures.pointers c.clear_all.ensures.numbers c.clear_all.ensures.bits c.clear_all.ensures.starts c.clear_all.ensures.values (search rules) (search rules) (search rules) (search rules) (search rules) in record { answer = rest.0; pointers = rest.1.0; numbers = rest.1.1.0; bits = rest.1.1.1.0; starts = rest.1.1.1.1.0; values = rest.1.1.1.1.1 }

pub overflow_add-topology : goal.overflow_add-topology
overflow_add-topology c = let u = used _ _ _ _ _ c.from_csr32.ensures.answer _ c.in-Ok.is in omega (arith, u.rows_in)

pub slice_bounds-topology-end : goal.slice_bounds-topology-end
slice_bounds-topology-end c = let u = used _ _ _ _ _ c.from_csr32.ensures.answer _ c.in-Ok.is in omega (arith, u.ptr_in, c.from_csr32.auto.row_word_ptr)

pub slice_bounds-topology-end-2 : goal.slice_bounds-topology-end-2
slice_bounds-topology-end-2 c = let u = used _ _ _ _ _ c.from_csr32.ensures.answer _ c.in-Ok.is in simp length-take (omega (arith, u.ptr_in, c.from_csr32.auto.row_word_ptr))

pub slice_bounds-topology-end-3 : goal.slice_bounds-topology-end-3
slice_bounds-topology-end-3 c = let u = used _ _ _ _ _ c.from_csr32.ensures.answer _ c.in-Ok.is in omega (arith, u.word_in, c.from_csr32.auto.word_indices)

pub slice_bounds-topology-end-4 : goal.slice_bounds-topology-end-4
slice_bounds-topology-end-4 c = let u = used _ _ _ _ _ c.from_csr32.ensures.answer _ c.in-Ok.is in simp length-take (omega (arith, u.word_in, c.from_csr32.auto.word_indices))

pub slice_bounds-topology-end-5 : goal.slice_bounds-topology-end-5
slice_bounds-topology-end-5 c = let u = used _ _ _ _ _ c.from_csr32.ensures.answer _ c.in-Ok.is in omega (arith, u.mask_in, c.from_csr32.auto.masks)

pub slice_bounds-topology-end-6 : goal.slice_bounds-topology-end-6
slice_bounds-topology-end-6 c = let u = used _ _ _ _ _ c.from_csr32.ensures.answer _ c.in-Ok.is in simp length-take (omega (arith, u.mask_in, c.from_csr32.auto.masks))

pub invariant_of-source-2 : goal.invariant_of-source-2
invariant_of-source-2 c = record { framed = pack_framed _ _ _ _ _ c.from_csr32.ensures.answer _ c.in-Ok.is _ _ _ c.from_csr32.ensures.pointers c.from_csr32.ensures.numbers c.from_csr32.ensures.bits }

pub invariant_of-source-3 : goal.invariant_of-source-3
invariant_of-source-3 c = record { built = pack_source _ _ _ _ _ c.from_csr32.ensures.answer _ c.in-Ok.is _ _ _ c.from_csr32.ensures.pointers c.from_csr32.ensures.numbers c.from_csr32.ensures.bits }

pub invariant_of-source : goal.invariant_of-source
invariant_of-source c = record { valid = list_is _ _ _ _ _ c.from_csr32.ensures.answer _ c.in-Ok.is }

pub shape_of-row_word_ptr-then-not-fill_values : goal.shape_of-row_word_ptr-then-not-fill_values
shape_of-row_word_ptr-then-not-fill_values c = c.clear_all-then-not-fill_values.auto.row_word_ptr ∙ c.from_csr32.auto.row_word_ptr

pub shape_of-word_indices-then-not-fill_values : goal.shape_of-word_indices-then-not-fill_values
shape_of-word_indices-then-not-fill_values c = c.clear_all-then-not-fill_values.auto.word_indices ∙ c.from_csr32.auto.word_indices

pub shape_of-masks-then-not-fill_values : goal.shape_of-masks-then-not-fill_values
shape_of-masks-then-not-fill_values c = c.clear_all-then-not-fill_values.auto.masks ∙ c.from_csr32.auto.masks

pub shape_of-row_value_ptr-then-not-fill_values : goal.shape_of-row_value_ptr-then-not-fill_values
shape_of-row_value_ptr-then-not-fill_values c = c.clear_all-then-not-fill_values.auto.row_value_ptr ∙ c.fill_values.auto.row_value_ptr

pub shape_of-packed-then-not-fill_values : goal.shape_of-packed-then-not-fill_values
shape_of-packed-then-not-fill_values c = c.clear_all-then-not-fill_values.auto.packed ∙ c.fill_values.auto.packed

pub returns-then-not-fill_values : goal.returns-then-not-fill_values
returns-then-not-fill_values c = let rest = pack_refused _ _ _ _ _ _ (no_values_written _ _ _ _ _ _ _ c.from_csr32.ensures.answer _ c.in-Ok.is _ _ _ c.fill_values.ensures (ap not c.if-not-fill_values.true)) _ _ _ _ _ _ _ _ _ _ _ c.refusal-then-not-fill_values.ensures c.clear_all-then-not-fill_values.ensures.pointers c.clear_all-then-not-fill_values.ensures.numbers c.clear_all-then-not-fill_values.ensures.bits c.clear_all-then-not-fill_values.ensures.starts c.clear_all-then-not-fill_values.ensures.values c.from_csr32.auto.row_word_ptr c.from_csr32.auto.word_indices c.from_csr32.auto.masks (search rules) (search rules) in record { answer = rest.0; pointers = rest.1.0; numbers = rest.1.1.0; bits = rest.1.1.1.0; starts = rest.1.1.1.1.0; values = rest.1.1.1.1.1 }

pub shape_of-row_word_ptr : goal.shape_of-row_word_ptr
shape_of-row_word_ptr c = c.from_csr32.auto.row_word_ptr

pub shape_of-word_indices : goal.shape_of-word_indices
shape_of-word_indices c = c.from_csr32.auto.word_indices

pub shape_of-masks : goal.shape_of-masks
shape_of-masks c = c.from_csr32.auto.masks

pub shape_of-row_value_ptr : goal.shape_of-row_value_ptr
shape_of-row_value_ptr c = c.fill_values.auto.row_value_ptr

pub shape_of-packed : goal.shape_of-packed
shape_of-packed c = c.fill_values.auto.packed

pub returns : goal.returns
returns c = let rest = pack_built _ _ _ _ _ _ _ c.from_csr32.ensures.answer _ c.in-Ok.is _ _ _ c.fill_values.ensures (ap not c.if-not-fill_values.false) _ _ _ c.from_csr32.ensures.pointers c.from_csr32.ensures.numbers c.from_csr32.ensures.bits in record { answer = rest.0; pointers = rest.1.0; numbers = rest.1.1.0; bits = rest.1.1.1.0; starts = rest.1.1.1.1.0; values = rest.1.1.1.1.1 }
