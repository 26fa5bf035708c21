-- `topology_combine::combine` meets its contract. Assumes nothing.
use mathlib.Core.Path.{sym, ◌∙◌}
use lib.Seq.{length-take-le}
use native.Mathlib.Omega.{arith}
use Rattle.lent.proofs.LentLaws.{built_refused, built_accepted}
use Rattle.hybit_core.proofs.AnswerLaws.{accepted_by, given_refused, given_accepted}
use Rattle.topology_combine.proofs.CallLaws.{taken_pair, end_frame, end_long, end_masks_room, end_pointers, end_words, end_masks, end_used}
use borrow.Author.Rules.{rules}
use Rattle.topology.specs.Matrix.{lent_topology}
use Rattle.topology_combine.proofs.combine.Goals as goal

pub returns-in-Err : goal.returns-in-Err
returns-in-Err c = let e = c.examine-v.ensures in
    let p = c.clear_past.ensures in
    let k = c.in-Err.is in
    record { answer = search (given_refused, rules); pointers = search (built_refused, rules); numbers = search (built_refused, rules); bits = search (built_refused, rules) }

pub merge_rows-words-requires : goal.merge_rows-words-requires
merge_rows-words-requires c = accepted_by _ _ c.examine-v.ensures c.in_default.is

pub offset_bounds-out_ptr-topology : goal.offset_bounds-out_ptr-topology
offset_bounds-out_ptr-topology c = let e = c.examine-v.ensures in
    let t = c.in_default.is in
    let h = (taken_pair c.args.operation (lent_topology c.args.topology) (lent_topology c.args.other) c.args.out_ptr.now c.args.out_words.now c.args.out_masks.now (accepted_by _ _ e t)).one.rows_in in
    search rules

pub bounds-out_ptr-topology : goal.bounds-out_ptr-topology
bounds-out_ptr-topology c = let e = c.examine-v.ensures in
    let t = c.in_default.is in
    let h = end_frame c.args.operation (lent_topology c.args.topology) (lent_topology c.args.other) c.args.out_ptr.now c.args.out_words.now c.args.out_masks.now (accepted_by _ _ e t) c.merge_rows-words.result _ _ _ c.merge_rows-words.ensures.pointers c.merge_rows-words.ensures.numbers c.merge_rows-words.ensures.bits in
    search rules

pub overflow_add-topology : goal.overflow_add-topology
overflow_add-topology c = let e = c.examine-v.ensures in
    let t = c.in_default.is in
    let h = (taken_pair c.args.operation (lent_topology c.args.topology) (lent_topology c.args.other) c.args.out_ptr.now c.args.out_words.now c.args.out_masks.now (accepted_by _ _ e t)).one.rows_in in
    search rules

pub slice_bounds-count_bits-end : goal.slice_bounds-count_bits-end
slice_bounds-count_bits-end c = let e = c.examine-v.ensures in
    let t = c.in_default.is in
    let h = end_masks_room c.args.operation (lent_topology c.args.topology) (lent_topology c.args.other) c.args.out_ptr.now c.args.out_words.now c.args.out_masks.now (accepted_by _ _ e t) c.merge_rows-words.result _ _ _ c.merge_rows-words.ensures.pointers c.merge_rows-words.ensures.numbers c.merge_rows-words.ensures.bits c.merge_rows-words.auto.out_masks in
    let q = c.clear_past-2.auto.masks in
    search rules

pub slice_bounds-count_bits-end-2 : goal.slice_bounds-count_bits-end-2
slice_bounds-count_bits-end-2 c = let e = c.examine-v.ensures in
    let t = c.in_default.is in
    let h = end_masks_room c.args.operation (lent_topology c.args.topology) (lent_topology c.args.other) c.args.out_ptr.now c.args.out_words.now c.args.out_masks.now (accepted_by _ _ e t) c.merge_rows-words.result _ _ _ c.merge_rows-words.ensures.pointers c.merge_rows-words.ensures.numbers c.merge_rows-words.ensures.bits c.merge_rows-words.auto.out_masks in
    sym (length-take-le c.merge_rows-words.result c.clear_past-2.new.masks (omega (arith, c.clear_past-2.auto.masks)))

pub shape_of-out_ptr : goal.shape_of-out_ptr
shape_of-out_ptr c = let e = c.examine-v.ensures in
    let t = c.in_default.is in
    c.clear_past-2.auto.row_word_ptr ∙ end_long c.args.operation (lent_topology c.args.topology) (lent_topology c.args.other) c.args.out_ptr.now c.args.out_words.now c.args.out_masks.now (accepted_by _ _ e t) c.merge_rows-words.result _ _ _ c.merge_rows-words.ensures.pointers c.merge_rows-words.ensures.numbers c.merge_rows-words.ensures.bits _

pub shape_of-out_words : goal.shape_of-out_words
shape_of-out_words c = c.clear_past-2.auto.word_indices ∙ c.merge_rows-words.auto.out_words

pub shape_of-out_masks : goal.shape_of-out_masks
shape_of-out_masks c = c.clear_past-2.auto.masks ∙ c.merge_rows-words.auto.out_masks

pub returns : goal.returns
returns c = let e = c.examine-v.ensures in
    let t = c.in_default.is in
    record { answer = given_accepted _ _ _ _ e t (end_used c.args.operation (lent_topology c.args.topology) (lent_topology c.args.other) c.args.out_ptr.now c.args.out_words.now c.args.out_masks.now (accepted_by _ _ e t) c.merge_rows-words.result _ _ _ c.merge_rows-words.ensures.pointers c.merge_rows-words.ensures.numbers c.merge_rows-words.ensures.bits _ _ c.merge_rows-words.auto.out_masks c.clear_past-2.ensures.bits c.count_bits.ensures); pointers = built_accepted _ _ _ _ _ _ e t (end_pointers c.args.operation (lent_topology c.args.topology) (lent_topology c.args.other) c.args.out_ptr.now c.args.out_words.now c.args.out_masks.now (accepted_by _ _ e t) c.merge_rows-words.result _ _ _ c.merge_rows-words.ensures.pointers c.merge_rows-words.ensures.numbers c.merge_rows-words.ensures.bits _ _ c.narrow.ensures c.clear_past-2.ensures.pointers); numbers = built_accepted _ _ _ _ _ _ e t (end_words c.args.operation (lent_topology c.args.topology) (lent_topology c.args.other) c.args.out_ptr.now c.args.out_words.now c.args.out_masks.now (accepted_by _ _ e t) c.merge_rows-words.result _ _ _ c.merge_rows-words.ensures.pointers c.merge_rows-words.ensures.numbers c.merge_rows-words.ensures.bits _ c.merge_rows-words.auto.out_words c.clear_past-2.ensures.numbers); bits = built_accepted _ _ _ _ _ _ e t (end_masks c.args.operation (lent_topology c.args.topology) (lent_topology c.args.other) c.args.out_ptr.now c.args.out_words.now c.args.out_masks.now (accepted_by _ _ e t) c.merge_rows-words.result _ _ _ c.merge_rows-words.ensures.pointers c.merge_rows-words.ensures.numbers c.merge_rows-words.ensures.bits _ c.merge_rows-words.auto.out_masks c.clear_past-2.ensures.bits) }
