-- `topology_combine::merge_row` meets its contract. Assumes nothing.
use native.Mathlib.Omega.{arith}
use Rattle.topology_combine.proofs.WriteLaws.{writing_none, writing_empty, writing_room, writing_full, written_words, written_masks}
use Rattle.topology_combine.proofs.MergeLaws.{merging_in, merging_few, merging_empty, merging_full}
use borrow.Author.Rules.{rules}
use Rattle.topology_combine.proofs.merge_row.Goals as goal

pub loop-at-init : goal.loop-at-init
loop-at-init c = writing_none _ _ _ _ _ _ _ _ _ (record { sides = c.args.rows.row.paired; rule = c.args.rows.rule; fit = c.args.rows.row.masks_fit; other_sides = c.args.rows.other.paired; other_rule = c.args.rows.other_rule; other_fit = c.args.rows.other.masks_fit }) c.requires.word_room c.requires.mask_room

pub overflow_add-at : goal.overflow_add-at
overflow_add-at c = let h = merging_few _ _ _ _ _ _ _ _ _ c.loop-at.invariant.merge in omega arith

pub offset_bounds-out_words-to : goal.offset_bounds-out_words-to
offset_bounds-out_words-to c = let h = writing_room _ _ _ _ _ _ _ _ _ _ _ _ _ _ c.loop-at.invariant _ _ _ _ c.next_word-s.ensures (λ z. omega arith) in search rules

pub bounds-out_words-to : goal.bounds-out_words-to
bounds-out_words-to c = let h = writing_room _ _ _ _ _ _ _ _ _ _ _ _ _ _ c.loop-at.invariant _ _ _ _ c.next_word-s.ensures (λ z. omega arith) in search rules

pub offset_bounds-out_masks-to : goal.offset_bounds-out_masks-to
offset_bounds-out_masks-to c = let h = writing_room _ _ _ _ _ _ _ _ _ _ _ _ _ _ c.loop-at.invariant _ _ _ _ c.next_word-s.ensures (λ z. omega arith) in search rules

pub bounds-out_masks-to : goal.bounds-out_masks-to
bounds-out_masks-to c = let h = writing_room _ _ _ _ _ _ _ _ _ _ _ _ _ _ c.loop-at.invariant _ _ _ _ c.next_word-s.ensures (λ z. omega arith) in search rules

pub overflow_add-to : goal.overflow_add-to
overflow_add-to c = let h = writing_room _ _ _ _ _ _ _ _ _ _ _ _ _ _ c.loop-at.invariant _ _ _ _ c.next_word-s.ensures (λ z. omega arith) in omega arith

pub loop-at-smaller-then-s-gt0 : goal.loop-at-smaller-then-s-gt0
loop-at-smaller-then-s-gt0 c = let m = merging_in _ _ _ _ _ _ _ _ _ (merging_full _ _ _ _ _ _ _ _ _ c.loop-at.invariant.merge _ _ _ _ c.next_word-s.ensures (λ z. omega arith)) in
    omega (arith, c.next_word-s.ensures.onward)

pub loop-at-preserved-then-s-gt0 : goal.loop-at-preserved-then-s-gt0
loop-at-preserved-then-s-gt0 c = writing_full _ _ _ _ _ _ _ _ _ _ _ _ _ _ c.loop-at.invariant _ _ _ _ c.next_word-s.ensures (λ z. omega arith) _ c.narrow.ensures

pub loop-at-smaller : goal.loop-at-smaller
loop-at-smaller c = let m = merging_in _ _ _ _ _ _ _ _ _ (merging_empty _ _ _ _ _ _ _ _ _ c.loop-at.invariant.merge _ _ _ _ c.next_word-s.ensures (omega arith)) in
    omega (arith, c.next_word-s.ensures.onward)

pub loop-at-preserved : goal.loop-at-preserved
loop-at-preserved c = writing_empty _ _ _ _ _ _ _ _ _ _ _ _ _ _ c.loop-at.invariant _ _ _ _ c.next_word-s.ensures (omega arith)

pub shape_of-out_words : goal.shape_of-out_words
shape_of-out_words c = c.loop-at.invariant.words_same

pub shape_of-out_masks : goal.shape_of-out_masks
shape_of-out_masks c = c.loop-at.invariant.masks_same

pub returns : goal.returns
returns c = let m = merging_in _ _ _ _ _ _ _ _ _ c.loop-at.invariant.merge in
    record { numbers = written_words _ _ _ _ _ _ _ _ _ _ _ _ _ _ c.loop-at.invariant (omega arith) (omega arith); bits = written_masks _ _ _ _ _ _ _ _ _ _ _ _ _ _ c.loop-at.invariant (omega arith) (omega arith) }
