-- `topology_combine::merge_rows` meets its contract. Assumes nothing.
use mathlib.Core.Path.{ap}
use lib.ListN.{length}
use native.Mathlib.Omega.{arith}
use Rattle.topology_combine.proofs.FillLaws.{filling_ptr, filling_room, filling_more, filled_pointers, filled_words, filled_masks}
use Rattle.topology_combine.proofs.RowsLaws.{lent_rule, lent_other, lent_words, lent_masks}
use Rattle.topology_combine.proofs.CallLaws.{taken_pair, start}
use borrow.Author.Rules.{rules}
use Rattle.topology.specs.Matrix.{lent_topology}
use Rattle.topology_combine.proofs.merge_rows.Goals as goal

pub invariant_of-left : goal.invariant_of-left
invariant_of-left c = record { framed = (taken_pair _ _ _ _ _ _ c.requires).one.lists }

pub invariant_of-right : goal.invariant_of-right
invariant_of-right c = record { framed = (taken_pair _ _ _ _ _ _ c.requires).two.lists }

pub loop-row-init : goal.loop-row-init
loop-row-init c = start _ _ _ _ _ _ c.requires

pub offset_bounds-out_ptr-row : goal.offset_bounds-out_ptr-row
offset_bounds-out_ptr-row c = let h = filling_room _ _ _ _ _ _ _ _ _ _ _ c.loop-row.invariant (search rules) in search rules

pub bounds-out_ptr-row : goal.bounds-out_ptr-row
bounds-out_ptr-row c = let h = filling_room _ _ _ _ _ _ _ _ _ _ _ c.loop-row.invariant (search rules) in search rules

pub invariant_of-rows : goal.invariant_of-rows
invariant_of-rows c = let p = taken_pair _ _ _ _ _ _ c.requires in
    let one = c.row.ensures in
    let two = c.row-in-loop-row.ensures in
    record { rule = lent_rule _ _ _ _ _ _ _ one.words one.masks two.words two.masks p c.loop-row-test.true; other_rule = lent_other _ _ _ _ _ _ _ one.words one.masks two.words two.masks p c.loop-row-test.true }

pub merge_row-to-requires : goal.merge_row-to-requires
merge_row-to-requires c = let h = filling_room _ _ _ _ _ _ _ _ _ _ _ c.loop-row.invariant (search rules) in
    let one = c.row.ensures in
    let two = c.row-in-loop-row.ensures in
    let e = ap length (lent_words (lent_topology c.args.topology) (lent_topology c.args.other) _ _ _ _ _ one.words one.masks two.words two.masks c.args.operation) in
    record {
      word_room = omega (arith, h.1.0, e);
      mask_room = omega (arith, h.1.1, e);
    }

pub loop-row-preserved : goal.loop-row-preserved
loop-row-preserved c = let one = c.row.ensures in
    let two = c.row-in-loop-row.ensures in
    let m = c.merge_row-to in
    filling_more _ _ _ _ _ _ _ _ _ _ _ c.loop-row.invariant (search rules) _ _ _ _ _ _ c.narrow.ensures (lent_words _ _ _ _ _ _ _ one.words one.masks two.words two.masks c.args.operation) (lent_masks _ _ _ _ _ _ _ one.words one.masks two.words two.masks c.args.operation) m.ensures.numbers m.ensures.bits m.auto.out_words m.auto.out_masks

pub shape_of-out_ptr : goal.shape_of-out_ptr
shape_of-out_ptr c = filling_ptr _ _ _ _ _ _ _ _ _ _ _ c.loop-row.invariant

pub shape_of-out_words : goal.shape_of-out_words
shape_of-out_words c = c.loop-row.invariant.words_same

pub shape_of-out_masks : goal.shape_of-out_masks
shape_of-out_masks c = c.loop-row.invariant.masks_same

pub returns : goal.returns
returns c = record { pointers = filled_pointers _ _ _ _ _ _ _ _ _ _ _ c.loop-row.invariant (omega (arith, c.loop-row.invariant.inside)); numbers = filled_words _ _ _ _ _ _ _ _ _ _ _ c.loop-row.invariant (omega (arith, c.loop-row.invariant.inside)); bits = filled_masks _ _ _ _ _ _ _ _ _ _ _ c.loop-row.invariant (omega (arith, c.loop-row.invariant.inside)) }
