-- `metadata_first::counts_hold` meets its contract. Assumes nothing.
use mathlib.Core.Path.{refl, ap}
use Prim.Native.Nat.{◌≤◌, ◌^◌}
use native.Mathlib.Omega.{arith}
use lib.ListN.{length, get_or}
use Rattle.topology.proofs.RowLaws.{small_is}
use Rattle.topology.proofs.ScanLaws.{rows_none, rows_more, rows_fail, rows_done}
use Rattle.metadata_first.specs.Store.{value_rules}
use Rattle.metadata_first.proofs.CallLaws.{masks_here, values_here, counts_same, counts_differ, start_small}
use Rattle.topology.proofs.TopologyLaws.{accepted_facts}
use borrow.Author.Rules.{rules}
use Rattle.metadata_first.proofs.counts_hold.Goals as goal

pub loop-row-init : goal.loop-row-init
unfolding value_rules
loop-row-init c = rows_none _ _

pub offset_bounds-packed-row : goal.offset_bounds-packed-row
offset_bounds-packed-row c = let k = accepted_facts _ c.requires.words in omega (arith, k.rows_in, c.loop-row-test.true)

pub bounds-packed-row : goal.bounds-packed-row
bounds-packed-row c = (masks_here _ _ _ _ _ _ c.requires.words _ c.loop-row-test.true).here

pub offset_bounds-packed-row-in-loop-row : goal.offset_bounds-packed-row-in-loop-row
offset_bounds-packed-row-in-loop-row c = let k = accepted_facts _ c.requires.words in omega (arith, k.rows_in, c.loop-row-test.true)

pub bounds-packed-row-in-loop-row : goal.bounds-packed-row-in-loop-row
bounds-packed-row-in-loop-row c = (masks_here _ _ _ _ _ _ c.requires.words _ c.loop-row-test.true).next

pub offset_bounds-packed-row-in-loop-row-2 : goal.offset_bounds-packed-row-in-loop-row-2
offset_bounds-packed-row-in-loop-row-2 c = let k = accepted_facts _ c.requires.words in omega (arith, k.rows_in, c.loop-row-test.true)

pub bounds-packed-row-in-loop-row-2 : goal.bounds-packed-row-in-loop-row-2
bounds-packed-row-in-loop-row-2 c = (values_here _ _ _ _ c.requires.pointers c.loop-row-test.true).here

pub offset_bounds-packed-row-in-loop-row-3 : goal.offset_bounds-packed-row-in-loop-row-3
offset_bounds-packed-row-in-loop-row-3 c = let k = accepted_facts _ c.requires.words in omega (arith, k.rows_in, c.loop-row-test.true)

pub bounds-packed-row-in-loop-row-3 : goal.bounds-packed-row-in-loop-row-3
bounds-packed-row-in-loop-row-3 c = (values_here _ _ _ _ c.requires.pointers c.loop-row-test.true).next

pub overflow_sub-last : goal.overflow_sub-last
overflow_sub-last c = let k = values_here _ _ _ _ c.requires.pointers c.loop-row-test.true in omega (arith, k.order)

pub offset_bounds-masks-start : goal.offset_bounds-masks-start
offset_bounds-masks-start c = let k : get_or c.args.packed.topology.row_word_ptr.now c.loop-row.row 0 ≤ 2 ^ 24 = start_small _ _ _ _ _ _ c.requires.words _ c.loop-row-test.true in omega arith

pub slice_bounds-count_bits-count : goal.slice_bounds-count_bits-count
slice_bounds-count_bits-count c = let k = masks_here _ _ _ _ _ _ c.requires.words _ c.loop-row-test.true in omega (arith, k.order)

pub slice_bounds-count_bits-start : goal.slice_bounds-count_bits-start
slice_bounds-count_bits-start c = let k = masks_here _ _ _ _ _ _ c.requires.words _ c.loop-row-test.true in omega (arith, k.order)

pub slice_bounds-count_bits-end : goal.slice_bounds-count_bits-end
slice_bounds-count_bits-end c = let k = masks_here _ _ _ _ _ _ c.requires.words _ c.loop-row-test.true in omega (arith, k.inside, ap length c.masks_of-masks.ensures)

pub returns-then-last-first : goal.returns-then-last-first
unfolding value_rules
returns-then-last-first c = rows_fail _ _ _ c.loop-row.invariant c.loop-row-test.true (counts_differ _ _ _ _ _ _ c.requires.words _ c.loop-row-test.true _ _ c.requires.pointers (rw (← c.masks_of-masks.ensures) (small_is _ (search rules))) _ _ _ _ _ refl refl refl refl (rw c.masks_of-masks.ensures at c.count_bits.ensures) c.if-last-first.true)

pub loop-row-preserved : goal.loop-row-preserved
unfolding value_rules
loop-row-preserved c = rows_more _ _ _ c.loop-row.invariant c.loop-row-test.true (counts_same _ _ _ _ _ _ c.requires.words _ c.loop-row-test.true _ _ c.requires.pointers (rw (← c.masks_of-masks.ensures) (small_is _ (search rules))) _ _ _ _ _ refl refl refl refl (rw c.masks_of-masks.ensures at c.count_bits.ensures) c.if-last-first.false)

pub returns : goal.returns
unfolding value_rules
returns c = rows_done _ _ _ c.loop-row.invariant (search rules)
