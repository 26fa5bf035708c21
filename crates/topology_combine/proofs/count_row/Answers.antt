-- `topology_combine::count_row` meets its contract. Assumes nothing.
use native.Mathlib.Omega.{arith}
use Rattle.topology_combine.proofs.MergeLaws.{merging_none, merging_in, merging_few, merging_empty, merging_full, merging_fits, merging_done}
use Rattle.topology_combine.proofs.count_row.Goals as goal

pub loop-at-init : goal.loop-at-init
loop-at-init c = merging_none _ _ _ _ _ _ (record { sides = c.args.rows.row.paired; rule = c.args.rows.rule; fit = c.args.rows.row.masks_fit; other_sides = c.args.rows.other.paired; other_rule = c.args.rows.other_rule; other_fit = c.args.rows.other.masks_fit })

pub overflow_add-at : goal.overflow_add-at
overflow_add-at c = let h = merging_few _ _ _ _ _ _ _ _ _ c.loop-at.invariant in omega arith

pub overflow_add-count : goal.overflow_add-count
overflow_add-count c = let h = merging_fits _ _ _ _ _ _ _ _ _ c.loop-at.invariant _ _ _ _ c.next_word-s.ensures (λ z. omega arith) in omega arith

pub loop-at-smaller-then-s-ne0 : goal.loop-at-smaller-then-s-ne0
loop-at-smaller-then-s-ne0 c = let m = merging_in _ _ _ _ _ _ _ _ _ (merging_full _ _ _ _ _ _ _ _ _ c.loop-at.invariant _ _ _ _ c.next_word-s.ensures (λ z. omega arith)) in
    omega (arith, c.next_word-s.ensures.onward)

pub loop-at-preserved-then-s-ne0 : goal.loop-at-preserved-then-s-ne0
loop-at-preserved-then-s-ne0 c = merging_full _ _ _ _ _ _ _ _ _ c.loop-at.invariant _ _ _ _ c.next_word-s.ensures (λ z. omega arith)

pub loop-at-smaller : goal.loop-at-smaller
loop-at-smaller c = let m = merging_in _ _ _ _ _ _ _ _ _ (merging_empty _ _ _ _ _ _ _ _ _ c.loop-at.invariant _ _ _ _ c.next_word-s.ensures (omega arith)) in
    omega (arith, c.next_word-s.ensures.onward)

pub loop-at-preserved : goal.loop-at-preserved
loop-at-preserved c = merging_empty _ _ _ _ _ _ _ _ _ c.loop-at.invariant _ _ _ _ c.next_word-s.ensures (omega arith)

pub returns : goal.returns
returns c = let m = merging_in _ _ _ _ _ _ _ _ _ c.loop-at.invariant in
    merging_done _ _ _ _ _ _ _ _ _ c.loop-at.invariant (omega arith) (omega arith)
