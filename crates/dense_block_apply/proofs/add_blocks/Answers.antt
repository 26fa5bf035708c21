-- `dense_block_apply::add_blocks` meets its contract. Assumes nothing.
use mathlib.Core.Path.{refl}
use native.Mathlib.Nat.{le_refl}
use native.Mathlib.Omega.{arith}
use lib.Ieee.{nan}
use Rattle.lent.proofs.ListLaws.{each_is}
use Rattle.dense_block_apply.proofs.BlockLaws.{ready, at_most_six, full_row, row_from}
use Rattle.dense_block_apply.proofs.FullLaws.{fast_is, full_block, tail_block}
use Rattle.dense_block_apply.proofs.RowLaws.{sums_none, sums_all, sums_full, sums_tail}
use Rattle.dense_block_apply.proofs.add_blocks.Goals as goal

pub offset_bounds-matrix-row : goal.offset_bounds-matrix-row
offset_bounds-matrix-row g c = let r = full_row (ready c.args.operands.matrix.size c.args.operands.width c.args.operands.valid) c.args.row c.requires.full in omega (arith, r.next)

pub bounds-matrix-row : goal.bounds-matrix-row
bounds-matrix-row g c = (full_row (ready c.args.operands.matrix.size c.args.operands.width c.args.operands.valid) c.args.row c.requires.full).next

pub fast_end-fast-requires : goal.fast_end-fast-requires
fast_end-fast-requires g c = let k = ready c.args.operands.matrix.size c.args.operands.width c.args.operands.valid in
    let r = row_from k c.args.row _ _ (full_row k c.args.row c.requires.full) c.requires.place.0 c.requires.place.1 refl in
    record { places = (r.order, r.inside); width = at_most_six k.width }

pub loop-p-init : goal.loop-p-init
loop-p-init g c = let k = ready c.args.operands.matrix.size c.args.operands.width c.args.operands.valid in
    let r = row_from k c.args.row _ _ (full_row k c.args.row c.requires.full) c.requires.place.0 c.requires.place.1 refl in
    sums_none _ _ _ _ _ _ _ _ _ r c.requires.full (fast_is r c.requires.full _ c.fast_end-fast.ensures) refl
    (each_is nan _ g.row.WIDTH c.args.sums (omega arith) (λ i h. refl))

pub add_full-all-requires : goal.add_full-all-requires
add_full-all-requires g c = (omega (arith, at_most_six c.loop-p.invariant.row.ready.width), (c.loop-p.invariant.row.ready.width, full_block c.loop-p.invariant.row c.loop-p.invariant.ends c.loop-p.p c.loop-p.invariant.after c.loop-p-test.true))

pub loop-p-preserved : goal.loop-p-preserved
loop-p-preserved g c = sums_full _ _ _ _ _ _ _ _ _ c.loop-p.invariant _ _ refl refl _ c.loop-p-test.true c.add_full-all.ensures

pub overflow_sub-matrix : goal.overflow_sub-matrix
overflow_sub-matrix g c = (tail_block c.loop-p.invariant.row c.loop-p.invariant.ends _ _ refl (le_refl _) (le_refl _) c.if-fast-end.false).inside

pub add_tail-requires : goal.add_tail-requires
add_tail-requires g c = let q = (tail_block c.loop-p.invariant.row c.loop-p.invariant.ends _ _ refl (le_refl _) (le_refl _) c.if-fast-end.false).asked _ _ refl refl in
    (omega (arith, at_most_six c.loop-p.invariant.row.ready.width), (c.loop-p.invariant.row.ready.width, q))

pub returns : goal.returns
returns g c = rw (← c.args.operands.width) (sums_tail _ _ _ _ _ _ _ _ _ (sums_all _ _ _ _ _ _ _ _ _ c.loop-p.invariant c.loop-p-test.false) _ _ refl refl _ (le_refl _) c.if-fast-end.false _ refl c.add_tail.ensures)
