-- `dense_block_apply::full_count` meets its contract. Assumes nothing.
use mathlib.Core.Path.{refl}
use native.Mathlib.Omega.{arith}
use Rattle.dense_block_apply.proofs.BlockLaws.{ready, at_most_six, full_row}
use Rattle.dense_block_apply.proofs.FullLaws.{count-after, count_is}
use Rattle.dense_block_apply.proofs.full_count.Goals as goal

pub offset_bounds-matrix-row : goal.offset_bounds-matrix-row
offset_bounds-matrix-row g c = let r = full_row (ready c.args.operands.matrix.size c.args.operands.width c.args.operands.valid) c.args.row c.requires in omega (arith, r.here)

pub bounds-matrix-row : goal.bounds-matrix-row
bounds-matrix-row g c = (full_row (ready c.args.operands.matrix.size c.args.operands.width c.args.operands.valid) c.args.row c.requires).here

pub offset_bounds-matrix-row-2 : goal.offset_bounds-matrix-row-2
offset_bounds-matrix-row-2 g c = let r = full_row (ready c.args.operands.matrix.size c.args.operands.width c.args.operands.valid) c.args.row c.requires in omega (arith, r.next)

pub bounds-matrix-row-2 : goal.bounds-matrix-row-2
bounds-matrix-row-2 g c = (full_row (ready c.args.operands.matrix.size c.args.operands.width c.args.operands.valid) c.args.row c.requires).next

pub fast_end-requires : goal.fast_end-requires
fast_end-requires g c = let k = ready c.args.operands.matrix.size c.args.operands.width c.args.operands.valid in
    let r = full_row k c.args.row c.requires in
    record { places = (r.order, r.inside); width = at_most_six k.width }

pub overflow_sub-result : goal.overflow_sub-result
overflow_sub-result g c = let r = full_row (ready c.args.operands.matrix.size c.args.operands.width c.args.operands.valid) c.args.row c.requires in
    count-after _ _ _ _ _ _ _ _ refl refl r.order c.fast_end.ensures

pub returns : goal.returns
returns g c = let r = full_row (ready c.args.operands.matrix.size c.args.operands.width c.args.operands.valid) c.args.row c.requires in
    count_is _ _ _ _ _ _ _ _ refl refl r.order c.fast_end.ensures
