-- `dense_block_apply::partial_sum` meets its contract. Assumes nothing.
use mathlib.Core.Path.{refl}
use native.Mathlib.Omega.{arith}
use Rattle.dense_block_apply.proofs.BlockLaws.{ready, row_here, last_row, last_place}
use Rattle.dense_block_apply.proofs.RowLaws.{sum-none, sum_more, sum_done}
use Rattle.dense_block_apply.proofs.partial_sum.Goals as goal

pub offset_bounds-matrix-last : goal.offset_bounds-matrix-last
offset_bounds-matrix-last g c = let k = last_row (ready c.args.operands.matrix.size c.args.operands.width c.args.operands.valid) c.args.row _ refl c.requires.0 c.requires.1 in omega (arith, k.pointers.here)

pub bounds-matrix-last : goal.bounds-matrix-last
bounds-matrix-last g c = (last_row (ready c.args.operands.matrix.size c.args.operands.width c.args.operands.valid) c.args.row _ refl c.requires.0 c.requires.1).pointers.here

pub offset_bounds-matrix-last-2 : goal.offset_bounds-matrix-last-2
offset_bounds-matrix-last-2 g c = let k = last_row (ready c.args.operands.matrix.size c.args.operands.width c.args.operands.valid) c.args.row _ refl c.requires.0 c.requires.1 in omega (arith, k.pointers.next)

pub bounds-matrix-last-2 : goal.bounds-matrix-last-2
bounds-matrix-last-2 g c = (last_row (ready c.args.operands.matrix.size c.args.operands.width c.args.operands.valid) c.args.row _ refl c.requires.0 c.requires.1).pointers.next

pub loop-p-init : goal.loop-p-init
loop-p-init g c = sum-none _ _ _ _ _ _ (last_row (ready c.args.operands.matrix.size c.args.operands.width c.args.operands.valid) c.args.row _ refl c.requires.0 c.requires.1) refl refl

pub overflow_sub-matrix : goal.overflow_sub-matrix
overflow_sub-matrix g c = (last_place c.loop-p.invariant.of c.loop-p.p _ (row_here c.loop-p.invariant.row c.loop-p.p c.loop-p-test.true) refl).inside

pub add_terms-sum-requires : goal.add_terms-sum-requires
add_terms-sum-requires g c = let q = last_place c.loop-p.invariant.of c.loop-p.p _ (row_here c.loop-p.invariant.row c.loop-p.p c.loop-p-test.true) refl in
    let rest = q.terms _ c.min-count.ensures in record { values_in = rest.0; columns_in = rest.1.0; small = (omega (arith, rest.1.1.0), omega (arith, rest.1.1.1)) }

pub loop-p-preserved : goal.loop-p-preserved
loop-p-preserved g c = sum_more _ _ _ _ _ _ _ _ c.loop-p.invariant _ _ _ _ refl refl c.min-count.ensures c.loop-p-test.true c.add_terms-sum.ensures

pub returns : goal.returns
returns g c = rw (← c.args.operands.width) (sum_done _ _ _ _ _ _ _ _ c.loop-p.invariant c.loop-p-test.false)
