-- `dense_block_apply::apply_full_rows` meets its contract. Assumes nothing.
use native.Mathlib.Omega.{arith}
use Rattle.dense_block_apply.proofs.BlockLaws.{ready, at_most_six}
use Rattle.dense_block_apply.proofs.ProductLaws.{apart, wrote_rows, written_none, written_more, room, room_still, written_front}
use Rattle.dense_block_apply.proofs.apply_full_rows.Goals as goal

pub loop-row-init : goal.loop-row-init
loop-row-init g c = written_none _ _ (ready c.args.operands.matrix.size c.args.operands.width c.args.operands.valid).width _ c.requires

pub two_rows-sums-requires : goal.two_rows-sums-requires
two_rows-sums-requires g c = let k = ready c.args.operands.matrix.size c.args.operands.width c.args.operands.valid in
    let a = apart k.width c.args.operands.matrix.nrows _ c.loop-row.row _ c.div_ceil-half.ensures c.loop-row-test.true c.min-other.ensures in
    (omega arith, (omega (arith, at_most_six k.width), (a.first, a.second)))

pub write_rows-requires : goal.write_rows-requires
write_rows-requires g c = let k = ready c.args.operands.matrix.size c.args.operands.width c.args.operands.valid in
    let a = apart k.width c.args.operands.matrix.nrows _ c.loop-row.row _ c.div_ceil-half.ensures c.loop-row-test.true c.min-other.ensures in
    (omega (arith, at_most_six k.width), (room _ _ k.width _ _ c.loop-row.invariant _ a.first, omega (arith, a.first, k.rows_in)))

pub write_rows-requires-in-loop-row : goal.write_rows-requires-in-loop-row
write_rows-requires-in-loop-row g c = let k = ready c.args.operands.matrix.size c.args.operands.width c.args.operands.valid in
    let a = apart k.width c.args.operands.matrix.nrows _ c.loop-row.row _ c.div_ceil-half.ensures c.loop-row-test.true c.min-other.ensures in
    let s = rw (← c.args.operands.width) at c.two_rows-sums.ensures in
    let one = wrote_rows _ _ _ _ _ _ (room _ _ k.width _ _ c.loop-row.invariant _ a.first) s.0 c.write_rows.ensures in
    (omega (arith, at_most_six k.width), (room_still _ _ k.width _ _ c.loop-row.invariant _ _ _ one _ a.second, omega (arith, a.second, k.rows_in)))

pub loop-row-preserved : goal.loop-row-preserved
loop-row-preserved g c = let k = ready c.args.operands.matrix.size c.args.operands.width c.args.operands.valid in
    let a = apart k.width c.args.operands.matrix.nrows _ c.loop-row.row _ c.div_ceil-half.ensures c.loop-row-test.true c.min-other.ensures in
    let s = rw (← c.args.operands.width) at c.two_rows-sums.ensures in
    let one = wrote_rows _ _ _ _ _ _ (room _ _ k.width _ _ c.loop-row.invariant _ a.first) s.0 c.write_rows.ensures in
    let two = wrote_rows _ _ _ _ _ _ (room_still _ _ k.width _ _ c.loop-row.invariant _ _ _ one _ a.second) s.1 c.write_rows-in-loop-row.ensures in
    written_more _ _ k.width _ _ c.loop-row.invariant _ _ _ a one two

pub returns : goal.returns
returns g c = rw (← c.args.operands.width) (written_front _ _ (ready c.args.operands.matrix.size c.args.operands.width c.args.operands.valid).width _ _ c.loop-row.invariant _ c.div_ceil-half.ensures c.loop-row-test.false)
