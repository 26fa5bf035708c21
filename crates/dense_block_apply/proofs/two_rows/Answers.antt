-- `dense_block_apply::two_rows` meets its contract. Assumes nothing.
use mathlib.Core.Path.{refl, sym}
use native.Mathlib.Omega.{arith}
use Rattle.std.proofs.Common.{rules}
use Rattle.lent.proofs.ListLaws.{each_same}
use Rattle.dense_block_apply.proofs.BlockLaws.{ready, smaller_left, smaller_right, at_most_six, full_row}
use Rattle.dense_block_apply.proofs.RowLaws.{beside_none, beside_block, beside_more, beside_all, beside_row}
use Rattle.dense_block_apply.proofs.two_rows.Goals as goal

pub offset_bounds-matrix-row : goal.offset_bounds-matrix-row
offset_bounds-matrix-row g c = let r = full_row (ready c.args.operands.matrix.size c.args.operands.width c.args.operands.valid) c.args.row c.requires.0 in omega (arith, r.here)

pub bounds-matrix-row : goal.bounds-matrix-row
bounds-matrix-row g c = (full_row (ready c.args.operands.matrix.size c.args.operands.width c.args.operands.valid) c.args.row c.requires.0).here

pub offset_bounds-matrix-other : goal.offset_bounds-matrix-other
offset_bounds-matrix-other g c = let r = full_row (ready c.args.operands.matrix.size c.args.operands.width c.args.operands.valid) c.args.other c.requires.1 in omega (arith, r.here)

pub bounds-matrix-other : goal.bounds-matrix-other
bounds-matrix-other g c = (full_row (ready c.args.operands.matrix.size c.args.operands.width c.args.operands.valid) c.args.other c.requires.1).here

pub loop-i-init : goal.loop-i-init
loop-i-init g c = let k = ready c.args.operands.matrix.size c.args.operands.width c.args.operands.valid in (
  beside_none _ _ _ _ _ _ _ k c.requires.0 refl c.full_count.ensures (smaller_left _ _ _ c.min-n.ensures) (sym (each_same _ _)),
  beside_none _ _ _ _ _ _ _ k c.requires.1 refl c.full_count-2.ensures (smaller_right _ _ _ c.min-n.ensures) (sym (each_same _ _)),
)

pub add_full-one-requires : goal.add_full-one-requires
add_full-one-requires g c = let w = (ready c.args.operands.matrix.size c.args.operands.width c.args.operands.valid).width in (omega (arith, at_most_six w), (w, beside_block _ _ _ _ _ _ _ c.loop-i.invariant.0 c.loop-i-test.true))

pub add_full-two-requires : goal.add_full-two-requires
add_full-two-requires g c = let w = (ready c.args.operands.matrix.size c.args.operands.width c.args.operands.valid).width in (omega (arith, at_most_six w), (w, beside_block _ _ _ _ _ _ _ c.loop-i.invariant.1 c.loop-i-test.true))

pub loop-i-preserved : goal.loop-i-preserved
loop-i-preserved g c = let t = c.loop-i-test.true in (
  beside_more _ _ _ _ _ _ _ c.loop-i.invariant.0 _ _ t refl c.add_full-one.ensures,
  beside_more _ _ _ _ _ _ _ c.loop-i.invariant.1 _ _ t refl c.add_full-two.ensures,
)

pub returns : goal.returns
returns g c = rw (← c.args.operands.width) (
  beside_row _ _ _ _ _ _ _ (beside_all _ _ _ _ _ _ _ c.loop-i.invariant.0 (search rules) (search rules)) _ (rw (← c.args.operands.width) at c.add_blocks-first.ensures),
  beside_row _ _ _ _ _ _ _ (beside_all _ _ _ _ _ _ _ c.loop-i.invariant.1 (search rules) (search rules)) _ (rw (← c.args.operands.width) at c.add_blocks-second.ensures),
)
