-- `restricted_abtm::keep_tile` meets its contract. Assumes nothing.
use native.Mathlib.Omega.{arith}
use Rattle.word.proofs.WalkLaws.{walk_less}
use Rattle.restricted_abtm.proofs.BitsLaws.{keeping_few, keeping_low, keeping_place, keeping_more, keeping_past, kept_next, kept_columns, kept_values}
use Rattle.restricted_abtm.proofs.keep_tile.Goals as goal

pub overflow_add-next : goal.overflow_add-next
overflow_add-next c = omega (arith, c.requires.few, keeping_few _ _ _ _ _ _ _ _ _ _ _ _ _ c.loop-rest.invariant)

pub overflow_add-place : goal.overflow_add-place
overflow_add-place c = omega (arith, keeping_place _ _ _ _ _ _ _ _ _ _ _ _ _ c.loop-rest.invariant c.loop-rest-test.true _ c.lowest-bit.ensures _ c.place_in.ensures)

pub overflow_add-base : goal.overflow_add-base
overflow_add-base c = omega (arith, c.base_col-base.ensures, c.requires.base, keeping_low _ _ _ _ _ _ _ _ _ _ _ _ _ c.loop-rest.invariant c.loop-rest-test.true _ c.lowest-bit.ensures)

pub offset_bounds-values-place : goal.offset_bounds-values-place
offset_bounds-values-place c = omega (arith, keeping_place _ _ _ _ _ _ _ _ _ _ _ _ _ c.loop-rest.invariant c.loop-rest-test.true _ c.lowest-bit.ensures _ c.place_in.ensures)

pub bounds-values-place : goal.bounds-values-place
bounds-values-place c = keeping_place _ _ _ _ _ _ _ _ _ _ _ _ _ c.loop-rest.invariant c.loop-rest-test.true _ c.lowest-bit.ensures _ c.place_in.ensures

pub loop-rest-smaller-then-at-room : goal.loop-rest-smaller-then-at-room
loop-rest-smaller-then-at-room c = walk_less _ c.loop-rest.invariant.fits c.loop-rest-test.true _ c.without_lowest-rest.ensures

pub loop-rest-preserved-then-at-room : goal.loop-rest-preserved-then-at-room
loop-rest-preserved-then-at-room c = keeping_more _ _ _ _ _ _ _ _ _ _ _ _ _ c.loop-rest.invariant c.loop-rest-test.true _ c.lowest-bit.ensures _ c.without_lowest-rest.ensures c.without_lowest-rest.type_inv _ _ _ c.if-at-room.true c.requires.room.0 c.requires.room.1
    c.base_col-base.ensures c.requires.base c.narrow.ensures c.place_in.ensures

pub loop-rest-smaller : goal.loop-rest-smaller
loop-rest-smaller c = walk_less _ c.loop-rest.invariant.fits c.loop-rest-test.true _ c.without_lowest-rest.ensures

pub loop-rest-preserved : goal.loop-rest-preserved
loop-rest-preserved c = keeping_past _ _ _ _ _ _ _ _ _ _ _ _ _ c.loop-rest.invariant c.loop-rest-test.true _ c.lowest-bit.ensures _ c.without_lowest-rest.ensures c.without_lowest-rest.type_inv (omega arith)

pub returns : goal.returns
returns c = let inv = c.loop-rest.invariant in
    record { next = kept_next _ _ _ _ _ _ _ _ _ _ _ _ _ inv c.loop-rest-test.false; columns = kept_columns _ _ _ _ _ _ _ _ _ _ _ _ _ inv c.loop-rest-test.false; values = kept_values _ _ _ _ _ _ _ _ _ _ _ _ _ inv c.loop-rest-test.false }
