-- `mask::put_members` meets its contract. Assumes nothing.
use native.Mathlib.Omega.{arith}
use mathlib.Core.Path.{refl}
use Rattle.word.proofs.WalkLaws.{walking_start, walking_more, walking_room, walking_done, walk_less, lowest_small}
use Rattle.mask.proofs.put_members.Goals as goal

pub loop-bits-init : goal.loop-bits-init
loop-bits-init c = walking_start _ _ _ _ c.ranges.word.fits

pub overflow_add-out : goal.overflow_add-out
overflow_add-out c = omega (arith, lowest_small _ c.loop-bits.invariant.fits c.loop-bits-test.true _ c.lowest.ensures)

pub bounds-out-at : goal.bounds-out-at
bounds-out-at c = walking_room _ _ _ _ _ _ _ c.loop-bits.invariant c.loop-bits-test.true c.requires.1

pub loop-bits-smaller : goal.loop-bits-smaller
loop-bits-smaller c = walk_less _ c.loop-bits.invariant.fits c.loop-bits-test.true _ c.without_lowest-bits.ensures

pub loop-bits-preserved : goal.loop-bits-preserved
loop-bits-preserved c = let some = c.loop-bits-test.true in
    let room = c.requires.1 in
    walking_more _ _ _ _ _ _ _ c.loop-bits.invariant _ _ _ some room c.lowest.ensures c.without_lowest-bits.ensures refl c.without_lowest-bits.type_inv

pub returns : goal.returns
returns c = walking_done _ _ _ _ _ _ _ c.loop-bits.invariant c.loop-bits-test.false
