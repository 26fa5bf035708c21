-- `abtm_build::write_present` meets its contract. Assumes nothing.
use mathlib.Core.Path.{refl}
use native.Mathlib.Omega.{arith}
use Rattle.word.proofs.WalkLaws.{walking_start, walking_more, walking_room, walk_less, lowest_small}
use Rattle.abtm_build.proofs.WordLaws.{walked}
use borrow.Author.Rules.{rules}
use Rattle.abtm_build.proofs.write_present.Goals as goal

pub loop-rest-init : goal.loop-rest-init
loop-rest-init c = walking_start _ _ _ _ c.ranges.mask.fits

pub offset_bounds-sums-lowest : goal.offset_bounds-sums-lowest
offset_bounds-sums-lowest c = let h = lowest_small _ c.loop-rest.invariant.fits c.loop-rest-test.true _ c.lowest.ensures in
    search rules

pub bounds-sums-lowest : goal.bounds-sums-lowest
bounds-sums-lowest c = omega (arith, lowest_small _ c.loop-rest.invariant.fits c.loop-rest-test.true _ c.lowest.ensures)

pub bounds-values-at : goal.bounds-values-at
bounds-values-at c = walking_room _ _ _ _ _ _ _ c.loop-rest.invariant c.loop-rest-test.true c.requires

pub loop-rest-smaller : goal.loop-rest-smaller
loop-rest-smaller c = walk_less _ c.loop-rest.invariant.fits c.loop-rest-test.true _ c.without_lowest-rest.ensures

pub loop-rest-preserved : goal.loop-rest-preserved
loop-rest-preserved c = walking_more _ _ _ _ _ _ _ c.loop-rest.invariant _ _ _ c.loop-rest-test.true c.requires c.lowest.ensures c.without_lowest-rest.ensures refl c.without_lowest-rest.type_inv

pub shape_of-values : goal.shape_of-values
shape_of-values c = c.loop-rest.invariant.same

pub returns : goal.returns
returns c = walked _ _ _ _ _ _ _ c.loop-rest.invariant c.loop-rest-test.false
