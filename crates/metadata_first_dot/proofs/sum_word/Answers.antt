-- `metadata_first_dot::sum_word` meets its contract. Assumes nothing.
use native.Mathlib.Omega.{arith}
use Rattle.word.proofs.WalkLaws.{walk_less}
use Rattle.metadata_first_dot.proofs.SumLaws.{adding_none, adding_value, adding_column, adding_more, adding_done}
use Rattle.metadata_first_dot.proofs.sum_word.Goals as goal

pub loop-rest-init : goal.loop-rest-init
loop-rest-init c = adding_none _ _ _ _ _ _ _ c.ranges.bits.fits c.requires.inside

pub overflow_add-ordinal : goal.overflow_add-ordinal
overflow_add-ordinal c = let h = adding_value _ _ _ _ _ _ _ _ _ c.loop-rest.invariant c.loop-rest-test.true _ c.lowest-bit.ensures _ c.ones_below.ensures in
    omega (arith, h)

pub offset_bounds-values-ordinal : goal.offset_bounds-values-ordinal
offset_bounds-values-ordinal c = let h = adding_value _ _ _ _ _ _ _ _ _ c.loop-rest.invariant c.loop-rest-test.true _ c.lowest-bit.ensures _ c.ones_below.ensures in
    omega (arith, h)

pub bounds-values-ordinal : goal.bounds-values-ordinal
bounds-values-ordinal c = adding_value _ _ _ _ _ _ _ _ _ c.loop-rest.invariant c.loop-rest-test.true _ c.lowest-bit.ensures _ c.ones_below.ensures

pub overflow_add-sum : goal.overflow_add-sum
overflow_add-sum c = let h = adding_column _ _ _ _ _ _ _ _ _ c.loop-rest.invariant c.loop-rest-test.true _ c.lowest-bit.ensures in
    omega (arith, h)

pub offset_bounds-x-base : goal.offset_bounds-x-base
offset_bounds-x-base c = let h = adding_column _ _ _ _ _ _ _ _ _ c.loop-rest.invariant c.loop-rest-test.true _ c.lowest-bit.ensures in
    omega (arith, h)

pub bounds-x-base : goal.bounds-x-base
bounds-x-base c = adding_column _ _ _ _ _ _ _ _ _ c.loop-rest.invariant c.loop-rest-test.true _ c.lowest-bit.ensures

pub loop-rest-smaller : goal.loop-rest-smaller
loop-rest-smaller c = walk_less _ c.loop-rest.invariant.fits c.loop-rest-test.true _ c.without_lowest-rest.ensures

pub loop-rest-preserved : goal.loop-rest-preserved
loop-rest-preserved c = adding_more _ _ _ _ _ _ _ _ _ c.loop-rest.invariant c.loop-rest-test.true _ c.lowest-bit.ensures _ c.without_lowest-rest.ensures _ c.ones_below.ensures c.without_lowest-rest.type_inv

pub returns : goal.returns
returns c = adding_done _ _ _ _ _ _ _ _ _ c.loop-rest.invariant c.loop-rest-test.false
