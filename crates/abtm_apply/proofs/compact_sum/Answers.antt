-- `abtm_apply::compact_sum` meets its contract. Assumes nothing.
use native.Mathlib.Omega.{arith}
use Rattle.word.proofs.WalkLaws.{walk_less}
use Rattle.abtm_apply.proofs.SumLaws.{compact_value, compact_column, compact_more, compact_done}
use Rattle.abtm_apply.proofs.compact_sum.Goals as goal

pub bounds-values-p : goal.bounds-values-p
bounds-values-p c = compact_value _ _ _ _ _ _ _ c.loop-rest.invariant c.loop-rest-test.true

pub overflow_add-sum : goal.overflow_add-sum
overflow_add-sum c = omega (arith, compact_column _ _ _ _ _ _ _ c.loop-rest.invariant c.loop-rest-test.true _ c.lowest-bit.ensures)

pub offset_bounds-x-base : goal.offset_bounds-x-base
offset_bounds-x-base c = omega (arith, compact_column _ _ _ _ _ _ _ c.loop-rest.invariant c.loop-rest-test.true _ c.lowest-bit.ensures)

pub bounds-x-base : goal.bounds-x-base
bounds-x-base c = compact_column _ _ _ _ _ _ _ c.loop-rest.invariant c.loop-rest-test.true _ c.lowest-bit.ensures

pub loop-rest-smaller : goal.loop-rest-smaller
loop-rest-smaller c = walk_less _ c.loop-rest.invariant.fits c.loop-rest-test.true _ c.without_lowest-rest.ensures

pub loop-rest-preserved : goal.loop-rest-preserved
loop-rest-preserved c = compact_more _ _ _ _ _ _ _ c.loop-rest.invariant c.loop-rest-test.true _ c.lowest-bit.ensures _ c.without_lowest-rest.ensures c.without_lowest-rest.type_inv

pub returns : goal.returns
returns c = compact_done _ _ _ _ _ _ _ c.loop-rest.invariant c.loop-rest-test.false
