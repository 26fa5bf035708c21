-- `restricted_abtm::tile_finite` meets its contract. Assumes nothing.
use native.Mathlib.Omega.{arith}
use Rattle.hybit_core.proofs.BoolLaws.{flag_on, flag_off}
use Rattle.word.proofs.WalkLaws.{walk_less}
use Rattle.restricted_abtm.proofs.BitsLaws.{testing_place, testing_fails, testing_more, testing_done}
use mathlib.Core.Path.{ap}
use mathlib.Core.Bool.{not}
use Rattle.restricted_abtm.proofs.tile_finite.Goals as goal

pub overflow_add-place : goal.overflow_add-place
overflow_add-place c = omega (arith, testing_place _ _ _ _ _ _ c.loop-rest.invariant c.loop-rest-test.true _ c.lowest.ensures _ c.place_in.ensures)

pub offset_bounds-values-place : goal.offset_bounds-values-place
offset_bounds-values-place c = omega (arith, testing_place _ _ _ _ _ _ c.loop-rest.invariant c.loop-rest-test.true _ c.lowest.ensures _ c.place_in.ensures)

pub bounds-values-place : goal.bounds-values-place
bounds-values-place c = testing_place _ _ _ _ _ _ c.loop-rest.invariant c.loop-rest-test.true _ c.lowest.ensures _ c.place_in.ensures

pub returns-then-not-is_finite : goal.returns-then-not-is_finite
returns-then-not-is_finite c = testing_fails _ _ _ _ _ _ c.loop-rest.invariant c.loop-rest-test.true _ c.lowest.ensures _ c.place_in.ensures (flag_off _ _ c.is_finite.ensures (ap not c.if-not-is_finite.true))

pub loop-rest-smaller : goal.loop-rest-smaller
loop-rest-smaller c = walk_less _ c.loop-rest.invariant.fits c.loop-rest-test.true _ c.without_lowest-rest.ensures

pub loop-rest-preserved : goal.loop-rest-preserved
loop-rest-preserved c = testing_more _ _ _ _ _ _ c.loop-rest.invariant c.loop-rest-test.true _ c.lowest.ensures _ c.place_in.ensures _ (flag_on _ _ c.is_finite.ensures (ap not c.if-not-is_finite.false)) c.without_lowest-rest.ensures c.without_lowest-rest.type_inv

pub returns : goal.returns
returns c = testing_done _ _ _ _ _ _ c.loop-rest.invariant c.loop-rest-test.false
