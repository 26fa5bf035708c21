-- `abtm_check::all_plus_zero` meets its contract. Assumes nothing.
use Rattle.std.proofs.Common.{arith}
use Rattle.hybit_core.proofs.BoolLaws.{flag_on, flag_off}
use Rattle.word.proofs.WalkLaws.{lowest_small}
use Rattle.abtm_check.proofs.DenseLaws.{walked_more, walked_fails, walked_done}
use mathlib.Core.Path.{ap}
use mathlib.Core.Bool.{not}
use Rattle.abtm_check.proofs.all_plus_zero.Goals as goal

pub offset_bounds-values-lowest : goal.offset_bounds-values-lowest
offset_bounds-values-lowest c = omega (arith, lowest_small _ c.loop-rest.invariant.fits c.loop-rest-test.true _ c.lowest.ensures)

pub bounds-values-lowest : goal.bounds-values-lowest
bounds-values-lowest c = omega (arith, lowest_small _ c.loop-rest.invariant.fits c.loop-rest-test.true _ c.lowest.ensures)

pub returns-then-not-is_plus_zero : goal.returns-then-not-is_plus_zero
returns-then-not-is_plus_zero c = walked_fails _ _ _ c.loop-rest.invariant c.loop-rest-test.true _ c.lowest.ensures (flag_off _ _ c.is_plus_zero.ensures (ap not c.if-not-is_plus_zero.true))

pub loop-rest-preserved : goal.loop-rest-preserved
loop-rest-preserved c = walked_more _ _ _ c.loop-rest.invariant c.loop-rest-test.true _ c.lowest.ensures (flag_on _ _ c.is_plus_zero.ensures (ap not c.if-not-is_plus_zero.false)) _ c.without_lowest-rest.ensures c.without_lowest-rest.type_inv

pub returns : goal.returns
returns c = walked_done _ _ _ c.loop-rest.invariant c.loop-rest-test.false
