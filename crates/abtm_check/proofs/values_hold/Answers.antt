-- `abtm_check::values_hold` meets its contract. Assumes nothing.
use mathlib.Core.Path.{ap}
use Rattle.std.proofs.Common.{arith, rules}
use Rattle.hybit_core.proofs.BoolLaws.{flag_on, flag_off}
use Rattle.lent.proofs.ListLaws.{length-only}
use Rattle.abtm_values.specs.Values.{solid}
use Rattle.abtm_check.proofs.RunLaws.{tested_full, dense_inside, dense_fails, tested_dense, tested_done, solids_rest}
use mathlib.Core.Bool.{not}
use Rattle.abtm_check.proofs.values_hold.Goals as goal

pub count_ahead-done-requires : goal.count_ahead-done-requires
count_ahead-done-requires c = record { inside = (c.loop-i.invariant.2, dense_inside _ _ _ _ _ c.loop-i.invariant.0 (search rules) _ (rw (c.tile-tile.ensures.mask, c.tile-tile.ensures.meta) at c.absent_in-absent.ensures) c.if-absent-eq0.false _ c.tile-tile.ensures.offset); counted = c.loop-i.invariant.3 }

pub slice_bounds-all_plus_zero-end : goal.slice_bounds-all_plus_zero-end
slice_bounds-all_plus_zero-end c = dense_inside _ _ _ _ _ c.loop-i.invariant.0 (search rules) _ (rw (c.tile-tile.ensures.mask, c.tile-tile.ensures.meta) at c.absent_in-absent.ensures) c.if-absent-eq0.false _ c.tile-tile.ensures.offset

pub returns-then-not-all_plus_zero : goal.returns-then-not-all_plus_zero
returns-then-not-all_plus_zero c = dense_fails _ _ _ _ _ c.loop-i.invariant.0 (search rules) _ (rw (c.tile-tile.ensures.mask, c.tile-tile.ensures.meta) at c.absent_in-absent.ensures) c.if-absent-eq0.false _ c.tile-tile.ensures.offset (flag_off _ _ c.all_plus_zero.ensures (ap not c.if-not-all_plus_zero.true))

pub loop-i-preserved : goal.loop-i-preserved
loop-i-preserved c = (tested_dense _ _ _ _ _ c.loop-i.invariant.0 (search rules) _ (rw (c.tile-tile.ensures.mask, c.tile-tile.ensures.meta) at c.absent_in-absent.ensures) c.if-absent-eq0.false _ c.tile-tile.ensures.offset (flag_on _ _ c.all_plus_zero.ensures (ap not c.if-not-all_plus_zero.false)), c.loop-i.invariant.1, c.count_ahead-done.ensures.0, c.count_ahead-done.ensures.1)

pub loop-i-preserved-then-absent-eq0 : goal.loop-i-preserved-then-absent-eq0
loop-i-preserved-then-absent-eq0 c = (tested_full _ _ _ _ _ c.loop-i.invariant.0 (search rules) _ (rw (c.tile-tile.ensures.mask, c.tile-tile.ensures.meta) at c.absent_in-absent.ensures) c.if-absent-eq0.true, c.loop-i.invariant.1, c.loop-i.invariant.2, c.loop-i.invariant.3)

pub overflow_add-result : goal.overflow_add-result
overflow_add-result c = omega (arith, length-only solid c.args.tiles.matrix.values.now, solids_rest c.args.tiles.matrix.values.now c.loop-i.done.upto c.loop-i.done.solid _ c.loop-i.invariant.3 c.count_solid.ensures)

pub returns : goal.returns
returns c = tested_done _ _ _ _ _ c.loop-i.invariant.0 (search rules) _ _ (solids_rest c.args.tiles.matrix.values.now c.loop-i.done.upto c.loop-i.done.solid _ c.loop-i.invariant.3 c.count_solid.ensures) c.loop-i.invariant.1
