-- `metadata_first_merge::sums_hold` meets its contract. Assumes nothing.
use mathlib.Core.Path.{refl, ap}
use native.Mathlib.Omega.{arith}
use Rattle.csr32.proofs.WindowLaws.{placed, unplaced}
use Rattle.metadata_first_merge.proofs.WindowLaws.{sums_other, sums_more, sums_fails, sums_done}
use mathlib.Core.Bool.{not}
use Rattle.metadata_first_merge.proofs.sums_hold.Goals as goal

pub loop-col-preserved-in_default : goal.loop-col-preserved-in_default
loop-col-preserved-in_default c = sums_other _ _ _ c.loop-col.col-index c.loop-col.invariant _ (omega arith) refl (unplaced _ _ _ _ c.place_in_window.ensures c.in_default.is)

pub returns-then-not-is_finite : goal.returns-then-not-is_finite
returns-then-not-is_finite c = let p = placed _ _ _ _ c.place_in_window.ensures _ c.in-Some.is in
    sums_fails _ _ _ c.loop-col.col-index c.loop-col.invariant _ (omega arith) refl _ p.0 p.1 _ c.is_finite.ensures (ap not c.if-not-is_finite.true)

pub loop-col-preserved : goal.loop-col-preserved
loop-col-preserved c = let p = placed _ _ _ _ c.place_in_window.ensures _ c.in-Some.is in
    sums_more _ _ _ c.loop-col.col-index c.loop-col.invariant _ (omega arith) refl _ p.0 p.1 _ c.is_finite.ensures (ap not c.if-not-is_finite.false)

pub returns : goal.returns
returns c = sums_done _ _ _ c.loop-col.col-index c.loop-col.invariant (omega arith)
