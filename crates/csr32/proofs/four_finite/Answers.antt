-- `csr32::four_finite` meets its contract. Assumes nothing.
use mathlib.Core.Bool.{Bool, ◌&&◌}
use mathlib.Core.Path.{refl, ap₂}
use native.Mathlib.Omega.{arith}
use lib.Ieee.{nan}
use Rattle.csr32.proofs.ScanLaws.{passed_none, passed_more, passed_done}
use Rattle.csr32.proofs.four_finite.Goals as goal

pub loop-i-init : goal.loop-i-init
loop-i-init c = let pre = c.requires in
    record { second_long = pre.0; third_long = pre.1; fourth_long = pre.2; first = passed_none _ _; second = passed_none _ _; third = passed_none _ _; fourth = passed_none _ _ }

pub bounds-second-i : goal.bounds-second-i
bounds-second-i c = omega (arith, c.loop-i.invariant.second_long)

pub bounds-third-i : goal.bounds-third-i
bounds-third-i c = omega (arith, c.loop-i.invariant.third_long)

pub bounds-fourth-i : goal.bounds-fourth-i
bounds-fourth-i c = omega (arith, c.loop-i.invariant.fourth_long)

pub loop-i-preserved : goal.loop-i-preserved
loop-i-preserved c = let inv = c.loop-i.invariant in
    record {
      second_long = inv.second_long;
      third_long = inv.third_long;
      fourth_long = inv.fourth_long;
      first = passed_more _ _ _ _ inv.first nan _ _ (omega arith) c.is_finite-a.ensures refl;
      second = passed_more _ _ _ _ inv.second nan _ _ (omega (arith, inv.second_long)) c.is_finite-b.ensures refl;
      third = passed_more _ _ _ _ inv.third nan _ _ (omega (arith, inv.third_long)) c.is_finite-c.ensures refl;
      fourth = passed_more _ _ _ _ inv.fourth nan _ _ (omega (arith, inv.fourth_long)) c.is_finite-d.ensures refl;
    }

pub returns : goal.returns
returns c = let inv = c.loop-i.invariant in
    ap₂ (λ (s t : Bool). s && t) (ap₂ (λ (s t : Bool). s && t) (ap₂ (λ (s t : Bool). s && t) (passed_done _ _ _ _ inv.first (omega arith)) (passed_done _ _ _ _ inv.second (omega (arith, inv.second_long))))
    (passed_done _ _ _ _ inv.third (omega (arith, inv.third_long)))) (passed_done _ _ _ _ inv.fourth (omega (arith, inv.fourth_long)))
