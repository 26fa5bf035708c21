-- `abtm_values::count_four` meets its contract. Assumes nothing.
use native.Mathlib.Omega.{arith}
use lib.Ieee.{nan}
use Rattle.word.proofs.PassLaws.{passing_none, passing_more, passing_done}
use Rattle.abtm_values.proofs.count_four.Goals as goal

pub loop-i-init : goal.loop-i-init
loop-i-init c = record { second_long = c.requires.0; third_long = c.requires.1; fourth_long = c.requires.2; inside = omega arith; first = passing_none _ _; second = passing_none _ _; third = passing_none _ _; fourth = passing_none _ _ }

pub overflow_add-a : goal.overflow_add-a
overflow_add-a c = omega (arith, c.loop-i.invariant.inside, (passing_more _ _ _ _ c.loop-i.invariant.first nan _ (omega arith) c.one_if_solid-a.ensures).few)

pub bounds-second-i : goal.bounds-second-i
bounds-second-i c = omega (arith, c.loop-i.invariant.second_long)

pub overflow_add-b : goal.overflow_add-b
overflow_add-b c = omega (arith, c.loop-i.invariant.inside, (passing_more _ _ _ _ c.loop-i.invariant.second nan _ (omega (arith, c.loop-i.invariant.second_long)) c.one_if_solid-b.ensures).few)

pub bounds-third-i : goal.bounds-third-i
bounds-third-i c = omega (arith, c.loop-i.invariant.third_long)

pub overflow_add-c : goal.overflow_add-c
overflow_add-c c = omega (arith, c.loop-i.invariant.inside, (passing_more _ _ _ _ c.loop-i.invariant.third nan _ (omega (arith, c.loop-i.invariant.third_long)) c.one_if_solid-c.ensures).few)

pub bounds-fourth-i : goal.bounds-fourth-i
bounds-fourth-i c = omega (arith, c.loop-i.invariant.fourth_long)

pub overflow_add-d : goal.overflow_add-d
overflow_add-d c = omega (arith, c.loop-i.invariant.inside, (passing_more _ _ _ _ c.loop-i.invariant.fourth nan _ (omega (arith, c.loop-i.invariant.fourth_long)) c.one_if_solid-d.ensures).few)

pub loop-i-preserved : goal.loop-i-preserved
loop-i-preserved c = record {
  second_long = c.loop-i.invariant.second_long;
  third_long = c.loop-i.invariant.third_long;
  fourth_long = c.loop-i.invariant.fourth_long;
  inside = omega arith;
  first = passing_more _ _ _ _ c.loop-i.invariant.first nan _ (omega arith) c.one_if_solid-a.ensures;
  second = passing_more _ _ _ _ c.loop-i.invariant.second nan _ (omega (arith, c.loop-i.invariant.second_long)) c.one_if_solid-b.ensures;
  third = passing_more _ _ _ _ c.loop-i.invariant.third nan _ (omega (arith, c.loop-i.invariant.third_long)) c.one_if_solid-c.ensures;
  fourth = passing_more _ _ _ _ c.loop-i.invariant.fourth nan _ (omega (arith, c.loop-i.invariant.fourth_long)) c.one_if_solid-d.ensures;
}

pub overflow_add-result : goal.overflow_add-result
overflow_add-result c = omega (arith, c.loop-i.invariant.inside, c.loop-i.invariant.first.few, c.loop-i.invariant.second.few)

pub overflow_add-result-2 : goal.overflow_add-result-2
overflow_add-result-2 c = omega (arith, c.loop-i.invariant.inside, c.loop-i.invariant.first.few, c.loop-i.invariant.second.few, c.loop-i.invariant.third.few)

pub overflow_add-result-3 : goal.overflow_add-result-3
overflow_add-result-3 c = omega (arith, c.loop-i.invariant.inside, c.loop-i.invariant.first.few, c.loop-i.invariant.second.few, c.loop-i.invariant.third.few, c.loop-i.invariant.fourth.few)

pub returns : goal.returns
returns c = omega (
  arith,
  passing_done _ _ _ _ c.loop-i.invariant.first (omega arith),
  passing_done _ _ _ _ c.loop-i.invariant.second (omega (arith, c.loop-i.invariant.second_long)),
  passing_done _ _ _ _ c.loop-i.invariant.third (omega (arith, c.loop-i.invariant.third_long)),
  passing_done _ _ _ _ c.loop-i.invariant.fourth (omega (arith, c.loop-i.invariant.fourth_long)),
)
