-- `abtm_values::count_each` meets its contract. Assumes nothing.
use native.Mathlib.Omega.{arith}
use lib.Ieee.{nan}
use Rattle.word.proofs.PassLaws.{passing_none, passing_more, passing_done}
use borrow.Author.Rules.{rules}
use Rattle.abtm_values.proofs.count_each.Goals as goal

pub loop-value-init : goal.loop-value-init
loop-value-init c = passing_none _ _

pub overflow_add-solid : goal.overflow_add-solid
overflow_add-solid c = omega (arith, (passing_more _ _ _ _ c.loop-value.invariant nan _ (search rules) c.one_if_solid-solid.ensures).few)

pub loop-value-preserved : goal.loop-value-preserved
loop-value-preserved c = passing_more _ _ _ _ c.loop-value.invariant nan _ (search rules) c.one_if_solid-solid.ensures

pub returns : goal.returns
returns c = passing_done _ _ _ _ c.loop-value.invariant (search rules)
