-- `abtm_values::one_if_solid` meets its contract. Assumes nothing.
use mathlib.Core.Path.{sym, ap}
use mir.Val.{bool_byte}
use Rattle.abtm_values.proofs.ValueLaws.{low_solid, high_solid, not-solid}
use Rattle.abtm_values.proofs.one_if_solid.Goals as goal

pub returns-then-v : goal.returns-then-v
returns-then-v c = sym (ap bool_byte (low_solid _ c.if-v.true))

pub returns-then-v-2 : goal.returns-then-v-2
returns-then-v-2 c = sym (ap bool_byte (high_solid _ c.if-v-2.true))

pub returns : goal.returns
returns c = sym (ap bool_byte (not-solid _ c.if-v.false c.if-v-2.false))
