-- `topology::numbers_climb` meets its contract. Assumes nothing.
use Rattle.std.proofs.Common.{refl, rules}
use Rattle.topology.proofs.LastLaws.{climb-none, climb_more, climb_done}
use Rattle.topology.proofs.numbers_climb.Goals as goal

pub loop-i-init : goal.loop-i-init
loop-i-init c = (search rules, climb-none _)

pub loop-i-preserved : goal.loop-i-preserved
loop-i-preserved c = (search rules, climb_more _ c.loop-i.holds c.loop-i.i c.loop-i.invariant.1 (search rules) _ refl)

pub returns : goal.returns
returns c = climb_done _ c.loop-i.holds c.loop-i.i c.loop-i.invariant.1 (search rules)
