use Rattle.std.proofs.Common.{◌≤◌}
use Rattle.topology.proofs.LastLaws.{climbs_on}
use Rattle.topology.proofs.numbers_climb.Given as goal

abbrev pub invariant-loop-i : goal.invariant-loop-i
invariant-loop-i l = (1 ≤ l.i) × climbs_on l.words l.holds l.i
