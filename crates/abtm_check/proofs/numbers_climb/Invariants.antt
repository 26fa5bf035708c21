use Rattle.std.proofs.Common.{◌≤◌, map}
use Rattle.abtm.specs.Tiles.{word_in}
use Rattle.topology.proofs.LastLaws.{climbs_on}
use Rattle.abtm_check.proofs.numbers_climb.Given as goal

abbrev pub invariant-loop-i : goal.invariant-loop-i
invariant-loop-i l = (1 ≤ l.i) × climbs_on (map word_in l.metas) l.holds l.i
