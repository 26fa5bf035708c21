use Rattle.std.proofs.Common.{◌≡◌, ◌-◌, ◌%◌, ◌^◌, take}
use Rattle.topology.specs.Words.{set_bits}
use Rattle.abtm_check.proofs.RunLaws.{kind_holds}
use Rattle.abtm_check.proofs.CompactLaws.{Scanning}
use Rattle.abtm_check.proofs.mixed_follow.Given as goal

abbrev pub invariant-loop-i : goal.invariant-loop-i
invariant-loop-i l = Scanning kind_holds l.tiles.matrix.masks.now l.value_offsets l.tiles.matrix.metas.now l.end l.holds l.i × (l.bits ≡ set_bits (take (l.i - 1) l.tiles.matrix.masks.now) % 2 ^ 64)
