use Rattle.abtm_check.proofs.CompactLaws.{compact_kind, Scanning}
use Rattle.abtm_check.proofs.compact_follow.Given as goal

abbrev pub invariant-loop-i : goal.invariant-loop-i
invariant-loop-i l = Scanning compact_kind l.tiles.matrix.masks.now l.value_offsets l.tiles.matrix.metas.now l.end l.holds l.i
