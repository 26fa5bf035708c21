use Rattle.restricted_abtm.proofs.KeptLaws.{Tested}
use Rattle.restricted_abtm.proofs.active_finite.Given as goal

abbrev pub invariant-loop-k : goal.invariant-loop-k
invariant-loop-k l = Tested l.listed.tiles.masks.now l.listed.tiles.value_offsets.now l.listed.tiles.metas.now l.listed.values.now l.listed.mask.now l.k
