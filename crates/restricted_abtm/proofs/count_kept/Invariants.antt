use Rattle.restricted_abtm.proofs.KeptLaws.{Counted}
use Rattle.restricted_abtm.proofs.count_kept.Given as goal

abbrev pub invariant-loop-k : goal.invariant-loop-k
invariant-loop-k l = Counted l.listed.tiles.masks.now l.listed.tiles.metas.now l.listed.mask.now l.k l.kept
