use Rattle.abtm_expand.proofs.JoinLaws.{Joined}
use Rattle.abtm_expand.proofs.join_tiles.Given as goal

abbrev pub invariant-loop-place : goal.invariant-loop-place
invariant-loop-place l = Joined l.masks l.metas l.initial.words l.place l.words
