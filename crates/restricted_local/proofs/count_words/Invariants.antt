use Rattle.restricted_local.proofs.RegionLaws.{Tallying}
use Rattle.restricted_local.proofs.count_words.Given as goal

abbrev pub invariant-loop-place : goal.invariant-loop-place
invariant-loop-place l = Tallying l.words l.initial.counts l.place l.ones l.counts
