use Rattle.mask_sets.proofs.PairLaws.{Apart}
use Rattle.mask_sets.proofs.words_meet.Given as goal

abbrev pub invariant-loop-k : goal.invariant-loop-k
invariant-loop-k l = Apart l.words l.other l.k
