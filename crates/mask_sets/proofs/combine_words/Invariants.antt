use Rattle.mask_sets.proofs.PairLaws.{Combining}
use Rattle.mask_sets.proofs.combine_words.Given as goal

abbrev pub invariant-loop-k : goal.invariant-loop-k
invariant-loop-k l = Combining l.operation l.initial.words l.other l.k l.words
