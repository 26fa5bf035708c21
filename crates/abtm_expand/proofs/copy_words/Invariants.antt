use Rattle.abtm_expand.proofs.JoinLaws.{Copied}
use Rattle.abtm_expand.proofs.copy_words.Given as goal

abbrev pub invariant-loop-k : goal.invariant-loop-k
invariant-loop-k l = Copied l.from l.initial.out l.k l.out
