use lib.ListN.{length}
use Rattle.word.specs.Bits.{members}
use Rattle.metadata_first_dot.proofs.SumLaws.{Adding}
use Rattle.metadata_first_dot.proofs.sum_word.Given as goal

abbrev pub invariant-loop-rest : goal.invariant-loop-rest
invariant-loop-rest l = Adding l.values l.x l.mask l.place l.base l.bits l.start l.rest l.sum

abbrev pub decreases-loop-rest : goal.decreases-loop-rest
decreases-loop-rest l = length (members l.rest)
