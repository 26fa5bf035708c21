use lib.ListN.{length}
use Rattle.word.specs.Bits.{members}
use Rattle.abtm_apply.proofs.SumLaws.{Compact}
use Rattle.abtm_apply.proofs.compact_sum.Given as goal

abbrev pub invariant-loop-rest : goal.invariant-loop-rest
invariant-loop-rest l = Compact l.values l.x l.base l.mask l.rest l.p l.sum

abbrev pub decreases-loop-rest : goal.decreases-loop-rest
decreases-loop-rest l = length (members l.rest)
