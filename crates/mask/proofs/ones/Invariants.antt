use Rattle.mask.proofs.CallLaws.{Counted}
use Rattle.mask.proofs.ones.Given as goal

abbrev pub invariant-loop-bits : goal.invariant-loop-bits
invariant-loop-bits l = Counted l.words l.bits-index l.n
