use Rattle.mask.proofs.CallLaws.{Listing}
use Rattle.mask.proofs.put_all.Given as goal

abbrev pub invariant-loop-k : goal.invariant-loop-k
invariant-loop-k l = Listing l.words l.initial.out l.k l.at l.out
