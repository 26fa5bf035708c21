use Prim.Native.Nat.{ℕ}
use lib.ListN.{length, get_or}
use lib.Ieee.{nan}
use Rattle.word.specs.Bits.{members}
use Rattle.word.proofs.WalkLaws.{Walking}
use Rattle.abtm_build.proofs.write_present.Given as goal

abbrev pub invariant-loop-rest : goal.invariant-loop-rest
invariant-loop-rest l = Walking (λ (i : ℕ). get_or l.sums.list.now i nan) l.mask l.from l.initial.values l.rest l.at l.values

abbrev pub decreases-loop-rest : goal.decreases-loop-rest
decreases-loop-rest l = length (members l.rest)
