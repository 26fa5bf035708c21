use Prim.Native.Nat.{ℕ, ◌+◌}
use lib.ListN.{length}
use Rattle.word.specs.Bits.{members}
use Rattle.word.proofs.WalkLaws.{Walking}
use Rattle.mask.proofs.put_members.Given as goal

abbrev pub invariant-loop-bits : goal.invariant-loop-bits
invariant-loop-bits l = Walking (λ (i : ℕ). l.base + i) l.word l.from l.initial.out l.bits l.at l.out

abbrev pub decreases-loop-bits : goal.decreases-loop-bits
decreases-loop-bits l = length (members l.bits)
