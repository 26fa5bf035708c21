use Rattle.std.proofs.Common.{length, get_or}
use lib.Ieee.{nan}
use Rattle.word.specs.Bits.{members}
use Rattle.abtm_values.specs.Values.{plus_zero}
use Rattle.abtm_check.proofs.DenseLaws.{Walked}
use Rattle.abtm_check.proofs.all_plus_zero.Given as goal

abbrev pub invariant-loop-rest : goal.invariant-loop-rest
invariant-loop-rest l = Walked (λ k. plus_zero (get_or l.values k nan)) l.places l.rest

abbrev pub decreases-loop-rest : goal.decreases-loop-rest
decreases-loop-rest l = length (members l.rest)
