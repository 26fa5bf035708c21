use Rattle.abtm_values.specs.Values.{solid}
use Rattle.word.proofs.PassLaws.{FourPassing}
use Rattle.abtm_values.proofs.count_four.Given as goal

abbrev pub invariant-loop-i : goal.invariant-loop-i
invariant-loop-i l = FourPassing solid l.first l.second l.third l.fourth l.i l.a l.b l.c l.d
