use Rattle.hybit_core.specs.Floats.{finite}
use Rattle.csr32.proofs.ScanLaws.{FourPassed}
use Rattle.csr32.proofs.four_finite.Given as goal

abbrev pub invariant-loop-i : goal.invariant-loop-i
invariant-loop-i l = FourPassed finite l.first l.second l.third l.fourth l.i l.a l.b l.c l.d
