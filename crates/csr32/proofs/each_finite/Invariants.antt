use Rattle.hybit_core.specs.Floats.{finite}
use Rattle.csr32.proofs.ScanLaws.{Passed}
use Rattle.csr32.proofs.each_finite.Given as goal

abbrev pub invariant-loop-each_value : goal.invariant-loop-each_value
invariant-loop-each_value l = Passed finite l.values l.each_value-index l.good
