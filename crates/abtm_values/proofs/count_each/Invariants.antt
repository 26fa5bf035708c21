use Rattle.abtm_values.specs.Values.{solid}
use Rattle.word.proofs.PassLaws.{Passing}
use Rattle.abtm_values.proofs.count_each.Given as goal

abbrev pub invariant-loop-value : goal.invariant-loop-value
invariant-loop-value l = Passing solid l.values l.value-index l.solid
