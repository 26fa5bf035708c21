use Rattle.abtm_apply.proofs.SumLaws.{Dense}
use Rattle.abtm_apply.proofs.add_dense.Given as goal

abbrev pub invariant-loop-j : goal.invariant-loop-j
invariant-loop-j l = Dense l.values l.x l.base l.start l.limit l.j l.sum
