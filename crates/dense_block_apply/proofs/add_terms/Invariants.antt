use Rattle.dense_block_apply.proofs.TermLaws.{Adding}
use Rattle.dense_block_apply.proofs.add_terms.Given as goal

abbrev pub invariant-loop-j : goal.invariant-loop-j
invariant-loop-j l = Adding l.values l.x l.at l.col l.start l.j l.sum
