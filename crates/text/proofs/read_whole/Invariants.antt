use Rattle.text.proofs.NumberLaws.{Reading}
use Rattle.text.proofs.read_whole.Given as goal

abbrev pub invariant-loop-b : goal.invariant-loop-b
invariant-loop-b l = Reading l.word l.value l.b-index
