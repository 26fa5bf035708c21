use lib.ListN.{length}
use Rattle.metadata_first_dot.proofs.RowLaws.{Walked}
use Rattle.metadata_first_dot.proofs.dot_row.Given as goal

abbrev pub invariant-loop-i : goal.invariant-loop-i
invariant-loop-i l = Walked (length l.x) l.words l.masks l.values l.active l.x l.i l.sum l.candidate l.executed l.active_words
