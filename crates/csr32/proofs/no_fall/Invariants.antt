use Rattle.csr32.proofs.ScanLaws.{Risen}
use Rattle.csr32.proofs.no_fall.Given as goal

abbrev pub invariant-loop-next : goal.invariant-loop-next
invariant-loop-next l = Risen l.row_ptr l.last l.next-index l.good
