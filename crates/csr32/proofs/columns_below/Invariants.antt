use lib.Dec.{ltb}
use Rattle.csr32.proofs.ScanLaws.{Passed}
use Rattle.csr32.proofs.columns_below.Given as goal

abbrev pub invariant-loop-col : goal.invariant-loop-col
invariant-loop-col l = Passed (λ c. ltb c l.limit) l.col_idx l.col-index l.good
