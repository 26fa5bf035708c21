use Rattle.dense_block_counts.proofs.SlotLaws.{Summed}
use Rattle.csr32.specs.Matrix.{lent_csr}
use Rattle.dense_block_counts.proofs.count_structural.Given as goal

abbrev pub invariant-loop-row : goal.invariant-loop-row
invariant-loop-row l = Summed (lent_csr l.csr.matrix) l.row l.slots l.bits
