use Rattle.dense_block_build.proofs.SlotLaws.{Counting}
use Rattle.csr32.specs.Matrix.{lent_csr}
use Rattle.dense_block_build.proofs.count_valid.Given as goal

abbrev pub invariant-loop-band : goal.invariant-loop-band
invariant-loop-band l = Counting (lent_csr l.layout.csr.matrix) l.layout.size l.band l.slots
