use Rattle.dense_block_build.proofs.FillLaws.{Filling}
use Rattle.csr32.specs.Matrix.{lent_csr}
use Rattle.dense_block_build.proofs.fill_values.Given as goal

abbrev pub invariant-loop-band : goal.invariant-loop-band
invariant-loop-band l = Filling (lent_csr l.layout.csr.matrix) l.layout.size l.initial.starts l.band l.bits l.starts l.out_values
