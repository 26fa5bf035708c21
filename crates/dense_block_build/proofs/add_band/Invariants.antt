use Rattle.dense_block.specs.Blocks.{width_of, row_blocks}
use Rattle.dense_block_build.proofs.SizeLaws.{width_pos}
use Rattle.dense_block_build.proofs.BandLaws.{Banding}
use Rattle.csr32.specs.Matrix.{lent_csr}
use Rattle.dense_block_build.proofs.add_band.Given as goal

abbrev pub invariant-loop-row : goal.invariant-loop-row
invariant-loop-row l = Banding (lent_csr l.csr.matrix) (width_of l.size) l.band (row_blocks (lent_csr l.csr.matrix) (width_of l.size) l.band) (width_pos l.size) l.row l.out
