-- Lent blocks.
use Rattle.dense_block.specs.declared.operator.DenseBlockCsrOperator.{DenseBlockCsrOperator}
use Rattle.dense_block.specs.Blocks.{Blocks, as_blocks, width_of}

abbrev pub lent_blocks : DenseBlockCsrOperator → Blocks
lent_blocks b = as_blocks b.nrows b.ncols (width_of b.size) b.row_ptr.now b.col_idx.now b.values.now
