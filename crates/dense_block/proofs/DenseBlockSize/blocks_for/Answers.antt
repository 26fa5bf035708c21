-- `dense_block::DenseBlockSize::blocks_for` meets its contract. Assumes nothing.
use native.Mathlib.Omega.{arith}
use Rattle.dense_block.proofs.DenseBlockSize.blocks_for.Goals as goal

pub returns-in-B3 : goal.returns-in-B3
returns-in-B3 c = rw c.in-B3.is (omega arith)

pub returns-in-B6 : goal.returns-in-B6
returns-in-B6 c = rw c.in-B6.is (omega arith)
