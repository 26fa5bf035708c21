-- `DenseBlockSize::place_of` meets its contract. Assumes nothing.
use Rattle.dense_block.proofs.DenseBlockSize.place_of.Goals as goal

pub returns-in-B3 : goal.returns-in-B3
returns-in-B3 c = rw c.in-B3.is

pub returns-in-B6 : goal.returns-in-B6
returns-in-B6 c = rw c.in-B6.is
