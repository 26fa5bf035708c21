use Rattle.dense_block_check.proofs.ClimbLaws.{Rows}
use Rattle.dense_block_check.proofs.rows_hold.Given as goal

abbrev pub invariant-loop-row : goal.invariant-loop-row
invariant-loop-row l = Rows l.limit l.blocks.row_ptr.now l.blocks.col_idx.now l.rows l.row
