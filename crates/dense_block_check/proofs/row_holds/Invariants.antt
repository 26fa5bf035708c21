use Rattle.dense_block_check.proofs.ClimbLaws.{Keeping}
use Rattle.dense_block_check.proofs.row_holds.Given as goal

abbrev pub invariant-loop-col : goal.invariant-loop-col
invariant-loop-col l = Keeping l.limit l.cols l.col-items l.holds l.before l.col-index
