use Rattle.dense_block_counts.proofs.DistinctLaws.{Distinct}
use Rattle.dense_block_counts.proofs.distinct.Given as goal

abbrev pub invariant-loop-column : goal.invariant-loop-column
invariant-loop-column l = Distinct l.row.ncols l.row.cols.now l.column-index l.found l.bits
