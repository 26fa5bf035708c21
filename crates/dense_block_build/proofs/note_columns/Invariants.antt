use Rattle.dense_block_build.proofs.NoteLaws.{Noting}
use Rattle.dense_block_build.proofs.note_columns.Given as goal

abbrev pub invariant-loop-k : goal.invariant-loop-k
invariant-loop-k l = Noting l.n l.cols l.initial.starts l.k l.bits l.starts
