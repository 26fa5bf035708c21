use Rattle.dense_block.specs.Blocks.{width_of}
use Rattle.dense_block_build.proofs.RunLaws.{Running}
use Rattle.dense_block_build.proofs.run_end.Given as goal

abbrev pub invariant-loop-end : goal.invariant-loop-end
invariant-loop-end l = Running (width_of l.size) l.key l.cols l.from l.end
