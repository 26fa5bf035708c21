use Rattle.dense_block.specs.Blocks.{width_of}
use Rattle.dense_block_build.proofs.MergeLaws.{Merging}
use Rattle.dense_block_build.proofs.merge_line.Given as goal

abbrev pub invariant-loop-k : goal.invariant-loop-k
invariant-loop-k l = Merging (width_of l.size) l.entries.cols.now l.entries.vals.now l.initial.merged l.k l.merged
