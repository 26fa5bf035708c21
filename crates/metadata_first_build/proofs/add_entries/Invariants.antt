use Rattle.metadata_first_build.proofs.AddLaws.{Adding}
use Rattle.metadata_first_build.proofs.add_entries.Given as goal

abbrev pub invariant-loop-k : goal.invariant-loop-k
invariant-loop-k l = Adding l.entries.ncols l.entries.cols.now l.entries.vals.now l.k l.out
