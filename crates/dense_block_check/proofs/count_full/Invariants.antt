use Prim.Native.Nat.{◌+◌, ◌*◌}
use lib.Dec.{leb}
use Rattle.word.proofs.PassLaws.{Passing}
use Rattle.dense_block_check.proofs.count_full.Given as goal

abbrev pub invariant-loop-col : goal.invariant-loop-col
invariant-loop-col l = Passing (λ C. leb (l.width * C + l.width) l.ncols) l.cols l.col-index l.full
