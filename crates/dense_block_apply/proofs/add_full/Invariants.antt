use Prim.Native.Nat.{◌+◌, ◌*◌}
use lib.ListN.{get_or}
use lib.Ieee.{nan, binary64, add}
use Rattle.lent.proofs.LentLaws.{Filled}
use Rattle.dense_block_apply.specs.Product.{products, as_one}
use Rattle.dense_block_apply.proofs.add_full.Given as goal

abbrev pub invariant-loop-i : goal.invariant-loop-i
invariant-loop-i g l = Filled (λ i. add binary64 (get_or l.sums i nan) (as_one (products l.values l.x (l.at + g.row.WIDTH * i) l.col g.row.WIDTH))) l.initial.more l.i l.more
