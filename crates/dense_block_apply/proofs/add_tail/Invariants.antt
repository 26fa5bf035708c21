use Prim.Native.Nat.{◌+◌, ◌*◌}
use lib.ListN.{get_or}
use lib.Ieee.{nan}
use Rattle.lent.proofs.LentLaws.{Filled}
use Rattle.dense_block_apply.specs.Product.{products, term_by_term}
use Rattle.dense_block_apply.proofs.add_tail.Given as goal

abbrev pub invariant-loop-i : goal.invariant-loop-i
invariant-loop-i g l = Filled (λ i. term_by_term (get_or l.sums i nan) (products l.values l.x (l.at + g.row.WIDTH * i) l.col l.count)) l.initial.more l.i l.more
