-- `mask::ones` meets its contract. Assumes nothing.
use borrow.Author.Rules.{rules}
use native.Mathlib.Omega.{arith}
use Rattle.word.proofs.CountLaws.{ones-few}
use Rattle.mask.proofs.CallLaws.{counted_none, counted_more, counted_done, counted-le}
use Rattle.mask.proofs.ones.Goals as goal

pub loop-bits-init : goal.loop-bits-init
loop-bits-init c = counted_none _

pub overflow_add-n : goal.overflow_add-n
overflow_add-n c = omega (arith, counted-le _ _ _ c.loop-bits.invariant, ones-few _ _ c.popcount-n.ensures)

pub loop-bits-preserved : goal.loop-bits-preserved
loop-bits-preserved c = counted_more _ _ _ c.loop-bits.invariant _ (search rules) c.popcount-n.ensures

pub returns : goal.returns
returns c = counted_done _ _ _ c.loop-bits.invariant (search rules)
