-- `lent::clear_from` meets its contract. Assumes nothing.
use borrow.Author.Rules.{rules}
use native.Mathlib.Omega.{arith}
use Rattle.lent.proofs.LentLaws.{cleared_past, cleared_none, cleared_more, cleared_tail}
use Rattle.lent.proofs.clear_from.Goals as goal

pub loop-place-init : goal.loop-place-init
loop-place-init g c = cleared_none _ _ _ (omega arith)

pub loop-place-preserved : goal.loop-place-preserved
loop-place-preserved g c = rw c.zero.ensures (cleared_more _ _ _ _ _ c.loop-place.invariant (omega (arith, c.loop-place.auto.place-items)))

pub returns-after-loop-place : goal.returns-after-loop-place
returns-after-loop-place g c = cleared_tail _ _ _ _ _ c.if-from-s.true c.loop-place.invariant c.loop-place-test.false

pub returns-else-from-s : goal.returns-else-from-s
returns-else-from-s g c = search (cleared_past, rules)
