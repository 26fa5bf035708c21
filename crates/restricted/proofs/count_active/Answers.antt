-- `restricted::count_active` meets its contract. Assumes nothing.
use mathlib.Core.Path.{refl}
use native.Mathlib.Omega.{arith}
use Rattle.restricted.proofs.KeepLaws.{counted_none, counted-le, counted_more, counted_done, byte_small}
use Rattle.restricted.proofs.count_active.Goals as goal

pub loop-column-init : goal.loop-column-init
loop-column-init c = counted_none _ _

pub overflow_add-kept : goal.overflow_add-kept
overflow_add-kept c = omega (arith, counted-le _ _ _ _ c.loop-column.invariant, byte_small _ _ c.from-kept.ensures)

pub loop-column-preserved : goal.loop-column-preserved
loop-column-preserved c = counted_more _ _ _ _ c.loop-column.invariant _ _ (omega arith) _ refl c.is_member.ensures c.from-kept.ensures

pub returns : goal.returns
returns c = counted_done _ _ _ _ c.loop-column.invariant (omega arith)
