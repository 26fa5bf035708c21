-- `lent::part` meets its contract. Assumes nothing.
use Rattle.lent.proofs.ListLaws.{part_within, part_empty, part_past}
use Rattle.lent.proofs.part.Goals as goal

pub returns-then-row-ptr : goal.returns-then-row-ptr
returns-then-row-ptr g c = part_past _ _ _ c.if-row-ptr.true

pub returns-then-start-end : goal.returns-then-start-end
returns-then-start-end g c = part_within _ _ _ _ _ c.pointer.ensures c.min-end.ensures _ c.pointer-start.ensures

pub returns-else-start-end : goal.returns-else-start-end
returns-else-start-end g c = part_empty _ _ _ _ _ c.pointer.ensures c.min-end.ensures _ c.pointer-start.ensures c.if-start-end.false
