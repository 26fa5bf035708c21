-- `restricted_local::put_members` meets its contract. Assumes nothing.
use mathlib.Core.Path.{◌∙◌, sym}
use native.Mathlib.Omega.{arith}
use Rattle.restricted_local.proofs.RegionLaws.{putting_none, putting_room, putting_more, putting_other, putting_done}
use Rattle.restricted_local.proofs.put_members.Goals.{then-is_member, else-is_member}
use Rattle.restricted_local.proofs.put_members.Goals as goal

pub loop-row-init : goal.loop-row-init
loop-row-init c = putting_none _ _

pub bounds-out-at : goal.bounds-out-at
bounds-out-at c = putting_room _ _ _ _ _ c.loop-row.invariant (omega arith) (sym c.if-is_member.true ∙ c.is_member.ensures) c.requires.1

pub loop-row-preserved : goal.loop-row-preserved
loop-row-preserved c = elim c.if-is_member.branch [
  | then-is_member w ↦ rw (w.at-is, w.out-is) (putting_more _ _ _ _ _ c.loop-row.invariant (omega arith) (sym w.if-is_member.true ∙ c.is_member.ensures) c.requires.1 _ c.requires.0 w.narrow.ensures)
  | else-is_member w ↦ rw (w.at-is, w.out-is) (putting_other _ _ _ _ _ c.loop-row.invariant (omega arith) (sym w.if-is_member.false ∙ c.is_member.ensures))
]

pub returns : goal.returns
returns c = putting_done _ _ _ _ _ c.loop-row.invariant (omega arith)
