-- `restricted_gather::members_hold` meets its contract. Assumes nothing.
use mathlib.Core.Path.{refl}
use native.Mathlib.Omega.{arith}
use Rattle.restricted_gather.proofs.MemberLaws.{climbing_none, climbing_more, climbing_falls, climbing_past, climbing_done}
use Rattle.restricted_gather.proofs.members_hold.Goals as goal

pub loop-member-init : goal.loop-member-init
loop-member-init c = climbing_none _ _

pub returns-then-g-least : goal.returns-then-g-least
returns-then-g-least c = climbing_falls _ _ _ _ c.loop-member.invariant _ (omega arith) refl (omega arith)

pub returns-then-g-region : goal.returns-then-g-region
returns-then-g-region c = climbing_past _ _ _ _ c.loop-member.invariant _ (omega arith) refl (omega arith)

pub loop-member-preserved : goal.loop-member-preserved
loop-member-preserved c = climbing_more _ _ _ _ c.loop-member.invariant _ (omega arith) refl (omega arith) (omega arith)

pub returns : goal.returns
returns c = climbing_done _ _ _ _ c.loop-member.invariant (omega arith)
