-- `restricted_local::examine` meets its contract. Assumes nothing.
use Rattle.std.proofs.Common.{rules}
use mathlib.Core.Bool.{not}
use mathlib.Core.Path.{ap}
use native.Mathlib.Omega.{arith}
use Rattle.hybit_core.proofs.AnswerLaws.{given_refused_by, accepted_by}
use Rattle.restricted_local.proofs.CountLaws.{members_short, room_fails, room_holds}
use Rattle.restricted_local.proofs.CheckLaws.{region_facts, local_refused, local_short, local_built}
use Rattle.restricted_local.proofs.examine.Goals as goal

pub returns-in_err-examine_region : goal.returns-in_err-examine_region
returns-in_err-examine_region c = given_refused_by _ _ _ (search rules) (local_refused _ _ _ _ _ c.examine_region.ensures _ c.in_err-examine_region.was)

pub count_region-s-requires : goal.count_region-s-requires
count_region-s-requires c = region_facts _ _ (accepted_by _ _ c.examine_region.ensures c.in_ok-examine_region.was)

pub returns-then-member_room-s : goal.returns-then-member_room-s
returns-then-member_room-s c = local_short _ _ _ _ _ c.examine_region.ensures c.in_ok-examine_region.was (members_short _ _ _ _ _ c.count_region-s.ensures c.if-member_room-s.true)

pub returns-then-not-holds : goal.returns-then-not-holds
returns-then-not-holds c = local_short _ _ _ _ _ c.examine_region.ensures c.in_ok-examine_region.was (room_fails _ _ _ _ _ c.count_region-s.ensures _ c.holds.ensures (ap not c.if-not-holds.true))

pub returns : goal.returns
returns c = local_built _ _ _ _ _ c.examine_region.ensures c.in_ok-examine_region.was _ (room_holds _ _ _ _ _ c.count_region-s.ensures _ c.holds.ensures (omega arith) (ap not c.if-not-holds.false)) c.count_region-s.ensures
