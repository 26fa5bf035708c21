use Rattle.std.proofs.Common.{rules}
use Rattle.hybit_core.proofs.AnswerLaws.{checks, call_accepted, last_fails, last_passes}
use Rattle.mask.proofs.MaskLaws.{checked, few_words}
use Rattle.mask.specs.Calls.{indices_answer}
use Rattle.mask.proofs.CallLaws.{room_short, room_enough}
use Rattle.mask.proofs.examine_room.Goals as goal

pub returns-in_err-check : goal.returns-in_err-check
unfolding indices_answer
returns-in_err-check c = search (rules, checks)

pub ones-requires : goal.ones-requires
ones-requires c = few_words _ _ (checked _ _ _ c.check.ensures c.in_ok-check.was)

pub returns-then-room-ones : goal.returns-then-room-ones
unfolding indices_answer
returns-then-room-ones c = let e = c.check.ensures in
    let t = c.in_ok-check.was in
    call_accepted _ _ _ _ e t (last_fails _ _ (room_short _ _ _ _ (checked _ _ _ e t) c.ones.ensures c.if-room-ones.true))

pub returns : goal.returns
unfolding indices_answer
returns c = let e = c.check.ensures in
    let t = c.in_ok-check.was in
    call_accepted _ _ _ _ e t (last_passes _ _ (room_enough _ _ _ _ (checked _ _ _ e t) c.ones.ensures c.if-room-ones.false))
