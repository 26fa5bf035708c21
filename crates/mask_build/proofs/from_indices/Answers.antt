-- `mask_build::from_indices` meets its contract. Assumes nothing.
use borrow.Author.Rules.{rules}
use Rattle.hybit_core.proofs.AnswerLaws.{outcomes, accepted_by, answer_accepted}
use Rattle.lent.proofs.LentLaws.{built_refused, built_accepted}
use Rattle.mask_build.proofs.BuildLaws.{from_indices_below, from_indices_room, cleared_room, cleared_self, cleared_then}
use Rattle.mask_build.proofs.from_indices.Goals as goal

pub returns-in_err-v : goal.returns-in_err-v
returns-in_err-v c = search (outcomes, built_refused, rules)

pub set_all-requires : goal.set_all-requires
set_all-requires c = let ok = accepted_by _ _ c.examine_indices-v.ensures c.in_ok-v.was in
    let e = c.clear_from.ensures in
    record { below = from_indices_below _ _ _ ok; room = cleared_room _ _ e _ (from_indices_room _ _ _ ok); empty = cleared_self _ _ e }

pub returns : goal.returns
returns c = let e = c.examine_indices-v.ensures in
    let t = c.in_ok-v.was in
    record { answer = answer_accepted _ _ e t; list = built_accepted _ _ _ _ _ _ e t (cleared_then _ _ c.clear_from.ensures _ _ c.set_all.ensures) }
