-- `mask_build::set` meets its contract. Assumes nothing.
use borrow.Author.Rules.{rules}
use Rattle.hybit_core.proofs.AnswerLaws.{accepted_by, answer_accepted}
use Rattle.lent.proofs.LentLaws.{kept_accepted}
use Rattle.mask.proofs.CallLaws.{set_is}
use Rattle.mask_build.proofs.BuildLaws.{set_valid, set-inside, set_place}
use Rattle.mask_build.proofs.set.Goals as goal

pub offset_bounds-words-at : goal.offset_bounds-words-at
offset_bounds-words-at c = let h = set_place _ _ _ (accepted_by _ _ c.examine_set.ensures c.in_ok-examine_set.was) in search rules

pub bounds-words-at : goal.bounds-words-at
bounds-words-at c = set_place _ _ _ (accepted_by _ _ c.examine_set.ensures c.in_ok-examine_set.was)

pub offset_bounds-words-at-2 : goal.offset_bounds-words-at-2
offset_bounds-words-at-2 c = let h = set_place _ _ _ (accepted_by _ _ c.examine_set.ensures c.in_ok-examine_set.was) in search rules

pub bounds-words-at-2 : goal.bounds-words-at-2
bounds-words-at-2 c = set_place _ _ _ (accepted_by _ _ c.examine_set.ensures c.in_ok-examine_set.was)

pub returns : goal.returns
returns c = let e = c.examine_set.ensures in
    let t = c.in_ok-examine_set.was in
    let ok = accepted_by _ _ e t in
    record { answer = answer_accepted _ _ e t; list = kept_accepted _ _ _ _ _ e t (set_is _ _ (set_valid _ _ _ ok) (λ k. (c.slice_known-2-1.given k).fits) _ _ _ (set-inside _ _ _ ok) c.with_value.ensures) }
