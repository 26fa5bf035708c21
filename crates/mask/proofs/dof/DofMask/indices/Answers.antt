-- `mask::DofMask::indices` meets its contract. Assumes nothing.
use Rattle.hybit_core.proofs.AnswerLaws.{accepted_by, given_accepted}
use Rattle.lent.proofs.LentLaws.{built_accepted}
use Rattle.mask.proofs.MaskLaws.{few_words}
use Rattle.mask.proofs.CallLaws.{indices_valid, indices_fit, indices_count, indices_list}
use Rattle.mask.proofs.dof.DofMask.indices.Goals as goal

pub put_all-n-requires : goal.put_all-n-requires
put_all-n-requires c = let ok = accepted_by _ _ c.examine_room-v.ensures c.in_default.is in
    (few_words _ _ (indices_valid _ _ _ ok), indices_fit _ _ _ ok)

pub returns : goal.returns
returns c = let e = c.examine_room-v.ensures in
    let t = c.in_default.is in
    let ok = indices_valid _ _ _ (accepted_by _ _ e t) in
    record { answer = given_accepted _ _ _ _ e t (indices_count _ _ _ _ _ ok c.put_all-n.ensures); list = built_accepted _ _ _ _ _ _ e t (indices_list _ _ _ _ _ ok c.put_all-n.ensures _ c.put_all-n.auto.out c.clear_from-2.ensures) }
