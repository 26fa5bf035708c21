-- `mask::DofMask::count_ones` meets its contract. Assumes nothing.
use Rattle.hybit_core.proofs.AnswerLaws.{given_accepted}
use Rattle.mask.proofs.MaskLaws.{checked, few_words}
use Rattle.mask.proofs.CallLaws.{ones_are}
use Rattle.mask.proofs.dof.DofMask.count_ones.Goals as goal

pub ones-requires : goal.ones-requires
ones-requires c = few_words _ _ (checked _ _ _ c.check.ensures c.in_ok-check.was)

pub returns : goal.returns
returns c = let e = c.check.ensures in
    let t = c.in_ok-check.was in
    given_accepted _ _ _ _ e t (ones_are _ _ _ (checked _ _ _ e t) c.ones.ensures)
