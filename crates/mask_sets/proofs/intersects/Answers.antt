-- `mask_sets::intersects` meets its contract. Assumes nothing.
use Rattle.hybit_core.proofs.AnswerLaws.{accepted_by, given_accepted}
use Rattle.mask_sets.proofs.PairLaws.{pair_lengths, pair_meets}
use Rattle.mask_sets.proofs.intersects.Goals as goal

pub words_meet-requires : goal.words_meet-requires
words_meet-requires c = pair_lengths _ _ _ _ (accepted_by _ _ c.examine_pair.ensures c.in_ok-examine_pair.was)

pub returns : goal.returns
returns c = let e = c.examine_pair.ensures in
    let t = c.in_ok-examine_pair.was in
    given_accepted _ _ _ _ e t (pair_meets _ _ _ _ (accepted_by _ _ e t) _ c.words_meet.ensures)
