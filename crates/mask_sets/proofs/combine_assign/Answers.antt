-- `mask_sets::combine_assign` meets its contract. Assumes nothing.
use mathlib.Core.Path.{◌∙◌}
use Rattle.hybit_core.proofs.AnswerLaws.{accepted_by, answer_accepted}
use Rattle.lent.proofs.LentLaws.{kept_accepted}
use Rattle.mask_sets.proofs.PairLaws.{pair_lengths, pair_combined}
use Rattle.mask_sets.proofs.combine_assign.Goals as goal

pub combine_words-requires : goal.combine_words-requires
combine_words-requires c = pair_lengths _ _ _ _ (accepted_by _ _ c.examine_pair.ensures c.in_ok-examine_pair.was)

pub returns : goal.returns
returns c = let e = c.examine_pair.ensures in
    let t = c.in_ok-examine_pair.was in
    record { answer = answer_accepted _ _ e t; list = kept_accepted _ _ _ c.args.words.now _ e t (c.combine_words.ensures ∙ pair_combined _ _ _ _ (accepted_by _ _ e t) c.args.operation) }
