-- `metadata_first_merge::check` meets its contract. Assumes nothing.
use Rattle.std.proofs.Common.{rules}
use mathlib.Core.Path.{ap, ◌∙◌}
use mathlib.Core.Bool.{not}
use Rattle.hybit_core.proofs.AnswerLaws.{told_refused, last_fails, last_passes}
use Rattle.hybit_core.proofs.BoolLaws.{flag_on, flag_off}
use Rattle.hybit_core.proofs.HandedLaws.{handed_back, handed_out, found_refuses, found_accepted, found_is}
use Rattle.metadata_first_merge.specs.Merge.{merge_answer, merged_finite}
use Rattle.metadata_first_merge.proofs.check.Goals as goal

pub returns-in_err-checked : goal.returns-in_err-checked
unfolding merge_answer
returns-in_err-checked c = told_refused _ c.in_err-checked.field-0.0 _ (search rules) (rw (found_refuses _ _ _ (handed_back _ _ _ _ c.checked.ensures _ c.in_err-checked.was)))

pub returns-then-not-merged_finite : goal.returns-then-not-merged_finite
unfolding merge_answer
returns-then-not-merged_finite c = let e = handed_out _ _ _ _ c.checked.ensures _ c.in_ok-checked.was in
    rw (found_accepted _ _ _ e) (last_fails _ _ (flag_off _ _ (c.merged_finite.ensures ∙ ap merged_finite (found_is _ _ _ e)) (ap not c.if-not-merged_finite.true)))

pub returns : goal.returns
unfolding merge_answer
returns c = let e = handed_out _ _ _ _ c.checked.ensures _ c.in_ok-checked.was in
    rw (found_accepted _ _ _ e) (last_passes _ _ (flag_on _ _ (c.merged_finite.ensures ∙ ap merged_finite (found_is _ _ _ e)) (ap not c.if-not-merged_finite.false)))
