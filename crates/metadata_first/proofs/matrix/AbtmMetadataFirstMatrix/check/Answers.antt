-- `metadata_first::AbtmMetadataFirstMatrix::check` meets its contract. Assumes nothing.
use Rattle.std.proofs.Common.{rules}
use Rattle.hybit_core.proofs.BoolLaws.{flag_on, flag_off}
use Rattle.hybit_core.proofs.AnswerLaws.{told_refused, accepted_by}
use Rattle.topology.proofs.RowLaws.{small_is}
use Rattle.metadata_first.proofs.CallLaws.{values_first, words_refused, rules_fail, values_differ, values_agree}
use mathlib.Core.Path.{ap}
use mathlib.Core.Bool.{not}
use Rattle.metadata_first.proofs.matrix.AbtmMetadataFirstMatrix.check.Goals as goal

pub returns-in_err-check_lists : goal.returns-in_err-check_lists
returns-in_err-check_lists c = told_refused _ _ _ (search rules) (words_refused _ _ _ _ _ _ _ (flag_on _ _ c.entries_fit.ensures (ap not c.if-not-entries_fit.false)) _ _ _ c.check_lists.ensures c.in_err-check_lists.was)

pub returns-then-not-entries_fit : goal.returns-then-not-entries_fit
returns-then-not-entries_fit c = values_first _ (flag_off _ _ c.entries_fit.ensures (ap not c.if-not-entries_fit.true))

pub rules_hold-requires : goal.rules_hold-requires
rules_hold-requires c = accepted_by _ _ c.check_lists.ensures c.in_ok-check_lists.was

pub returns-then-not-rules_hold : goal.returns-then-not-rules_hold
returns-then-not-rules_hold c = rules_fail _ _ _ _ _ _ _ (flag_on _ _ c.entries_fit.ensures (ap not c.if-not-entries_fit.false)) _ (accepted_by _ _ c.check_lists.ensures c.in_ok-check_lists.was) (flag_off _ _ c.rules_hold.ensures (ap not c.if-not-rules_hold.true)) _ (rw c.masks_of-masks.ensures at c.refused_store.ensures)

pub returns-then-self : goal.returns-then-self
returns-then-self c = values_differ _ _ _ _ _ _ _ (flag_on _ _ c.entries_fit.ensures (ap not c.if-not-entries_fit.false)) _ (accepted_by _ _ c.check_lists.ensures c.in_ok-check_lists.was) (rw (← c.masks_of-masks.ensures) (small_is _ (search rules))) (flag_on _ _ c.rules_hold.ensures (ap not c.if-not-rules_hold.false)) c.if-self.true

pub returns : goal.returns
returns c = values_agree _ _ _ _ _ _ _ (flag_on _ _ c.entries_fit.ensures (ap not c.if-not-entries_fit.false)) _ (accepted_by _ _ c.check_lists.ensures c.in_ok-check_lists.was) (rw (← c.masks_of-masks.ensures) (small_is _ (search rules))) (flag_on _ _ c.rules_hold.ensures (ap not c.if-not-rules_hold.false)) c.if-self.false
