-- `metadata_first_operands::examine_operands` meets its contract. Assumes nothing.
use Rattle.std.proofs.Common.{rules}
use Rattle.hybit_core.proofs.BoolLaws.{flag_on, flag_off}
use Rattle.hybit_core.proofs.AnswerLaws.{told_refused, call_refused, call_accepted, length_wrong, length_right, last_length_wrong, last_length_right}
use Rattle.metadata_first_operands.proofs.CheckLaws.{mask_first, store_then}
use mathlib.Core.Path.{ap}
use mathlib.Core.Bool.{not}
use Rattle.metadata_first_operands.proofs.examine_operands.Goals as goal

pub returns-in_err-check-2 : goal.returns-in_err-check-2
returns-in_err-check-2 c = told_refused _ _ _ (search rules) (store_then _ _ _ _ (flag_on _ _ c.dimension_fits.ensures (ap not c.if-not-dimension_fits.false)) (call_accepted _ _ _ _ c.check.ensures c.in_ok-check.was (call_refused _ _ _ _ c.check-2.ensures c.in_err-check-2.was)))

pub returns-in_err-check : goal.returns-in_err-check
returns-in_err-check c = told_refused _ _ _ (search rules) (store_then _ _ _ _ (flag_on _ _ c.dimension_fits.ensures (ap not c.if-not-dimension_fits.false)) (call_refused _ _ _ _ c.check.ensures c.in_err-check.was))

pub returns-then-not-dimension_fits : goal.returns-then-not-dimension_fits
returns-then-not-dimension_fits c = mask_first _ _ _ (flag_off _ _ c.dimension_fits.ensures (ap not c.if-not-dimension_fits.true))

pub returns-then-mask-packed : goal.returns-then-mask-packed
returns-then-mask-packed c = store_then _ _ _ _ (flag_on _ _ c.dimension_fits.ensures (ap not c.if-not-dimension_fits.false)) (call_accepted _ _ _ _ c.check.ensures c.in_ok-check.was (call_accepted _ _ _ _ c.check-2.ensures c.in_ok-check-2.was (length_wrong _ _ _ c.if-mask-packed.true)))

pub returns-then-x-packed : goal.returns-then-x-packed
returns-then-x-packed c = store_then _ _ _ _ (flag_on _ _ c.dimension_fits.ensures (ap not c.if-not-dimension_fits.false)) (call_accepted _ _ _ _ c.check.ensures c.in_ok-check.was (call_accepted _ _ _ _ c.check-2.ensures c.in_ok-check-2.was (length_right _ _ _ _ c.if-mask-packed.false (last_length_wrong _ _ c.if-x-packed.true))))

pub returns : goal.returns
returns c = store_then _ _ _ _ (flag_on _ _ c.dimension_fits.ensures (ap not c.if-not-dimension_fits.false)) (call_accepted _ _ _ _ c.check.ensures c.in_ok-check.was (call_accepted _ _ _ _ c.check-2.ensures c.in_ok-check-2.was (length_right _ _ _ _ c.if-mask-packed.false (last_length_right _ _ c.if-x-packed.false))))
