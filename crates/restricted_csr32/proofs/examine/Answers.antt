-- `restricted_csr32::examine` meets its contract. Assumes nothing.
use Rattle.std.proofs.Common.{rules}
use Rattle.hybit_core.proofs.AnswerLaws.{told_refused}
use native.Mathlib.Omega.{arith}
use Rattle.hybit_core.proofs.BoolLaws.{flag_on, flag_off}
use Rattle.restricted_csr32.proofs.CallLaws.{mask_large, list_refused, mask_refused, wrong_size, no_room, all-good}
use mathlib.Core.Path.{ap}
use mathlib.Core.Bool.{not}
use Rattle.restricted_csr32.proofs.examine.Goals as goal

pub returns-in_err-check-2 : goal.returns-in_err-check-2
returns-in_err-check-2 c = told_refused _ _ _ (search rules) (mask_refused _ _ _ (flag_on _ _ c.dimension_fits.ensures (ap not c.if-not-dimension_fits.false)) _ c.check.ensures c.in_ok-check.was _ _ c.check-2.ensures c.in_err-check-2.was)

pub returns-in_err-check : goal.returns-in_err-check
returns-in_err-check c = told_refused _ _ _ (search rules) (list_refused _ _ _ (flag_on _ _ c.dimension_fits.ensures (ap not c.if-not-dimension_fits.false)) _ _ c.check.ensures c.in_err-check.was)

pub returns-then-not-dimension_fits : goal.returns-then-not-dimension_fits
returns-then-not-dimension_fits c = mask_large _ _ _ (flag_off _ _ c.dimension_fits.ensures (ap not c.if-not-dimension_fits.true))

pub returns-then-mask-csr : goal.returns-then-mask-csr
returns-then-mask-csr c = wrong_size _ _ _ (flag_on _ _ c.dimension_fits.ensures (ap not c.if-not-dimension_fits.false)) _ c.check.ensures c.in_ok-check.was _ c.check-2.ensures c.in_ok-check-2.was c.if-mask-csr.true

pub returns-then-not-holds : goal.returns-then-not-holds
returns-then-not-holds c = no_room _ _ _ (flag_on _ _ c.dimension_fits.ensures (ap not c.if-not-dimension_fits.false)) _ c.check.ensures c.in_ok-check.was _ c.check-2.ensures c.in_ok-check-2.was (omega arith) _ c.count_active-kept.ensures _ c.holds.ensures (ap not c.if-not-holds.true)

pub returns : goal.returns
returns c = all-good _ _ _ (flag_on _ _ c.dimension_fits.ensures (ap not c.if-not-dimension_fits.false)) _ c.check.ensures c.in_ok-check.was _ c.check-2.ensures c.in_ok-check-2.was (omega arith) _ c.count_active-kept.ensures _ c.holds.ensures (ap not c.if-not-holds.false)
