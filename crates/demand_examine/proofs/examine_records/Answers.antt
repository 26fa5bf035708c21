-- `demand_examine::examine_records` meets its contract. Assumes nothing.
use Rattle.std.proofs.Common.{rules}
use Rattle.hybit_core.proofs.AnswerLaws.{told_refused}
use Rattle.demand_examine.proofs.CheckLaws.{mask_large, list_refused, mask-told}
use Rattle.hybit_core.proofs.BoolLaws.{flag_on, flag_off}
use mathlib.Core.Path.{ap}
use mathlib.Core.Bool.{not}
use Rattle.demand_examine.proofs.examine_records.Goals as goal

pub returns-in_err-check : goal.returns-in_err-check
returns-in_err-check c = told_refused _ _ _ (search rules) (list_refused _ _ (flag_on _ _ c.dimension_fits.ensures (ap not c.if-not-dimension_fits.false)) _ _ c.check.ensures c.in_err-check.was)

pub returns-then-not-dimension_fits : goal.returns-then-not-dimension_fits
returns-then-not-dimension_fits c = mask_large _ _ (flag_off _ _ c.dimension_fits.ensures (ap not c.if-not-dimension_fits.true))

pub returns : goal.returns
returns c = mask-told _ _ (flag_on _ _ c.dimension_fits.ensures (ap not c.if-not-dimension_fits.false)) _ c.check.ensures c.in_ok-check.was _ c.check-2.ensures
