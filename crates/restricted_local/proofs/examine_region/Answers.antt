-- `restricted_local::examine_region` meets its contract. Assumes nothing.
use Rattle.std.proofs.Common.{rules}
use native.Mathlib.Omega.{arith}
use Rattle.hybit_core.proofs.BoolLaws.{is_equal, is_unequal}
use Rattle.hybit_core.proofs.AnswerLaws.{told_refused, test_fails, test_passes, last_length_wrong, last_length_right}
use Rattle.restricted_local.proofs.CheckLaws.{region_long, region_list, region_mask, region_rest}
use mathlib.Core.Path.{ap}
use mathlib.Core.Bool.{not}
use Rattle.restricted_local.proofs.examine_region.Goals as goal

pub returns-in_err-check-2 : goal.returns-in_err-check-2
returns-in_err-check-2 c = told_refused _ _ _ (search rules) (region_mask _ _ _ c.dimension_fits.ensures (ap not c.if-not-dimension_fits.false) _ c.check.ensures c.in_ok-check.was _ c.check-2.ensures _ c.in_err-check-2.was)

pub returns-in_err-check : goal.returns-in_err-check
returns-in_err-check c = told_refused _ _ _ (search rules) (region_list _ _ _ c.dimension_fits.ensures (ap not c.if-not-dimension_fits.false) _ _ c.check.ensures c.in_err-check.was)

pub returns-then-not-dimension_fits : goal.returns-then-not-dimension_fits
returns-then-not-dimension_fits c = region_long _ _ _ c.dimension_fits.ensures (ap not c.if-not-dimension_fits.true)

pub returns-then-csr : goal.returns-then-csr
returns-then-csr c = region_rest _ _ _ c.dimension_fits.ensures (ap not c.if-not-dimension_fits.false) _ c.check.ensures c.in_ok-check.was _ c.check-2.ensures _ c.in_ok-check-2.was (test_fails _ 10 _ (is_unequal c.args.csr.nrows c.args.csr.ncols (λ h. omega arith)))

pub returns-then-region-csr : goal.returns-then-region-csr
returns-then-region-csr c = region_rest _ _ _ c.dimension_fits.ensures (ap not c.if-not-dimension_fits.false) _ c.check.ensures c.in_ok-check.was _ c.check-2.ensures _ c.in_ok-check-2.was (test_passes _ 10 _ _ (is_equal c.args.csr.nrows c.args.csr.ncols (omega arith)) (last_length_wrong c.args.csr.nrows c.args.region.len (λ h. omega arith)))

pub returns : goal.returns
returns c = region_rest _ _ _ c.dimension_fits.ensures (ap not c.if-not-dimension_fits.false) _ c.check.ensures c.in_ok-check.was _ c.check-2.ensures _ c.in_ok-check-2.was (test_passes _ 10 _ _ (is_equal c.args.csr.nrows c.args.csr.ncols (omega arith)) (last_length_right c.args.csr.nrows c.args.region.len (omega arith)))
