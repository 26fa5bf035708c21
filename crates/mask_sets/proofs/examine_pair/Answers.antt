-- `mask_sets::examine_pair` meets its contract. Assumes nothing.
use borrow.Author.Rules.{rules}
use Rattle.hybit_core.proofs.AnswerLaws.{told_refused, checks, test_fails}
use Rattle.hybit_core.proofs.BoolLaws.{tests, and-next, flag_off, flag_on}
use Rattle.mask.specs.Calls.{pair_answer}
use Rattle.mask_sets.proofs.PairLaws.{first_refused, second_refused, sizes_differ, pair_good}
use mathlib.Core.Path.{ap}
use mathlib.Core.Bool.{not}
use Rattle.mask_sets.proofs.examine_pair.Goals as goal

pub returns-in_err-check-2 : goal.returns-in_err-check-2
returns-in_err-check-2 c = told_refused _ _ _ (search rules) (second_refused _ _ _ _ (flag_on _ _ c.dimension_fits.ensures (ap not c.if-not-dimension_fits.false)) (flag_on _ _ c.dimension_fits-2.ensures (ap not c.if-not-dimension_fits-2.false)) _ c.check.ensures c.in_ok-check.was _ _ c.check-2.ensures c.in_err-check-2.was)

pub returns-then-not-dimension_fits : goal.returns-then-not-dimension_fits
unfolding pair_answer
returns-then-not-dimension_fits c = search (checks, tests, rules)

pub returns-then-not-dimension_fits-2 : goal.returns-then-not-dimension_fits-2
unfolding pair_answer
returns-then-not-dimension_fits-2 c = search (test_fails, and-next, flag_off, flag_on, rules)

pub returns-in_err-check : goal.returns-in_err-check
returns-in_err-check c = told_refused _ _ _ (search rules) (first_refused _ _ _ _ (flag_on _ _ c.dimension_fits.ensures (ap not c.if-not-dimension_fits.false)) (flag_on _ _ c.dimension_fits-2.ensures (ap not c.if-not-dimension_fits-2.false)) _ _ c.check.ensures c.in_err-check.was)

pub returns-then-other-mask : goal.returns-then-other-mask
returns-then-other-mask c = sizes_differ _ _ _ _ (flag_on _ _ c.dimension_fits.ensures (ap not c.if-not-dimension_fits.false)) (flag_on _ _ c.dimension_fits-2.ensures (ap not c.if-not-dimension_fits-2.false)) _ c.check.ensures c.in_ok-check.was _ c.check-2.ensures c.in_ok-check-2.was c.if-other-mask.true

pub returns : goal.returns
returns c = pair_good _ _ _ _ (flag_on _ _ c.dimension_fits.ensures (ap not c.if-not-dimension_fits.false)) (flag_on _ _ c.dimension_fits-2.ensures (ap not c.if-not-dimension_fits-2.false)) _ c.check.ensures c.in_ok-check.was _ c.check-2.ensures c.in_ok-check-2.was c.if-other-mask.false
