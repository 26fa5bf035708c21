-- `metadata_first_merge::row_holds` meets its contract. Assumes nothing.
use mathlib.Core.Path.{refl, sym, ◌∙◌, ap}
use native.Mathlib.Omega.{arith}
use lib.ListN.{length}
use Rattle.hybit_core.proofs.BoolLaws.{flag_on, flag_off}
use Rattle.csr32.proofs.WindowLaws.{zeros_as}
use Rattle.metadata_first_merge.proofs.WindowLaws.{searched_none, searched_more, searched_done, searched_fails}
use mathlib.Core.Bool.{not}
use Rattle.metadata_first_merge.proofs.row_holds.Goals as goal

pub loop-base-init : goal.loop-base-init
loop-base-init c = (refl, omega arith, refl, c.requires.window, searched_none c.args.row.cols.now c.args.row.vals.now)

pub window_holds-requires : goal.window_holds-requires
window_holds-requires c = zeros_as c.loop-base.sums _ _ c.loop-base.invariant.3 (sym c.loop-base.invariant.2)

pub returns-then-not-window_holds : goal.returns-then-not-window_holds
returns-then-not-window_holds c = record { answer = searched_fails c.args.row.ncols c.args.row.cols.now c.args.row.vals.now c.args.row.paired c.args.row.inside c.loop-base.base (length c.loop-base.sums) (flag_off _ _ c.window_holds.ensures.answer (ap not c.if-not-window_holds.true)); window = zeros_as _ _ _ c.window_holds.ensures.window c.loop-base.invariant.2 }

pub loop-base-preserved : goal.loop-base-preserved
loop-base-preserved c = (c.loop-base.invariant.0, omega arith, c.window_holds.auto.sums ∙ c.loop-base.invariant.2, zeros_as _ _ _ c.window_holds.ensures.window c.loop-base.invariant.2, searched_more c.args.row.cols.now c.args.row.vals.now c.loop-base.base (length c.loop-base.sums) _ c.loop-base.invariant.4 (flag_on _ _ c.window_holds.ensures.answer (ap not c.if-not-window_holds.false)) (c.loop-base.invariant.2 ∙ sym c.loop-base.invariant.0))

pub returns : goal.returns
returns c = record { answer = searched_done c.args.row.ncols c.args.row.cols.now c.args.row.vals.now c.args.row.paired c.args.row.inside c.loop-base.base c.loop-base.invariant.4 (omega arith); window = c.loop-base.invariant.3 }

pub returns-else-not-window_holds-clause-answer : goal.returns-else-not-window_holds-clause-answer
returns-else-not-window_holds-clause-answer c = searched_done c.args.row.ncols c.args.row.cols.now c.args.row.vals.now c.args.row.paired c.args.row.inside _ (searched_more c.args.row.cols.now c.args.row.vals.now c.loop-base.base (length c.loop-base.sums) _ c.loop-base.invariant.4 (flag_on _ _ c.window_holds.ensures.answer (ap not c.if-not-window_holds.false)) (c.loop-base.invariant.2 ∙ sym c.loop-base.invariant.0)) (omega arith)
