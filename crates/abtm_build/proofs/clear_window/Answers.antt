-- `abtm_build::clear_window` meets its contract. Assumes nothing.
use mathlib.Core.Path.{refl}
use native.Mathlib.Omega.{arith}
use lib.ListN.{length, get_or, length-set}
use Rattle.csr32.proofs.WindowLaws.{placed, unplaced, outside_other, outside_more, outside_done}
use Rattle.abtm_build.proofs.clear_window.Goals.{in-Some, in_default}
use Rattle.abtm_build.proofs.clear_window.Goals as goal

pub loop-col-init : goal.loop-col-init
loop-col-init c = (refl, refl, refl, refl, c.requires.fact_1)

pub loop-col-preserved : goal.loop-col-preserved
loop-col-preserved c =
    elim c.match-place_in_window.branch [
      | in-Some w ↦ let p = placed c.args.base (length c.args.sums.now) (get_or c.args.cols.now c.loop-col.col-index 0) _ c.place_in_window.ensures _ w.in-Some.is in rw (w.sums-is, w.words-is, w.blocks-is) (c.loop-col.invariant.0, simp length-set (omega arith), simp length-set (omega arith), simp length-set (omega arith), outside_more c.args.cols.now _ c.loop-col.col-index _ c.loop-col.invariant.4 _ (omega arith) refl _ p.0 (omega (arith, p.1)))
      | in_default w ↦ let n = unplaced c.args.base (length c.args.sums.now) (get_or c.args.cols.now c.loop-col.col-index 0) _ c.place_in_window.ensures w.in_default.is in rw (w.sums-is, w.words-is, w.blocks-is) (c.loop-col.invariant.0, c.loop-col.invariant.1, c.loop-col.invariant.2, c.loop-col.invariant.3, outside_other c.args.cols.now _ c.loop-col.col-index _ c.loop-col.invariant.4 _ (omega arith) refl (λ b. omega (arith, n b)))
    ]

pub returns : goal.returns
returns c = outside_done c.args.cols.now _ c.loop-col.col-index _ c.loop-col.invariant.4 _ c.loop-col.invariant.1 (omega arith)
