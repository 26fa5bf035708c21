-- `metadata_first_merge::add_window` meets its contract. Assumes nothing.
use mathlib.Core.Path.{refl}
use native.Mathlib.Omega.{arith}
use lib.ListN.{length, length-set}
use Rattle.csr32.proofs.WindowLaws.{placed, unplaced}
use Rattle.metadata_first_merge.proofs.WindowLaws.{summed-none, summed_other, summed_more, summed_done}
use Rattle.metadata_first_merge.proofs.add_window.Goals.{in-Some, in_default}
use Rattle.metadata_first_merge.proofs.add_window.Goals as goal

pub loop-k-init : goal.loop-k-init
loop-k-init c = (refl, refl, summed-none _ _ _ _ _ c.requires)

pub loop-k-preserved : goal.loop-k-preserved
loop-k-preserved c =
    elim c.match-place_in_window.branch [
      | in-Some w ↦ let p = placed c.args.base (length c.args.sums.now) _ _ c.place_in_window.ensures _ w.in-Some.is in rw w.sums-is (c.loop-k.invariant.0, simp length-set (omega arith), summed_more _ _ _ _ _ _ c.loop-k.invariant.2 _ (omega arith) c.args.row.paired refl _ p.0 p.1)
      | in_default w ↦ let n = unplaced c.args.base (length c.args.sums.now) _ _ c.place_in_window.ensures w.in_default.is in rw w.sums-is (c.loop-k.invariant.0, c.loop-k.invariant.1, summed_other _ _ _ _ _ _ c.loop-k.invariant.2 _ (omega arith) c.args.row.paired refl n)
    ]

pub returns : goal.returns
returns c = summed_done _ _ _ _ _ _ c.loop-k.invariant.2 (omega arith) c.args.row.paired
