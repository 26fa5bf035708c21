use mathlib.Core.Path.{◌≡◌}
use Prim.Native.Nat.{◌≤◌}
use lib.ListN.{length}
use Rattle.abtm_build.specs.Window.{Marked}
use Rattle.abtm_build.proofs.WindowLaws.{Gathered}
use Rattle.abtm_build.proofs.gather.Given as goal

abbrev pub invariant-loop-k : goal.invariant-loop-k
invariant-loop-k l = (l.width ≡ length l.initial.sums) × (length l.sums ≡ length l.initial.sums) × (length l.words ≡ length l.initial.words) × (length l.blocks ≡ length l.initial.blocks) × (l.next ≤ l.past)
    × Marked 64 l.sums l.words × Marked 4096 l.sums l.blocks × Gathered l.row.cols.now l.row.vals.now l.base (length l.initial.sums) l.k l.sums l.next
