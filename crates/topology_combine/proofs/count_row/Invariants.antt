use Prim.Native.Nat.{◌+◌, ◌-◌}
use lib.ListN.{length}
use Rattle.topology_combine.proofs.MergeLaws.{Merging}
use Rattle.topology_combine.proofs.count_row.Given as goal

abbrev pub invariant-loop-at : goal.invariant-loop-at
invariant-loop-at l = Merging l.rows.operation l.rows.ncols l.rows.row.words.now l.rows.row.masks.now l.rows.other.words.now l.rows.other.masks.now l.at l.other_at l.count

abbrev pub decreases-loop-at : goal.decreases-loop-at
decreases-loop-at l = length l.rows.row.words.now + length l.rows.other.words.now - (l.at + l.other_at)
