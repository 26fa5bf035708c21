use Prim.Native.Nat.{◌+◌, ◌-◌}
use lib.ListN.{length}
use Rattle.topology_combine.proofs.WriteLaws.{Writing}
use Rattle.topology_combine.proofs.merge_row.Given as goal

abbrev pub invariant-loop-at : goal.invariant-loop-at
invariant-loop-at l = Writing l.rows.operation l.rows.ncols l.rows.row.words.now l.rows.row.masks.now l.rows.other.words.now l.rows.other.masks.now l.from l.initial.out_words l.initial.out_masks l.at l.other_at l.to l.out_words l.out_masks

abbrev pub decreases-loop-at : goal.decreases-loop-at
decreases-loop-at l = length l.rows.row.words.now + length l.rows.other.words.now - (l.at + l.other_at)
