use mathlib.Core.List.{zip}
use mathlib.Core.Path.{◌≡◌}
use Prim.Native.Nat.{◌+◌, ◌-◌, ◌/◌}
use lib.ListN.{length, replicate}
use Rattle.hybit_core.specs.Floats.{zero64}
use Rattle.abtm_values.specs.Values.{merged_nonzero}
use Rattle.abtm_build.proofs.EmitLaws.{Emitting}
use Rattle.abtm_build.proofs.FillLaws.{Passed}
use Rattle.abtm_build.proofs.fill_row.Given as goal

abbrev pub invariant-loop-next : goal.invariant-loop-next
invariant-loop-next l = Emitting l.config (merged_nonzero (zip l.row.cols.now l.row.vals.now)) 0 (l.next / 64) l.initial.at l.at l.initial.masks l.masks l.initial.value_offsets l.value_offsets l.initial.metas l.metas l.initial.values l.values
    × (l.past ≡ l.row.ncols + length l.initial.sums) × (length l.sums ≡ length l.initial.sums) × (length l.words ≡ length l.initial.words) × (length l.blocks ≡ length l.initial.blocks)
    × (l.sums ≡ replicate (length l.initial.sums) zero64) × Passed (merged_nonzero (zip l.row.cols.now l.row.vals.now)) l.next

abbrev pub decreases-loop-next : goal.decreases-loop-next
decreases-loop-next l = l.row.ncols - l.next
