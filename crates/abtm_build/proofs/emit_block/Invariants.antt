use mathlib.Core.Path.{◌≡◌}
use Prim.Native.Nat.{◌+◌, ◌*◌, ◌≤◌}
use Rattle.abtm_build.specs.Window.{window_value}
use Rattle.abtm_build.proofs.EmitLaws.{Emitting}
use Rattle.abtm_build.proofs.emit_block.Given as goal

abbrev pub invariant-loop-w : goal.invariant-loop-w
invariant-loop-w l = Emitting l.config (window_value (64 * l.first) l.sums) (l.first + 64 * l.block) (l.first + l.w) l.initial.at l.at l.initial.masks l.masks l.initial.value_offsets l.value_offsets l.initial.metas l.metas l.initial.values l.values
    × (l.end ≡ 64 * l.block + 64) × (64 * l.block ≤ l.w) × (l.w ≤ l.end)
