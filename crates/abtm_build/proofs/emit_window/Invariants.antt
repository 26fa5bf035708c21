use Prim.Native.Nat.{◌+◌, ◌*◌, ◌≤◌}
use lib.ListN.{length}
use Rattle.abtm_build.specs.Window.{window_value}
use Rattle.abtm_build.proofs.EmitLaws.{Emitting}
use Rattle.abtm_build.proofs.emit_window.Given as goal

abbrev pub invariant-loop-b : goal.invariant-loop-b
invariant-loop-b l = Emitting l.config (window_value (64 * l.first) l.sums) l.first (l.first + 64 * l.b) l.initial.at l.at l.initial.masks l.masks l.initial.value_offsets l.value_offsets l.initial.metas l.metas l.initial.values l.values
    × (l.b ≤ length l.blocks)
