use Rattle.std.proofs.Common.{◌≡◌, ◌+◌, ◌≤◌, length, drop}
use Rattle.lent.specs.Lists.{only}
use Rattle.topology.specs.Words.{set_bits}
use Rattle.abtm_values.specs.Values.{solid}
use Rattle.abtm_check.proofs.RunLaws.{Tested}
use Rattle.abtm_check.proofs.values_hold.Given as goal

abbrev pub invariant-loop-i : goal.invariant-loop-i
invariant-loop-i l = Tested l.tiles.matrix.masks.now l.tiles.matrix.value_offsets.now l.tiles.matrix.metas.now l.values l.i × (l.tiles.matrix.matrix_nnz ≡ set_bits l.tiles.matrix.masks.now) × (l.done.upto ≤ length l.values) × (length (only solid l.values) ≡ l.done.solid + length (only solid (drop l.done.upto l.values)))
