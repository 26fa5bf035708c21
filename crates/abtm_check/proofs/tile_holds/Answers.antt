-- `abtm_check::tile_holds` meets its contract. Assumes nothing.
use Rattle.std.proofs.Common.{arith}
use Rattle.abtm.proofs.PlaceLaws.{slots_small}
use Rattle.abtm_check.proofs.tile_holds.Goals as goal

pub overflow_add-result : goal.overflow_add-result
overflow_add-result c = omega (arith, slots_small _ _ _ c.slot_count.ensures)
