-- `abtm_check::compact_holds` meets its contract. Assumes nothing.
use Rattle.std.proofs.Common.{arith}
use Rattle.word.proofs.CountLaws.{ones-few}
use Rattle.abtm_check.proofs.CompactLaws.{compact_is}
use Rattle.abtm_check.proofs.compact_holds.Goals as goal

pub overflow_add-result : goal.overflow_add-result
overflow_add-result c = omega (arith, ones-few _ _ c.popcount.ensures)

pub returns : goal.returns
returns c = compact_is c.args.tile.mask c.args.tile.meta c.args.tile.value_offset _ _ c.popcount.ensures
