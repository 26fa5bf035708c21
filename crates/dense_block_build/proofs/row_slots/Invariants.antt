use Rattle.dense_block_build.proofs.SlotLaws.{Slotting}
use Rattle.dense_block_build.proofs.row_slots.Given as goal

abbrev pub invariant-loop-block : goal.invariant-loop-block
invariant-loop-block l = Slotting l.width l.ncols l.rows l.cols l.block-index l.slots
