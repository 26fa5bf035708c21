-- `dense_block_build::row_slots` meets its contract. Assumes nothing.
use mathlib.Core.Path.{refl}
use Rattle.dense_block_build.proofs.SlotLaws.{slotting_inside}
use borrow.Author.Rules.{rules}
use Rattle.dense_block_build.proofs.row_slots.Goals as goal

pub overflow_sub-ncols : goal.overflow_sub-ncols
overflow_sub-ncols c = let h = slotting_inside _ _ _ _ c.args.size c.width-width.ensures _ _ c.loop-block.invariant c.loop-block-test.true _ refl c.requires.columns.1 in
    search rules
