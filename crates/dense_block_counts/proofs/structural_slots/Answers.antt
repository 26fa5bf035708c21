-- `dense_block_counts::structural_slots` meets its contract. Assumes nothing.
use borrow.Author.Rules.{rules}
use Rattle.dense_block.specs.Blocks.{structural_slots}
use Rattle.hybit_core.proofs.HandedLaws.{handed_refused, handed_value}
use Rattle.dense_block_counts.proofs.structural_slots.Goals as goal

pub returns-in_err-checked : goal.returns-in_err-checked
returns-in_err-checked c = handed_refused _ _ _ _ c.checked.ensures structural_slots _ _ c.in_err-checked.was (search rules)

pub returns : goal.returns
returns c = handed_value _ _ _ _ c.checked.ensures structural_slots _ _ c.in_ok-checked.was c.count_structural.ensures
