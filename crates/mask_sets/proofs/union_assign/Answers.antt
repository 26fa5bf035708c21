-- `mask_sets::union_assign` meets its contract, which is that of `combine_assign` at its operation. Assumes nothing.
use Rattle.mask_sets.proofs.union_assign.Goals as goal

pub returns : goal.returns
returns c = record { answer = c.combine_assign.ensures.answer; list = c.combine_assign.ensures.list }
