-- `demand_examine::examine_question` meets its contract. Assumes nothing.
use Rattle.demand_examine.proofs.CheckLaws.{mask_wrong, vector_wrong, row_outside, merge_told}
use Rattle.demand_examine.proofs.examine_question.Goals as goal

pub returns-then-mask-csr : goal.returns-then-mask-csr
returns-then-mask-csr c = mask_wrong _ _ _ _ c.if-mask-csr.true

pub returns-then-x-csr : goal.returns-then-x-csr
returns-then-x-csr c = vector_wrong _ _ _ _ c.if-mask-csr.false c.if-x-csr.true

pub returns-then-row-csr : goal.returns-then-row-csr
returns-then-row-csr c = row_outside _ _ _ _ c.if-mask-csr.false c.if-x-csr.false c.if-row-csr.true

pub returns : goal.returns
returns c = merge_told _ _ _ _ c.if-mask-csr.false c.if-x-csr.false c.if-row-csr.false c.requires _ c.check.ensures
