-- `mask_build::with_value` meets its contract. Assumes nothing.
use Rattle.mask.proofs.CallLaws.{value_on, value_off}
use Rattle.mask_build.proofs.with_value.Goals as goal

pub returns-then-value : goal.returns-then-value
returns-then-value c = value_on _ _ _ _ c.if-value.true c.with_bit.ensures

pub returns-else-value : goal.returns-else-value
returns-else-value c = value_off _ _ _ _ c.if-value.false c.without_bit.ensures
