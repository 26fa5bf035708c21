-- `abtm_values::is_plus_zero` meets its contract. Assumes nothing.
use Rattle.abtm_values.proofs.ValueLaws.{zero_is_number, zero_is_plus, not_plus}
use Rattle.abtm_values.proofs.is_plus_zero.Goals as goal

pub float_to_bits-result : goal.float_to_bits-result
float_to_bits-result c = zero_is_number _ c.if-v.true

pub returns-then-v : goal.returns-then-v
returns-then-v c = zero_is_plus _ c.if-v.true

pub returns : goal.returns
returns c = not_plus _ c.if-v.false
