-- `abtm_values::is_zero` meets its contract. Assumes nothing.
use Rattle.abtm_values.proofs.ZeroLaws.{eq-zero}
use Rattle.abtm_values.proofs.is_zero.Goals as goal

pub returns : goal.returns
returns c = eq-zero _
