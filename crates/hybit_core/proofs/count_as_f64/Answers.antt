-- `hybit_core::count_as_f64` meets its contract, which is std's. Assumes nothing.
use Rattle.hybit_core.specs.Floats.{count_as_float}
use Rattle.hybit_core.proofs.count_as_f64.Goals as goal

pub returns : goal.returns
unfolding count_as_float
returns c = c.nearest_u64_to_f64.ensures
