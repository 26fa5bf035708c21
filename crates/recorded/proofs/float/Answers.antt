-- `recorded::float` meets its contract: a float that equals itself is no NaN, so it has bits. Assumes nothing.
use Rattle.hybit_core.proofs.FloatLaws.{equals_itself}
use Rattle.recorded.proofs.float.Goals as goal

pub float_to_bits-x : goal.float_to_bits-x
float_to_bits-x c = equals_itself c.args.x c.if-x.true
