-- `hybit_core::is_finite` meets its contract. Assumes nothing.
use lib.Ieee.{neg, div, of_bits}
use Rattle.hybit_core.proofs.FloatLaws.{finite-below, finite-not-below}
use Rattle.hybit_core.proofs.is_finite.Goals as goal

pub returns-then-x-inf : goal.returns-then-x-inf
unfolding neg div of_bits
returns-then-x-inf c = finite-below c.args.x c.if-x-inf.true

pub returns-else-x-inf : goal.returns-else-x-inf
unfolding neg div of_bits
returns-else-x-inf c = finite-not-below c.args.x c.if-x-inf.false
