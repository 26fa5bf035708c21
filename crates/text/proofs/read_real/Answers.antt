-- `text::read_real` meets its contract. Assumes nothing.
use Rattle.std.proofs.Common.{rules}
use Rattle.text.specs.Numbers.{negated}
use Rattle.text.proofs.DecimalLaws.{real_minus, real_plain}
use Rattle.text.proofs.read_real.Goals as goal

pub returns-in-Some : goal.returns-in-Some
unfolding negated
returns-in-Some c = real_minus _ _ _ _ (search rules) (search rules) c.unsigned.ensures (search rules)

pub returns-in-None : goal.returns-in-None
returns-in-None c = real_plain _ _ (search rules) c.unsigned-in-None.ensures
