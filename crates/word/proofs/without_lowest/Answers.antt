-- `word::without_lowest` meets its contract. Assumes nothing.
use Rattle.word.proofs.OpLaws.{rest_is, rest-none}
use Rattle.word.proofs.without_lowest.Goals as goal

pub returns-then-bits-eq0 : goal.returns-then-bits-eq0
returns-then-bits-eq0 c = rest-none c.args.bits c.if-bits-eq0.true

pub returns : goal.returns
returns c = rest_is c.args.bits c.ranges.bits.fits c.if-bits-eq0.false
