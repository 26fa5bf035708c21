-- `word::without_bit` meets its contract. Assumes nothing.
use Rattle.word.proofs.OpLaws.{without_is, without_none}
use Rattle.word.proofs.without_bit.Goals as goal

pub returns-then-offset-lt64 : goal.returns-then-offset-lt64
returns-then-offset-lt64 c = without_is c.args.mask c.args.offset c.ranges.mask.fits c.if-offset-lt64.true

pub returns-else-offset-lt64 : goal.returns-else-offset-lt64
returns-else-offset-lt64 c = without_none c.args.mask c.args.offset c.ranges.mask.fits c.if-offset-lt64.false
