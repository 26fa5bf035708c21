-- `word::with_bit` meets its contract. Assumes nothing.
use Rattle.word.proofs.OpLaws.{with_is, with_none}
use Rattle.word.proofs.with_bit.Goals as goal

pub returns-then-offset-lt64 : goal.returns-then-offset-lt64
returns-then-offset-lt64 c = with_is c.args.mask c.args.offset c.ranges.mask.fits c.if-offset-lt64.true

pub returns-else-offset-lt64 : goal.returns-else-offset-lt64
returns-else-offset-lt64 c = with_none c.args.mask c.args.offset c.ranges.mask.fits c.if-offset-lt64.false
