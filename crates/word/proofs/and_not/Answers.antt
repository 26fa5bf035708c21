-- `word::and_not` meets its contract. Assumes nothing.
use Rattle.word.proofs.OpLaws.{and_not_is}
use Rattle.word.proofs.and_not.Goals as goal

pub returns : goal.returns
returns c = and_not_is c.args.a c.args.b c.ranges.a.fits c.ranges.b.fits
