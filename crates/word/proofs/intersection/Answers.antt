-- `word::intersection` meets its contract. Assumes nothing.
use Rattle.word.proofs.OpLaws.{intersection_is}
use Rattle.word.proofs.intersection.Goals as goal

pub returns : goal.returns
returns c = intersection_is c.args.a c.args.b c.ranges.a.fits c.ranges.b.fits
