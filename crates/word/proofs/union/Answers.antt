-- `word::union` meets its contract. Assumes nothing.
use Rattle.word.proofs.OpLaws.{union_is}
use Rattle.word.proofs.union.Goals as goal

pub returns : goal.returns
returns c = union_is c.args.a c.args.b c.ranges.a.fits c.ranges.b.fits
