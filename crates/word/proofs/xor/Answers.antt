-- `word::xor` meets its contract. Assumes nothing.
use Rattle.word.proofs.OpLaws.{xor_is}
use Rattle.word.proofs.xor.Goals as goal

pub returns : goal.returns
returns c = xor_is c.args.a c.args.b c.ranges.a.fits c.ranges.b.fits
