-- `word::lowest` meets its contract. Assumes nothing.
use Rattle.word.proofs.CountLaws.{lowest_fits}
use Rattle.word.proofs.OpLaws.{lowest_is}
use Rattle.word.proofs.lowest.Goals as goal

pub overflow_cast-result : goal.overflow_cast-result
overflow_cast-result c = lowest_fits _

pub returns : goal.returns
returns c = lowest_is c.args.bits c.ranges.bits.fits
