-- `word::popcount` meets its contract. Assumes nothing.
use native.Mathlib.Omega.{arith}
use Rattle.word.proofs.CountLaws.{ones-all, ones_fits}
use Rattle.word.proofs.popcount.Goals as goal

pub overflow_cast-result : goal.overflow_cast-result
overflow_cast-result c = ones_fits _ (omega (arith, c.ranges.mask))

pub returns : goal.returns
returns c = ones-all c.args.mask 64 c.ranges.mask.fits
