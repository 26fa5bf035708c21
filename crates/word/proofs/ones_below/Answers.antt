-- `word::ones_below` meets its contract. Assumes nothing.
use mathlib.Core.Path.{◌∙◌}
use native.Mathlib.Omega.{arith}
use lib.Pow.{pow_pos}
use Rattle.word.proofs.HasLaws.{shl_one}
use Rattle.word.proofs.CountLaws.{low_count, whole-count}
use Rattle.word.proofs.ones_below.Goals as goal

pub overflow_sub-offset : goal.overflow_sub-offset
overflow_sub-offset c = omega (arith, shl_one c.args.offset c.if-offset-lt64.true, pow_pos c.args.offset)

pub returns-then-offset-lt64 : goal.returns-then-offset-lt64
returns-then-offset-lt64 c = c.popcount.ensures ∙ low_count c.args.mask c.args.offset c.if-offset-lt64.true

pub returns-else-offset-lt64 : goal.returns-else-offset-lt64
returns-else-offset-lt64 c = c.popcount-else-offset-lt64.ensures ∙ whole-count c.args.mask c.args.offset c.ranges.mask.fits c.if-offset-lt64.false
