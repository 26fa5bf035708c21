-- `word::contains_offset` meets its contract. Assumes nothing.
use mathlib.Core.Path.{sym}
use Rattle.word.proofs.HasLaws.{has_test, has-past}
use Rattle.word.proofs.contains_offset.Goals as goal

pub returns-then-offset-lt64 : goal.returns-then-offset-lt64
returns-then-offset-lt64 c = has_test c.args.mask c.args.offset c.if-offset-lt64.true

pub returns-else-offset-lt64 : goal.returns-else-offset-lt64
returns-else-offset-lt64 c = sym (has-past 64 c.args.mask c.args.offset c.ranges.mask.fits c.if-offset-lt64.false)
