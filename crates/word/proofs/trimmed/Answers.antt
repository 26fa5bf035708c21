-- `word::trimmed` meets its contract. Assumes nothing.
use native.Mathlib.Omega.{arith}
use lib.Pow.{pow_pos}
use Rattle.word.proofs.HasLaws.{shl_one}
use Rattle.word.proofs.OpLaws.{trim_is, trim_none}
use Rattle.word.proofs.trimmed.Goals as goal

pub overflow_sub-result : goal.overflow_sub-result
overflow_sub-result c = omega (arith, shl_one c.args.valid c.if-valid-lt64.true, pow_pos c.args.valid)

pub returns-then-valid-lt64 : goal.returns-then-valid-lt64
returns-then-valid-lt64 c = trim_is c.args.mask c.args.valid c.ranges.mask.fits c.if-valid-lt64.true

pub returns-else-valid-lt64 : goal.returns-else-valid-lt64
returns-else-valid-lt64 c = trim_none c.args.mask c.args.valid c.ranges.mask.fits c.if-valid-lt64.false
