-- `text::read_whole` meets its contract. Assumes nothing.
use borrow.Author.Rules.{rules}
use native.Mathlib.Omega.{arith}
use Rattle.hybit_core.proofs.BoolLaws.{flag_off, flag_on}
use Rattle.text.proofs.NumberLaws.{whole-none, whole_long, reading_none, reading_fits, reading_more, reading_fails, reading_done}
use Rattle.text.specs.Numbers.{digit}
use Rattle.text.proofs.read_whole.Goals.{then-is_empty-via-then-is_empty, then-is_empty-via-else-is_empty+then-word-gt15}
use Rattle.text.proofs.read_whole.Goals as goal

pub returns-then-is_empty : goal.returns-then-is_empty
returns-then-is_empty c = elim c.then-is_empty.branch [ then-is_empty-via-then-is_empty w ↦ search (whole-none, rules) | then-is_empty-via-else-is_empty+then-word-gt15 w ↦ whole_long _ (omega arith) ]

pub loop-b-init : goal.loop-b-init
loop-b-init c = reading_none _

pub returns-then-not-is_ascii_digit : goal.returns-then-not-is_ascii_digit
unfolding digit
returns-then-not-is_ascii_digit c = search (reading_fails, flag_off, rules)

pub overflow_mul-value : goal.overflow_mul-value
overflow_mul-value c = omega (arith, reading_fits _ _ _ c.loop-b.invariant (omega arith) (omega arith))

pub overflow_add-value : goal.overflow_add-value
overflow_add-value c = omega (arith, reading_fits _ _ _ c.loop-b.invariant (omega arith) (omega arith))

pub loop-b-preserved : goal.loop-b-preserved
unfolding digit
loop-b-preserved c = search (reading_more, flag_on, rules)

pub returns : goal.returns
returns c = search (reading_done, rules)
