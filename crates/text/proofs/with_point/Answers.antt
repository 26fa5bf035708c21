-- `text::with_point` meets its contract. Assumes nothing.
use borrow.Author.Rules.{rules}
use native.Mathlib.Omega.{arith}
use Rattle.text.proofs.DecimalLaws.{parts_before, parts_behind, parts_long, parts-small, parts-good}
use Rattle.text.proofs.with_point.Goals as goal

pub returns-in_err-a : goal.returns-in_err-a
returns-in_err-a c = rw c.from_residual.ensures (search (parts_before, rules))

pub returns-in_err-b : goal.returns-in_err-b
returns-in_err-b c = rw c.from_residual-in_err-b.ensures (search (parts_behind, rules))

pub returns-then-before-behind-gt15 : goal.returns-then-before-behind-gt15
returns-then-before-behind-gt15 c = search (parts_long, rules)

pub overflow_mul-a : goal.overflow_mul-a
overflow_mul-a c = omega (arith, parts-small _ _ _ _ _ _ _ c.read_whole.ensures c.in_ok-a.was c.read_whole-2.ensures c.in_ok-b.was (omega arith) c.pow-power.ensures)

pub overflow_add-a : goal.overflow_add-a
overflow_add-a c = omega (arith, parts-small _ _ _ _ _ _ _ c.read_whole.ensures c.in_ok-a.was c.read_whole-2.ensures c.in_ok-b.was (omega arith) c.pow-power.ensures)

pub returns : goal.returns
returns c = parts-good _ _ _ _ _ _ _ c.read_whole.ensures c.in_ok-a.was c.read_whole-2.ensures c.in_ok-b.was (omega arith) c.pow-power.ensures _ c.ratio.ensures
