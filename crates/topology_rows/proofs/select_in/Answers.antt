-- `topology_rows::select_in` meets its contract. Assumes nothing.
use Rattle.word.proofs.BelowLaws.{selected-small}
use Rattle.topology.proofs.FrontLaws.{selecting_none, selecting_more, selecting_at, selecting_gives, selecting_done, placed, at_end}
use Rattle.topology.proofs.RowLaws.{row_is, small_is}
use native.Mathlib.Omega.{arith}
use mathlib.Core.Path.{refl, sym, ◌∙◌}
use borrow.Author.Rules.{rules}
use Rattle.topology_rows.proofs.select_in.Goals as goal

pub loop-k-init : goal.loop-k-init
loop-k-init c = selecting_none _ _ _

pub returns-in_default : goal.returns-in_default
returns-in_default c = selecting_gives _ _ _ _ _ c.loop-k.invariant _ _ (placed _ _ _ _ (row_is _ _ _ c.args.checked.rule (sym c.args.checked.row.paired) (small_is _ c.args.checked.row.masks_fit)) _ _ _ (search rules) refl refl) (sym c.in_default.is ∙ c.select.ensures) (rw (← c.popcount-ones.ensures) c.if-left-ones.true)

pub overflow_mul-base : goal.overflow_mul-base
overflow_mul-base c = let h = (c.shared_slice_known-then-left-ones-2-1.given c.loop-k.k).fits in omega (arith, h)

pub overflow_add-col : goal.overflow_add-col
overflow_add-col c = let e = sym c.in-Some.is ∙ c.select.ensures in let h = (c.shared_slice_known-then-left-ones-2-1.given c.loop-k.k).fits in omega (arith, h, selected-small _ _ _ _ e)

pub returns-then-left-ones : goal.returns-then-left-ones
returns-then-left-ones c = let e = sym c.in-Some.is ∙ c.select.ensures in selecting_at _ _ _ _ _ c.loop-k.invariant _ _ (placed _ _ _ _ (row_is _ _ _ c.args.checked.rule (sym c.args.checked.row.paired) (small_is _ c.args.checked.row.masks_fit)) _ _ _ (search rules) refl refl) _ e (rw (← c.popcount-ones.ensures) c.if-left-ones.true)

pub loop-k-preserved : goal.loop-k-preserved
loop-k-preserved c = rw c.popcount-ones.ensures (selecting_more _ _ _ _ _ c.loop-k.invariant _ _ (placed _ _ _ _ (row_is _ _ _ c.args.checked.rule (sym c.args.checked.row.paired) (small_is _ c.args.checked.row.masks_fit)) _ _ _ (search rules) refl refl) (search rules))

pub returns : goal.returns
returns c = selecting_done _ _ _ _ _ c.loop-k.invariant (at_end _ _ _ _ (row_is _ _ _ c.args.checked.rule (sym c.args.checked.row.paired) (small_is _ c.args.checked.row.masks_fit)) _ (search rules))
