-- `topology_rows::rank_in` meets its contract. Assumes nothing.
use Rattle.topology.proofs.FrontLaws.{ranking_none, ranking_more, ranking_fits, ranking_at, ranking_small, ranking_past, ranking_done, placed, at_end}
use Rattle.topology.proofs.RowLaws.{row_is, small_is}
use native.Mathlib.Omega.{arith}
use Prim.Native.Nat.{◌+◌}
use mathlib.Core.Path.{refl, sym, ap, ◌∙◌}
use borrow.Author.Rules.{rules}
use Rattle.topology_rows.proofs.rank_in.Goals as goal

pub loop-i-init : goal.loop-i-init
loop-i-init c = ranking_none _ _ _

pub returns-then-index-target : goal.returns-then-index-target
returns-then-index-target c = ranking_past _ _ _ _ _ c.loop-i.invariant _ _ (placed _ _ _ _ (row_is _ _ _ c.args.checked.rule (sym c.args.checked.row.paired) (small_is _ c.args.checked.row.masks_fit)) _ _ _ (search rules) refl refl) c.requires c.if-index-target.true

pub overflow_add-result : goal.overflow_add-result
overflow_add-result c = let q = ranking_small _ _ _ _ _ c.loop-i.invariant _ _ (placed _ _ _ _ (row_is _ _ _ c.args.checked.rule (sym c.args.checked.row.paired) (small_is _ c.args.checked.row.masks_fit)) _ _ _ (search rules) refl refl) c.requires c.if-index-target-2.true in omega (arith, q, c.ones_below.ensures, c.ranges.col.fits)

pub returns-then-index-target-2 : goal.returns-then-index-target-2
returns-then-index-target-2 c = ap (λ j. c.loop-i.rank + j) c.ones_below.ensures ∙ ranking_at _ _ _ _ _ c.loop-i.invariant _ _ (placed _ _ _ _ (row_is _ _ _ c.args.checked.rule (sym c.args.checked.row.paired) (small_is _ c.args.checked.row.masks_fit)) _ _ _ (search rules) refl refl) c.requires c.if-index-target-2.true

pub overflow_add-rank : goal.overflow_add-rank
overflow_add-rank c = let q = ranking_fits _ _ _ _ _ c.loop-i.invariant _ _ (placed _ _ _ _ (row_is _ _ _ c.args.checked.rule (sym c.args.checked.row.paired) (small_is _ c.args.checked.row.masks_fit)) _ _ _ (search rules) refl refl) in omega (arith, q, c.popcount-rank.ensures)

pub loop-i-preserved : goal.loop-i-preserved
loop-i-preserved c = rw c.popcount-rank.ensures (ranking_more _ _ _ _ _ c.loop-i.invariant _ _ (placed _ _ _ _ (row_is _ _ _ c.args.checked.rule (sym c.args.checked.row.paired) (small_is _ c.args.checked.row.masks_fit)) _ _ _ (search rules) refl refl) (search rules))

pub returns : goal.returns
returns c = ranking_done _ _ _ _ _ c.loop-i.invariant c.requires (at_end _ _ _ _ (row_is _ _ _ c.args.checked.rule (sym c.args.checked.row.paired) (small_is _ c.args.checked.row.masks_fit)) _ (search rules))
