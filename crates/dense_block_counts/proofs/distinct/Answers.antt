-- `dense_block_counts::distinct` meets its contract. Assumes nothing.
use mathlib.Core.Path.{refl}
use mathlib.Core.Bool.{not}
use native.Mathlib.Omega.{arith}
use Rattle.dense_block_counts.proofs.DistinctLaws.{distinct_none, distinct_fits, distinct_place, distinct_more, distinct_done, distinct_empty}
use borrow.Author.Rules.{rules}
use Rattle.dense_block_counts.proofs.distinct.Goals as goal

pub loop-column-init : goal.loop-column-init
loop-column-init c = distinct_none _ _ _ c.args.row.few c.args.row.inside c.requires

pub bounds-bits-col : goal.bounds-bits-col
bounds-bits-col c = distinct_place _ _ _ _ _ c.loop-column.invariant (search rules) _ refl

pub overflow_add-found : goal.overflow_add-found
overflow_add-found c = omega (arith, distinct_fits _ _ _ _ _ c.loop-column.invariant _ (not c.contains_offset.result) c.from-found.ensures)

pub loop-column-preserved : goal.loop-column-preserved
loop-column-preserved c = distinct_more _ _ _ _ _ c.loop-column.invariant (search rules) _ refl _ _ _ c.contains_offset.ensures c.from-found.ensures c.mark.ensures

pub returns : goal.returns
returns c = record { count = distinct_done _ _ _ _ _ c.loop-column.invariant (search rules); bits = distinct_empty _ _ _ _ _ c.loop-column.invariant (search rules) _ c.forget.ensures }
