-- `metadata_first::AbtmMetadataFirstMatrix::row_values` meets its contract. Assumes nothing.
use mathlib.Core.Path.{refl}
use native.Mathlib.Omega.{arith}
use Rattle.hybit_core.proofs.AnswerLaws.{given_accepted}
use Rattle.lent.proofs.ListLaws.{part_lent}
use Rattle.metadata_first.proofs.CallLaws.{row_checked}
use Rattle.metadata_first.proofs.matrix.AbtmMetadataFirstMatrix.row_values.Goals as goal

pub offset_bounds-self-row : goal.offset_bounds-self-row
offset_bounds-self-row c = let k = row_checked _ _ _ c.check_row.ensures c.in_ok-check_row.was in omega (arith, k.facts.words_facts.rows_in, k.here)

pub bounds-self-row : goal.bounds-self-row
bounds-self-row c = (row_checked _ _ _ c.check_row.ensures c.in_ok-check_row.was).values.here

pub overflow_add-end : goal.overflow_add-end
overflow_add-end c = let k = row_checked _ _ _ c.check_row.ensures c.in_ok-check_row.was in omega (arith, k.facts.words_facts.rows_in, k.here)

pub offset_bounds-self-row-2 : goal.offset_bounds-self-row-2
offset_bounds-self-row-2 c = let k = row_checked _ _ _ c.check_row.ensures c.in_ok-check_row.was in omega (arith, k.facts.words_facts.rows_in, k.here)

pub bounds-self-row-2 : goal.bounds-self-row-2
bounds-self-row-2 c = (row_checked _ _ _ c.check_row.ensures c.in_ok-check_row.was).values.next

pub offset_bounds-self-start : goal.offset_bounds-self-start
offset_bounds-self-start c = let k = row_checked _ _ _ c.check_row.ensures c.in_ok-check_row.was in omega (arith, k.values.order, k.values.inside, k.facts.values_in)

pub slice_bounds-result-count : goal.slice_bounds-result-count
slice_bounds-result-count c = let k = row_checked _ _ _ c.check_row.ensures c.in_ok-check_row.was in omega (arith, k.values.order)

pub slice_bounds-result-start : goal.slice_bounds-result-start
slice_bounds-result-start c = let k = row_checked _ _ _ c.check_row.ensures c.in_ok-check_row.was in omega (arith, k.values.order)

pub slice_bounds-result-end : goal.slice_bounds-result-end
slice_bounds-result-end c = let k = row_checked _ _ _ c.check_row.ensures c.in_ok-check_row.was in omega (arith, k.values.inside)

pub returns : goal.returns
returns c = given_accepted _ _ _ _ c.check_row.ensures c.in_ok-check_row.was (part_lent _ _ _ _ _ refl refl)
