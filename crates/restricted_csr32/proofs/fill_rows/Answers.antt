-- `restricted_csr32::fill_rows` meets its contract. Assumes nothing.
use mathlib.Core.Path.{refl}
use native.Mathlib.Omega.{arith}
use Rattle.restricted_csr32.proofs.FillLaws.{restrict_list, restrict_facts, filling_none, filling_column, filling_value, filling_more, done_count, done_pointers, done_columns, done_values}
use Rattle.restricted_csr32.proofs.fill_rows.Goals as goal

pub invariant_of-checked : goal.invariant_of-checked
invariant_of-checked c = record { valid = restrict_list _ _ _ c.requires }

pub loop-row-init : goal.loop-row-init
loop-row-init c = filling_none _ _ _ _

pub bounds-out_row_ptr-row : goal.bounds-out_row_ptr-row
bounds-out_row_ptr-row c = let f = restrict_facts _ _ _ c.requires in
    omega (arith, f.pointers)

pub keep_row-at-requires-clause-columns : goal.keep_row-at-requires-clause-columns
keep_row-at-requires-clause-columns c = filling_column _ _ _ _ _ _ _ _ _ _ c.loop-row.invariant _ (restrict_facts _ _ _ c.requires) (omega arith) _ _ c.row.ensures.cols c.row.ensures.vals refl

pub keep_row-at-requires-clause-values : goal.keep_row-at-requires-clause-values
keep_row-at-requires-clause-values c = filling_value _ _ _ _ _ _ _ _ _ _ c.loop-row.invariant _ (restrict_facts _ _ _ c.requires) (omega arith) _ _ c.row.ensures.cols c.row.ensures.vals refl

pub loop-row-preserved : goal.loop-row-preserved
loop-row-preserved c = let f = restrict_facts _ _ _ c.requires in
    filling_more _ _ _ _ _ _ _ _ _ _ c.loop-row.invariant _ f (omega arith) _ _ c.row.ensures.cols c.row.ensures.vals _ c.narrow.ensures refl _ _ _ c.keep_row-at.ensures.columns c.keep_row-at.ensures.values c.keep_row-at.auto.out_col_idx c.keep_row-at.auto.out_values

pub bounds-out_row_ptr-csr : goal.bounds-out_row_ptr-csr
bounds-out_row_ptr-csr c = let f = restrict_facts _ _ _ c.requires in
    omega (arith, f.pointers)

pub returns-clause-kept : goal.returns-clause-kept
returns-clause-kept c = done_count _ _ _ _ _ _ _ _ _ _ c.loop-row.invariant _ (restrict_facts _ _ _ c.requires) (omega arith) (omega arith)

pub returns-clause-pointers : goal.returns-clause-pointers
returns-clause-pointers c = done_pointers _ _ _ _ _ _ _ _ _ _ c.loop-row.invariant _ (restrict_facts _ _ _ c.requires) (omega arith) (omega arith) _ c.narrow-2.ensures refl

pub returns-clause-columns : goal.returns-clause-columns
returns-clause-columns c = done_columns _ _ _ _ _ _ _ _ _ _ c.loop-row.invariant _ (restrict_facts _ _ _ c.requires) (omega arith) (omega arith)

pub returns-clause-values : goal.returns-clause-values
returns-clause-values c = done_values _ _ _ _ _ _ _ _ _ _ c.loop-row.invariant _ (restrict_facts _ _ _ c.requires) (omega arith) (omega arith)
