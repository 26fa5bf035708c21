-- `metadata_first_dot::fill_rows` meets its contract. Assumes nothing.
use native.Mathlib.Omega.{arith}
use Rattle.metadata_first_dot.proofs.CallLaws.{rows_few, columns_few, filling_none, filling_sums, filling_counts, filling_more, filling_totals, filling_numbers}
use Rattle.metadata_first_dot.proofs.fill_rows.Goals as goal

pub loop-row-init : goal.loop-row-init
loop-row-init c = filling_none _ _ _ _ _

pub offset_bounds-sums-row : goal.offset_bounds-sums-row
offset_bounds-sums-row c = let h = rows_few _ _ _ c.args.operands.valid in
    omega (arith, h)

pub bounds-sums-row : goal.bounds-sums-row
bounds-sums-row c = let h = filling_sums _ _ _ _ _ c.requires.0 c.requires.1 _ _ _ c.loop-row.invariant in
    omega (arith, h)

pub offset_bounds-executed-row : goal.offset_bounds-executed-row
offset_bounds-executed-row c = let h = rows_few _ _ _ c.args.operands.valid in
    omega (arith, h)

pub bounds-executed-row : goal.bounds-executed-row
bounds-executed-row c = let h = filling_counts _ _ _ _ _ c.requires.0 c.requires.1 _ _ _ c.loop-row.invariant in
    omega (arith, h)

pub loop-row-preserved : goal.loop-row-preserved
loop-row-preserved c = filling_more _ _ _ _ _ c.requires.0 c.requires.1 _ _ _ c.loop-row.invariant _ _ (columns_few _ _ _ c.args.operands.valid) c.loop-row-test.true c.row_dot-d.ensures c.narrow.ensures

pub shape_of-sums : goal.shape_of-sums
shape_of-sums c = let h = filling_sums _ _ _ _ _ c.requires.0 c.requires.1 _ _ _ c.loop-row.invariant in
    omega (arith, h, c.requires.0)

pub shape_of-executed : goal.shape_of-executed
shape_of-executed c = let h = filling_counts _ _ _ _ _ c.requires.0 c.requires.1 _ _ _ c.loop-row.invariant in
    omega (arith, h, c.requires.1)

pub returns : goal.returns
returns c = let i = c.loop-row.invariant in
    record { sums = filling_totals _ _ _ _ _ c.requires.0 c.requires.1 _ _ _ i (omega arith); counts = filling_numbers _ _ _ _ _ c.requires.0 c.requires.1 _ _ _ i (omega arith) }
