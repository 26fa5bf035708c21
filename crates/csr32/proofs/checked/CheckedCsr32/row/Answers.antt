-- `csr32::CheckedCsr32::row` meets its contract. Assumes nothing.
use mathlib.Core.Path.{refl}
use native.Mathlib.Omega.{arith}
use Rattle.lent.proofs.ListLaws.{part_lent}
use Rattle.csr32.proofs.CsrLaws.{valid, row_of, row_of_values, cut_columns, cut_sides}
use Rattle.csr32.proofs.FrameLaws.{part_after}
use Rattle.lent.specs.Lists as lists
use Rattle.csr32.proofs.checked.CheckedCsr32.row.Goals as goal

pub invariant_of-result : goal.invariant_of-result
unfolding lists.every
invariant_of-result c = record { few = (valid _ c.args.self.valid).cols_in; inside = refl; paired = refl }

pub returns-then-row-matrix-clause-cols : goal.returns-then-row-matrix-clause-cols
returns-then-row-matrix-clause-cols c = part_after _ _ _ _ _ (valid _ c.args.self.valid).frame c.if-row-matrix.true

pub returns-then-row-matrix-clause-vals : goal.returns-then-row-matrix-clause-vals
returns-then-row-matrix-clause-vals c = part_after _ _ _ _ _ (valid _ c.args.self.valid).frame c.if-row-matrix.true

pub offset_bounds-matrix-row : goal.offset_bounds-matrix-row
offset_bounds-matrix-row c = omega (arith, (valid _ c.args.self.valid).rows_in, c.if-row-matrix.false)

pub bounds-matrix-row : goal.bounds-matrix-row
bounds-matrix-row c = (row_of (valid _ c.args.self.valid) (omega (arith, c.if-row-matrix.false))).here

pub offset_bounds-matrix-row-2 : goal.offset_bounds-matrix-row-2
offset_bounds-matrix-row-2 c = omega (arith, (valid _ c.args.self.valid).rows_in, c.if-row-matrix.false)

pub bounds-matrix-row-2 : goal.bounds-matrix-row-2
bounds-matrix-row-2 c = (row_of (valid _ c.args.self.valid) (omega (arith, c.if-row-matrix.false))).next

pub slice_bounds-cols-count : goal.slice_bounds-cols-count
slice_bounds-cols-count c = (row_of (valid _ c.args.self.valid) (omega (arith, c.if-row-matrix.false))).order

pub slice_bounds-cols-start : goal.slice_bounds-cols-start
slice_bounds-cols-start c = (row_of (valid _ c.args.self.valid) (omega (arith, c.if-row-matrix.false))).order

pub slice_bounds-cols-end : goal.slice_bounds-cols-end
slice_bounds-cols-end c = (row_of (valid _ c.args.self.valid) (omega (arith, c.if-row-matrix.false))).inside

pub slice_bounds-vals-count : goal.slice_bounds-vals-count
slice_bounds-vals-count c = (row_of (valid _ c.args.self.valid) (omega (arith, c.if-row-matrix.false))).order

pub slice_bounds-vals-start : goal.slice_bounds-vals-start
slice_bounds-vals-start c = (row_of (valid _ c.args.self.valid) (omega (arith, c.if-row-matrix.false))).order

pub slice_bounds-vals-end : goal.slice_bounds-vals-end
slice_bounds-vals-end c = (row_of_values (valid _ c.args.self.valid) (omega (arith, c.if-row-matrix.false))).inside

pub invariant_of-result-2-clause-few : goal.invariant_of-result-2-clause-few
invariant_of-result-2-clause-few c = (valid _ c.args.self.valid).cols_in

pub invariant_of-result-2-clause-inside : goal.invariant_of-result-2-clause-inside
invariant_of-result-2-clause-inside c = cut_columns (valid _ c.args.self.valid) _

pub invariant_of-result-2-clause-paired : goal.invariant_of-result-2-clause-paired
invariant_of-result-2-clause-paired c = cut_sides (valid _ c.args.self.valid) _

pub returns-clause-cols : goal.returns-clause-cols
returns-clause-cols c = part_lent _ _ _ _ _ refl refl

pub returns-clause-vals : goal.returns-clause-vals
returns-clause-vals c = part_lent _ _ _ _ _ refl refl
