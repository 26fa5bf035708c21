-- `restricted_local::fill_rows` meets its contract. Assumes nothing.
use mathlib.Core.Path.{refl}
use native.Mathlib.Omega.{arith}
use Rattle.restricted_local.proofs.CountLaws.{columns_lent}
use Rattle.restricted_local.proofs.RowsLaws.{rowing_none, rowing_pointer, rowing_columns, rowing_values, rowing_more, rowing_done}
use Rattle.restricted_local.proofs.fill_rows.Goals as goal

pub invariant_of-checked : goal.invariant_of-checked
invariant_of-checked c = record { valid = c.args.rows.accepted.list_accepted }

pub loop-i-init : goal.loop-i-init
loop-i-init c = rowing_none _ _ _ _ _

pub bounds-out_row_ptr-i : goal.bounds-out_row_ptr-i
bounds-out_row_ptr-i c = rowing_pointer _ _ _ _ _ c.args.rows.accepted c.requires.fits _ _ _ _ _ c.loop-i.invariant

pub keep_row-at-requires : goal.keep_row-at-requires
keep_row-at-requires c = record { inside = (columns_lent c.args.rows.accepted _ _ c.row.ensures.cols _ c.row.ensures.vals).1; columns = rowing_columns _ _ _ _ _ c.args.rows.accepted c.requires.fits _ _ _ _ _ c.loop-i.invariant _ _ _ _ c.args.rows.listed (omega arith) refl c.row.ensures.cols c.row.ensures.vals; values = rowing_values _ _ _ _ _ c.args.rows.accepted c.requires.fits _ _ _ _ _ c.loop-i.invariant _ _ _ _ c.args.rows.listed (omega arith) refl c.row.ensures.cols c.row.ensures.vals }

pub loop-i-preserved : goal.loop-i-preserved
loop-i-preserved c = rowing_more _ _ _ _ _ c.args.rows.accepted c.requires.fits _ _ _ _ _ c.loop-i.invariant _ _ _ _ c.args.rows.listed (omega arith) refl c.row.ensures.cols c.row.ensures.vals _ c.narrow.ensures _ _ _ c.keep_row-at.auto.out_col_idx c.keep_row-at.auto.out_values c.keep_row-at.ensures.columns c.keep_row-at.ensures.values

pub bounds-out_row_ptr-rows : goal.bounds-out_row_ptr-rows
bounds-out_row_ptr-rows c = omega (arith, rowing_pointer _ _ _ _ _ c.args.rows.accepted c.requires.fits _ _ _ _ _ c.loop-i.invariant)

pub returns : goal.returns
returns c = let rest = rowing_done _ _ _ _ _ c.args.rows.accepted c.requires.fits _ _ _ _ _ c.loop-i.invariant _ _ c.args.rows.listed (omega arith) c.narrow-2.ensures in record { pointers = rest.0; columns = rest.1.0; values = rest.1.1 }
