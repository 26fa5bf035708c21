use Rattle.restricted_local.proofs.RowsLaws.{Rowing}
use Rattle.csr32.specs.Matrix.{lent_csr}
use Rattle.mask.specs.Dof.{lent_mask}
use Rattle.restricted_local.proofs.fill_rows.Given as goal

abbrev pub invariant-loop-i : goal.invariant-loop-i
invariant-loop-i l = Rowing (lent_csr l.rows.csr) (lent_mask l.rows.region) l.initial.out_row_ptr l.initial.out_col_idx l.initial.out_values l.i l.at l.out_row_ptr l.out_col_idx l.out_values
