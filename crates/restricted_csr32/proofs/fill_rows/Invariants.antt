use Rattle.restricted_csr32.proofs.FillLaws.{kept_row, Filling}
use Rattle.csr32.specs.Matrix.{lent_csr}
use Rattle.mask.specs.Dof.{lent_mask}
use Rattle.restricted_csr32.proofs.fill_rows.Given as goal

abbrev pub invariant-loop-row : goal.invariant-loop-row
invariant-loop-row l = Filling (kept_row (lent_csr l.csr) (lent_mask l.mask)) l.initial.out_row_ptr l.initial.out_col_idx l.initial.out_values l.row l.at l.out_row_ptr l.out_col_idx l.out_values
