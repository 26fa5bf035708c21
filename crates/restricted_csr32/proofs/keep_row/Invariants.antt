use Rattle.mask.specs.Mask.{active}
use Rattle.csr32.specs.Csr.{Entry}
use Rattle.restricted.proofs.KeepLaws.{Keeping}
use Rattle.mask.specs.Dof.{lent_mask}
use Rattle.restricted_csr32.proofs.keep_row.Given as goal

abbrev pub invariant-loop-place : goal.invariant-loop-place
invariant-loop-place l = Keeping (active (lent_mask l.mask)) (λ (e : Entry). e.0) l.row.cols.now l.row.vals.now l.from l.initial.out_col_idx l.initial.out_values l.place l.at l.out_col_idx l.out_values
