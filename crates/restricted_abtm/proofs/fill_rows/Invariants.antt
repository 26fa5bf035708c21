use Rattle.restricted_abtm.proofs.FillLaws.{Filling}
use Rattle.abtm.specs.Matrix.{lent_tiles}
use Rattle.restricted_abtm.proofs.fill_rows.Given as goal

abbrev pub invariant-loop-row : goal.invariant-loop-row
invariant-loop-row l = Filling (lent_tiles l.tiles) l.mask.len l.mask.words.now l.room l.initial.out_row_ptr l.initial.out_col_idx l.initial.out_values l.row l.at l.out_row_ptr l.out_col_idx l.out_values
