use Rattle.metadata_first_build.proofs.RowsLaws.{Packing}
use Rattle.csr32.specs.Matrix.{lent_csr}
use Rattle.metadata_first_build.proofs.pack_rows.Given as goal

abbrev pub invariant-loop-row : goal.invariant-loop-row
invariant-loop-row l = Packing (lent_csr l.source.csr.matrix) l.initial.bits l.initial.starts l.row l.at l.bits l.starts l.row_value_ptr l.packed
