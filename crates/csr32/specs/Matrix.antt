-- A lent plot list.
use Rattle.csr32.specs.declared.matrix.Csr32Matrix.{Csr32Matrix}
use Rattle.csr32.specs.Csr.{Csr, as_csr}

abbrev pub lent_csr : Csr32Matrix → Csr
lent_csr m = as_csr m.nrows m.ncols m.row_ptr.now m.col_idx.now m.values.now
