-- The entries of a lent row: columns and values.
use mathlib.Core.List.{List, zip}
use Rattle.csr32.specs.declared.checked.CsrRow.{CsrRow}
use Rattle.csr32.specs.Csr.{Entry}

abbrev pub entries_of : CsrRow → List Entry
entries_of r = zip r.cols.now r.vals.now
