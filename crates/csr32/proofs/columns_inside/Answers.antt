-- `csr32::columns_inside` meets its contract. Assumes nothing.
use Rattle.csr32.proofs.ScanLaws.{columns_narrow}
use Rattle.csr32.proofs.columns_inside.Goals as goal

pub returns : goal.returns
returns c = columns_narrow _ _ _ _ c.requires c.narrow.ensures c.columns_below.ensures
