-- `restricted::LocalRegion::storage_bytes` meets its contract. Assumes nothing.
use Rattle.restricted.proofs.FigureLaws.{three-saturated}
use Rattle.restricted.proofs.LocalRegion.storage_bytes.Goals as goal

pub returns : goal.returns
returns c = three-saturated _ _ _ _ _ 4 _ _ _ c.saturating_add.ensures c.saturating_mul-pointers.ensures c.saturating_mul-entries.ensures c.saturating_mul-members.ensures c.saturating_add-2.ensures _ c.saturating_add-3.ensures
