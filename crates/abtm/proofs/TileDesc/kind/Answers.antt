-- `abtm::TileDesc::kind` meets its contract. Assumes nothing.
use Rattle.abtm.proofs.KindLaws.{kind_told}
use Rattle.abtm.proofs.TileDesc.kind.Goals as goal

pub returns : goal.returns
returns c = kind_told _ _ _ c.kind_in.ensures c.ok_or.ensures.value
