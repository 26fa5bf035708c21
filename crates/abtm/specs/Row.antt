-- The tiles of a lent row.
use mathlib.Core.List.{List, zip}
use Rattle.abtm.specs.declared.row.TileRow.{TileRow}
use Rattle.abtm.specs.Tiles.{Listed}

abbrev pub listed_of : TileRow → List Listed
listed_of r = zip r.masks.now (zip r.value_offsets.now r.metas.now)
