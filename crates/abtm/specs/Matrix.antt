-- Lent tiles.
use mathlib.Core.List.{List, zip}
use Rattle.abtm.specs.declared.matrix.AbtmMatrix.{AbtmMatrix}
use Rattle.abtm.specs.Tiles.{Tiles, Listed, as_tiles}

abbrev pub lent_tiles : AbtmMatrix → Tiles
lent_tiles t = as_tiles t.nrows t.ncols t.row_tile_ptr.now t.masks.now t.value_offsets.now t.metas.now t.values.now t.matrix_nnz

-- all of them, as they are listed
abbrev pub all_listed : AbtmMatrix → List Listed
all_listed t = zip t.masks.now (zip t.value_offsets.now t.metas.now)
