-- The tiles of a plot list (document 01, "Tiles").
use Rattle.std.specs.Prelude.{ℕ, suc, Bool, not, ◌&&◌, leb, ltb, length}
use Rattle.hybit_core.specs.Answer.{Answer, demand, ◌and_then◌}
use Rattle.hybit_core.specs.Floats.{zero64}
use Rattle.lent.specs.Lent.{handed}
use Rattle.csr32.specs.Csr.{Csr, csr_answer, entries}
use Rattle.abtm.specs.declared.AbtmConfig.{AbtmConfig}
use Rattle.abtm_values.specs.Values.{is_zero, merged_nonzero}
use Rattle.abtm_build.specs.declared.TilesSize.{TilesSize}
use Rattle.abtm.specs.Tiles.{Tiles, tiles_of}
use Rattle.abtm.specs.Calls.{threshold_answer}

-- stored zeros are skipped, the rest merged, merged zeros dropped; an infinite merged value is kept
unfoldable pub tiles_from : Csr → AbtmConfig → Tiles
tiles_from m h = tiles_of m.rows m.cols h (λ r c. not (is_zero (merged_nonzero (entries m r) c))) (λ r. merged_nonzero (entries m r))

-- the lengths of the five lent lists
pub record TileRoom : Type 0 where
  pub ptr : ℕ
  pub mask : ℕ
  pub offset : ℕ
  pub meta : ℕ
  pub vals : ℕ

abbrev pub as_tile_room : ℕ → ℕ → ℕ → ℕ → ℕ → TileRoom
as_tile_room p m o k v = record { ptr = p; mask = m; offset = o; meta = k; vals = v }

-- 13 finds nothing
unfoldable pub fits_tiles : Tiles → TileRoom → Bool
fits_tiles t room =
    leb (length t.ptr) room.ptr && leb (length t.mask) room.mask && leb (length t.offset) room.offset
    && leb (length t.meta) room.meta && leb (length t.vals) room.vals

-- from_csr32: 1; 2, 3, 4; 9; 13
unfoldable pub tile_answer : Csr → AbtmConfig → TileRoom → Answer
tile_answer m h room = csr_answer m and_then threshold_answer h and_then demand (fits_tiles (tiles_from m h) room) 13

-- the checks that need no build: 1; 2, 3, 4; 9; 13 for the pointers, in a list of so many places
unfoldable pub before_answer : Csr → AbtmConfig → ℕ → Answer
before_answer m h pointers = csr_answer m and_then threshold_answer h and_then demand (ltb m.rows pointers) 13

abbrev pub as_tiles_size : ℕ → ℕ → ℕ → TilesSize
as_tiles_size n s k = record { tiles = n; value_slots = s; matrix_nnz = k }

-- how long the used parts of the tile lists and of the values are, and matrix_nnz: the pointers take rows + 1 places
abbrev pub used_tiles : Tiles → TilesSize
used_tiles t = as_tiles_size (length t.mask) (length t.vals) t.nnz

-- the tiles that the build leaves in the five lent lists, each handed on by its used part
unfoldable pub tiled : Csr → AbtmConfig → TileRoom → Tiles
tiled m h room =
    let t = tiles_from m h in
    let a = tile_answer m h room in
    record {
      rows = m.rows;
      cols = m.cols;
      ptr = handed 0 room.ptr a (suc m.rows) t.ptr;
      mask = handed 0 room.mask a (length t.mask) t.mask;
      offset = handed 0 room.offset a (length t.mask) t.offset;
      meta = handed 0 room.meta a (length t.mask) t.meta;
      vals = handed zero64 room.vals a (length t.vals) t.vals;
      nnz = t.nnz;
    }
