-- What the calls on a row of tiles and on the figures of tiles ask of their input and answer.
use Rattle.std.specs.Prelude.{ℕ, ◌+◌, ◌*◌, ◌-◌, ◌^◌, min, List, ltb, eqb, length, Float}
use Rattle.hybit_core.specs.Answer.{Answer, demand, ◌and_then◌}
use Rattle.hybit_core.specs.Floats.{ratio_of}
use Rattle.lent.specs.Lists.{only}
use Rattle.abtm.specs.Tiles.{Tiles, kind_in, tiles_answer}
use Rattle.abtm_rows.specs.declared.AbtmStats.{AbtmStats}

-- a question to row r: 1; 12; 7
unfoldable pub tile_row_answer : Tiles → ℕ → Answer
tile_row_answer t r = tiles_answer t and_then demand (ltb r t.rows) 7

-- ---- the figures of a record

unfoldable pub of_kind : ℕ → List ℕ → ℕ
of_kind k metas = length (only (λ m. eqb (kind_in m) k) metas)

-- tiles, tiles of each kind, value slots and matrix_nnz; 4 × (rows + 1) + 16 × tiles bytes of metadata
unfoldable pub tile_stats : Tiles → AbtmStats
tile_stats t = record {
  nrows = t.rows;
  ncols = t.cols;
  matrix_nnz = t.nnz;
  tiles = length t.meta;
  sparse_tiles = of_kind 0 t.meta;
  bitmap_tiles = of_kind 1 t.meta;
  dense_tiles = of_kind 2 t.meta;
  value_slots = length t.vals;
  metadata_bytes = 4 * (t.rows + 1) + 16 * length t.meta;
}

-- bytes ÷ values in f64, 0.0 where there is none
abbrev pub bytes_per_value : AbtmStats → Float
bytes_per_value s = ratio_of s.metadata_bytes s.matrix_nnz

-- the bytes of metadata and 8 for each value slot, at most 2^64 − 1
abbrev pub tile_bytes : AbtmStats → ℕ
tile_bytes s = min (s.metadata_bytes + 8 * s.value_slots) (2 ^ 64 - 1)
