-- The product of tiles (document 01, "Tiles").
use Rattle.std.specs.Prelude.{ℕ, cond, ltb, length, Float}
use mathlib.Core.List.{List, foldl}
use Rattle.std.specs.Float.{binary64}
use Rattle.std.specs.Float.Ieee.{add}
use Rattle.hybit_core.specs.Answer.{Answer, length_is, ◌and_then◌}
use Rattle.hybit_core.specs.Floats.{zero64}
use Rattle.lent.specs.Lists.{each, only}
use Rattle.csr32.specs.Csr.{Entry, row_product}
use Rattle.csr32.specs.Sums.{added_to}
use Rattle.abtm.specs.Tiles.{Tile, Tiles, is_dense, stored, row_tiles, tiles_answer}

-- what a Dense tile adds: all its places in range, absent ones too
unfoldable pub dense_entries : ℕ → Tile → List Entry
dense_entries cols e = only (λ (x : Entry). ltb x.0 cols) (stored e)

-- a row's number after one tile more: a Dense tile adds its places straight to it, a Sparse or Bitmap tile is summed from 0.0 on
-- its own and then added
unfoldable pub add_tile : ℕ → List Float → Float → Tile → Float
add_tile cols x s e = cond (is_dense e.meta) (added_to s (dense_entries cols e) x) (add binary64 s (row_product (stored e) x))

-- the sum of a row's tiles, from 0.0
unfoldable pub sum_tiles : ℕ → List Float → List Tile → Float
sum_tiles cols x ts = foldl (add_tile cols x) zero64 ts

unfoldable pub tiles_product : Tiles → List Float → List Float
tiles_product t x = each (λ r. sum_tiles t.cols x (row_tiles t r)) t.rows

-- apply: 1; 12; 6 for x; 6 for y, which is ny long
unfoldable pub apply_tiles_answer : Tiles → List Float → ℕ → Answer
apply_tiles_answer t x ny = tiles_answer t and_then length_is t.cols (length x) and_then length_is t.rows ny
