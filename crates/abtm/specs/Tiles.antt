-- Tiles (document 01, "Tiles"): one tile, the record of a membership and values under thresholds, reading a record, its rules.
use Rattle.std.specs.Prelude.{ℕ, ◌+◌, ◌*◌, ◌/◌, ◌%◌, ◌^◌, Bool, true, cond, ◌&&◌, leb, ltb, eqb, length, Float}
use mathlib.Core.List.{List, [], ◌∷◌, map, zip}
use Rattle.std.proofs.Math.Seq.{slice}
use Rattle.hybit_core.specs.Answer.{Answer, demand, ◌and_then◌}
use Rattle.hybit_core.specs.Domain.{sizes_fit, many}
use Rattle.hybit_core.specs.Floats.{zero64}
use Rattle.lent.specs.Lists.{joined, starts, part, only, every, some, spread}
use Rattle.word.specs.Bits.{has, below, count, members, mask_of, words_of}
use Rattle.csr32.specs.Csr.{Entry}
use Rattle.topology.specs.Words.{Words, as_words, word_rules}
use Rattle.abtm.specs.declared.AbtmConfig.{AbtmConfig}
use Rattle.abtm_values.specs.Values.{solid, plus_zero}

-- ---- one tile

-- `meta`: the word number in bits 0 to 29, the kind above: 0 Sparse, 1 Bitmap, 2 Dense
abbrev pub word_in : ℕ → ℕ
word_in meta = meta % 2 ^ 30

abbrev pub kind_in : ℕ → ℕ
kind_in meta = meta / 2 ^ 30

abbrev pub is_dense : ℕ → Bool
is_dense meta = eqb (kind_in meta) 2

-- the places of the word's 64 that a tile has a value for: Dense all of them, Sparse and Bitmap those of its mask
unfoldable pub places_of : ℕ → ℕ → List ℕ
places_of kind mask = cond (eqb kind 2) (below (λ i. true) 64) (members mask)

abbrev pub places : ℕ → ℕ → List ℕ
places mask meta = places_of (kind_in meta) mask

-- a tile with its values, one for each of its places, ascending
pub record Tile : Type 0 where
  pub mask : ℕ
  pub meta : ℕ
  pub slots : List Float

-- its columns and values
unfoldable pub stored : Tile → List Entry
stored e = zip (map (λ i. 64 * word_in e.meta + i) (places e.mask e.meta)) e.slots

-- ---- thresholds

-- sparse at least 1, dense at most 64, sparse below dense
unfoldable pub threshold_rules : AbtmConfig → Bool
threshold_rules h = leb 1 h.sparse_max_nnz && leb h.dense_min_nnz 64 && ltb h.sparse_max_nnz h.dense_min_nnz

-- Sparse if count ≤ sparse, else Dense if count ≥ dense, else Bitmap
unfoldable pub kind_of : AbtmConfig → ℕ → ℕ
kind_of h n = cond (leb n h.sparse_max_nnz) 0 (cond (leb h.dense_min_nnz n) 2 1)

-- ---- the record of a membership and values

pub record Tiles : Type 0 where
  pub rows : ℕ
  pub cols : ℕ
  pub ptr : List ℕ
  pub mask : List ℕ
  pub offset : List ℕ
  pub meta : List ℕ
  pub vals : List Float
  pub nnz : ℕ

-- lent lists and a stored count, as tiles
abbrev pub as_tiles : ℕ → ℕ → List ℕ → List ℕ → List ℕ → List ℕ → List Float → ℕ → Tiles
as_tiles n m ps ms os ks vs t = record { rows = n; cols = m; ptr = ps; mask = ms; offset = os; meta = ks; vals = vs; nnz = t }

unfoldable pub meta_of : AbtmConfig → ℕ → ℕ → ℕ
meta_of h mask w = kind_of h (count (has mask) 64) * 2 ^ 30 + w

-- the tile of word w, whose columns are those of the mask, with the values v; +0.0 at absent places
unfoldable pub tile_of : AbtmConfig → (ℕ → Float) → ℕ → ℕ → Tile
tile_of h v mask w = record {
  mask = mask;
  meta = meta_of h mask w;
  slots = map (λ i. cond (has mask i) (v (64 * w + i)) zero64) (places mask (meta_of h mask w));
}

-- the tiles of a row whose columns are p with the values v: one for each word that holds a column
unfoldable pub row_tiles_of : AbtmConfig → ℕ → (ℕ → Bool) → (ℕ → Float) → List Tile
row_tiles_of h cols p v = map (λ w. tile_of h v (mask_of p cols w) w) (words_of p cols)

-- where parts of these lengths start that follow one another without gaps, the first at k
unfoldable pub laid : ℕ → List ℕ → List ℕ
laid k [] = []
laid k (n ∷ ns) = k ∷ laid (k + n) ns

abbrev pub masks_of : List Tile → List ℕ
masks_of ts = map (λ (e : Tile). e.mask) ts

abbrev pub metas_of : List Tile → List ℕ
metas_of ts = map (λ (e : Tile). e.meta) ts

abbrev pub offsets_of : ℕ → List Tile → List ℕ
offsets_of k ts = laid k (map (λ (e : Tile). length e.slots) ts)

abbrev pub slots_of : List Tile → List Float
slots_of ts = spread (λ (e : Tile). e.slots) ts

-- the record of the membership p and the values v (row, column)
unfoldable pub tiles_of : ℕ → ℕ → AbtmConfig → (ℕ → ℕ → Bool) → (ℕ → ℕ → Float) → Tiles
tiles_of rows cols h p v =
    let ts = joined (λ r. row_tiles_of h cols (p r) (v r)) rows in
    record {
      rows = rows;
      cols = cols;
      ptr = starts (λ r. row_tiles_of h cols (p r) (v r)) rows;
      mask = masks_of ts;
      offset = offsets_of 0 ts;
      meta = metas_of ts;
      vals = slots_of ts;
      nnz = length (joined (λ r. below (p r) cols) rows);
    }

-- ---- reading a record

-- a tile's mask, offset and meta as they are listed
abbrev pub Listed : Type 0
Listed = ℕ × (ℕ × ℕ)

-- how many values a listed tile takes
abbrev pub slot_count : Listed → ℕ
slot_count e = length (places e.0 e.1.1)

-- the tile that is listed so: its values stand at its offset
unfoldable pub tile_at : List Float → Listed → Tile
tile_at vals e = record { mask = e.0; meta = e.1.1; slots = slice e.1.0 (e.1.0 + slot_count e) vals }

unfoldable pub listed_tiles : Tiles → List Listed
listed_tiles t = zip t.mask (zip t.offset t.meta)

unfoldable pub row_tiles : Tiles → ℕ → List Tile
row_tiles t r = map (tile_at t.vals) (zip (part t.ptr t.mask r) (zip (part t.ptr t.offset r) (part t.ptr t.meta r)))

-- column c is present in a tile; in row r
abbrev pub in_tile : ℕ → Tile → Bool
in_tile c e = eqb (word_in e.meta) (c / 64) && has e.mask (c % 64)

unfoldable pub in_tiles : Tiles → ℕ → ℕ → Bool
in_tiles t r c = some (in_tile c) (row_tiles t r)

-- the present columns of a row with their values, ascending
unfoldable pub tile_entries : Tiles → ℕ → List Entry
tile_entries t r = spread (λ (e : Tile). only (λ (x : Entry). has e.mask (x.0 % 64)) (stored e)) (row_tiles t r)

-- the words and masks of tiles, as words: their membership is that of the tiles
abbrev pub tile_words : Tiles → Words
tile_words t = as_words t.rows t.cols t.ptr (map word_in t.meta) t.mask t.nnz

-- ---- its rules

-- 1 finds nothing
unfoldable pub tile_sizes : Tiles → Bool
tile_sizes t = sizes_fit t.rows t.cols (length t.mask) (length t.meta) && many (length t.offset)

-- a value: neither NaN nor zero at a place of the mask, +0.0 at any other
unfoldable pub value_rule : ℕ → Entry → Bool
value_rule mask e = cond (has mask (e.0 % 64)) (solid e.1) (plus_zero e.1)

-- no kind 3, and the rule of each value
unfoldable pub tile_rule : Tile → Bool
tile_rule e = leb (kind_in e.meta) 2 && every (value_rule e.mask) (stored e)

-- the tiles' values follow one another without gaps from place k to place n
unfoldable pub gapless : ℕ → ℕ → List Listed → Bool
gapless k n [] = eqb k n
gapless k n (e ∷ l) = eqb e.1.0 k && gapless (k + slot_count e) n l

-- the rules of the values
unfoldable pub slot_rules : List Float → List Listed → Bool
slot_rules vals l = gapless 0 (length vals) l && every (λ e. tile_rule (tile_at vals e)) l

-- 12 finds nothing: lists of one length; pointers, word numbers, masks and count as in words; the rules of the values
unfoldable pub tiles_rules : Tiles → Bool
tiles_rules t = word_rules (tile_words t) && eqb (length t.offset) (length t.meta) && slot_rules t.vals (listed_tiles t)

-- the checks of tiles: 1, 12
unfoldable pub tiles_answer : Tiles → Answer
tiles_answer t = demand (tile_sizes t) 1 and_then demand (tiles_rules t) 12
