-- A window of a row: so many columns from a word on, each with the sum of its nonzero values. What the private functions that
-- sum and write one require and ensure.
use Rattle.std.specs.Prelude.{ℕ, ◌+◌, ◌-◌, ◌*◌, ◌/◌, ◌≤◌, ◌<◌, Bool, not, List, map, ◌≡◌, eqb, length, get_or, Float}
use Rattle.std.specs.Float.{nan}
use Rattle.hybit_core.specs.Floats.{zero64}
use Rattle.word.specs.Bits.{between, word_of}
use Rattle.csr32.specs.Csr.{Entry}
use Rattle.abtm.specs.declared.AbtmConfig.{AbtmConfig}
use Rattle.abtm_values.specs.Values.{is_zero, merged_nonzero}
use Rattle.abtm.specs.Tiles.{Tile, tile_of}

-- the columns of word w whose value is not zero
unfoldable pub mask_at : (ℕ → Float) → ℕ → ℕ
mask_at v w = word_of (λ i. not (is_zero (v (64 * w + i))))

abbrev pub hit_at : (ℕ → Float) → ℕ → Bool
hit_at v w = not (eqb (mask_at v w) 0)

-- the tiles of the words from a up to b of a row with the values v
unfoldable pub tiles_between : AbtmConfig → (ℕ → Float) → ℕ → ℕ → List Tile
tiles_between h v a b = map (λ w. tile_of h v (mask_at v w) w) (between (hit_at v) a b)

-- the values of a window that starts at column base
abbrev pub window_value : ℕ → List Float → ℕ → Float
window_value base sums c = get_or sums (c - base) nan

-- where the mark of so many columns is 0, their sums are 0.0
pub record Marked (size : ℕ) (sums : List Float) (marks : List ℕ) : Type 0 where
  pub zeros : (i : ℕ) → i < length sums → get_or marks (i / size) 0 ≡ 0 → get_or sums i nan ≡ zero64

-- a window of whole words, in whole blocks of 64 words, all sizes in range
pub record Sized (sums words blocks : ℕ) : Type 0 where
  pub words_are : sums ≡ 64 * words
  pub blocks_are : words ≡ 64 * blocks
  pub some_block : 0 < blocks
  pub few_blocks : blocks ≤ 16

-- the next column with a nonzero value at or past the limit is r, or past it
pub record Next (es : List Entry) (limit r : ℕ) : Type 0 where
  pub after : limit ≤ r
  pub none : (c : ℕ) → limit ≤ c → c < r → merged_nonzero es c ≡ zero64
