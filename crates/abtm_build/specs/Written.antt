-- Tiles in the making: what is written from one place of the lent lists to another.
use Rattle.std.specs.Prelude.{ℕ, ◌+◌, ◌*◌, ◌≤◌, ◌^◌, not, List, ◌≡◌, length, take, Float}
use Rattle.lent.specs.Lists.{joined, each}
use Rattle.lent.specs.Lent.{Appended}
use Rattle.csr32.specs.Csr.{Csr, entries}
use Rattle.topology.specs.Words.{set_bits}
use Rattle.abtm.specs.declared.AbtmConfig.{AbtmConfig}
use Rattle.abtm_values.specs.Values.{is_zero, merged_nonzero}
use Rattle.abtm.specs.Tiles.{Tile, masks_of, metas_of, offsets_of, slots_of, row_tiles_of}
use Rattle.abtm_build.specs.declared.TilesSize.{TilesSize}

-- the tiles ts in the four lists, their values after one another
pub record Laid (ts : List Tile) (from to : TilesSize) (masks₀ masks offsets₀ offsets metas₀ metas : List ℕ) (vals₀ vals : List Float) : Type 0 where
  pub masks_are : Appended (masks_of ts) from.tiles to.tiles masks₀ masks
  pub offsets_are : Appended (offsets_of from.value_slots ts) from.tiles to.tiles offsets₀ offsets
  pub metas_are : Appended (metas_of ts) from.tiles to.tiles metas₀ metas
  pub vals_are : Appended (slots_of ts) from.value_slots to.value_slots vals₀ vals

-- the next places after the tiles ts, which are exact in any case; the tiles are written where the lists reach so far
pub record Wrote (ts : List Tile) (from to : TilesSize) (masks₀ masks offsets₀ offsets metas₀ metas : List ℕ) (vals₀ vals : List Float) : Type 0 where
  pub tiles_are : to.tiles ≡ from.tiles + length ts
  pub slots_are : to.value_slots ≡ from.value_slots + length (slots_of ts)
  pub nnz_are : to.matrix_nnz ≡ from.matrix_nnz + set_bits (masks_of ts)
  pub fits : to.tiles ≤ length masks₀ → to.value_slots ≤ length vals₀ → Laid ts from to masks₀ masks offsets₀ offsets metas₀ metas vals₀ vals

-- counts of at most n tiles
pub record Bounded (n : ℕ) (at : TilesSize) : Type 0 where
  pub tiles_in : at.tiles ≤ n
  pub slots_in : at.value_slots ≤ 64 * n
  pub nnz_in : at.matrix_nnz ≤ 64 * n

-- four lists that hold u32 offsets: tile lists of one length, up to 2^24, and up to 2^30 values
pub record Lists (masks offsets metas vals : ℕ) : Type 0 where
  pub offsets_same : offsets ≡ masks
  pub metas_same : metas ≡ masks
  pub few_tiles : masks ≤ 2 ^ 24
  pub few_slots : vals ≤ 2 ^ 30

-- the tiles of row r of a plot list
abbrev pub row_of : Csr → AbtmConfig → ℕ → List Tile
row_of m h r = row_tiles_of h m.cols (λ c. not (is_zero (merged_nonzero (entries m r) c))) (merged_nonzero (entries m r))

-- the first rows in the lists: where each row starts, and the tiles
pub record Held (ts : ℕ → List Tile) (rows : ℕ) (at : TilesSize) (ptr masks offsets metas : List ℕ) (vals : List Float) : Type 0 where
  pub starts_are : take rows ptr ≡ each (λ r. length (joined ts r)) rows
  pub masks_are : take at.tiles masks ≡ masks_of (joined ts rows)
  pub offsets_are : take at.tiles offsets ≡ offsets_of 0 (joined ts rows)
  pub metas_are : take at.tiles metas ≡ metas_of (joined ts rows)
  pub vals_are : take at.value_slots vals ≡ slots_of (joined ts rows)

-- the counts of the first rows, which are exact in any case; the rows are there where the lists reach so far
pub record Rows (ts : ℕ → List Tile) (rows : ℕ) (at : TilesSize) (ptr masks offsets metas : List ℕ) (vals : List Float) : Type 0 where
  pub tiles_are : at.tiles ≡ length (joined ts rows)
  pub slots_are : at.value_slots ≡ length (slots_of (joined ts rows))
  pub nnz_are : at.matrix_nnz ≡ set_bits (masks_of (joined ts rows))
  pub fits : at.tiles ≤ length masks → at.value_slots ≤ length vals → Held ts rows at ptr masks offsets metas vals
