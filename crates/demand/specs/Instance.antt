-- Two small matrices that demand 3 speaks of: they list the same in active plots and differ in masked ones, and so do two vectors.
-- What the definitions give of them.
use Rattle.std.specs.Prelude.{ℕ, false, true, cond, List, [], ◌∷◌, ◌≡◌, eqb, pos, negsuc, Float}
use Rattle.std.specs.Float.{nan, inf, fin}
use Rattle.hybit_core.specs.Answer.{accepted}
use Rattle.hybit_core.specs.Floats.{zero64}
use Rattle.lent.specs.Lists.{each}
use Rattle.mask.specs.Mask.{Mask, active, mask_rules, all_active}
use Rattle.csr32.specs.Csr.{Csr, entries}
use Rattle.csr32.specs.Made.{CsrRoom, as_csr_room, entries_in, fits_csr}
use Rattle.metadata_first.specs.Dot.{Three}
use Rattle.metadata_first_build.specs.Pack.{StoreRoom, as_store_room, store_of, fits_store, pack_answer, wanted}
use Rattle.abtm.specs.declared.AbtmConfig.{AbtmConfig}
use Rattle.abtm_build.specs.Build.{TileRoom, as_tile_room, tiles_from, tiled, fits_tiles}
use Rattle.restricted.specs.Restricted.{restricted, restricted_left, restricted_tiles}
use Rattle.demand.specs.Demand.{NoZero, tiled_number}

-- m ÷ 2; 2 ^ k
abbrev pub half : ℕ → Float
half m = fin false m (negsuc 0)

abbrev pub two : ℕ → Float
two k = fin false 1 (pos k)

abbrev pub three : Float → ℕ → ℕ → Three
three f n w = record { number = f; executed = n; active_words = w }

-- 3, 65 and 66 of 70 plots are active
unfoldable pub dry : Mask
dry = record { size = 70; bits = 8 ∷ 6 ∷ [] }

-- unsorted columns, 3 twice; in row 1 a zero is stored in an active plot. Plots 64 and 10 are masked.
unfoldable pub one_year : Csr
one_year = record {
  rows = 2;
  cols = 70;
  ptr = 0 ∷ 4 ∷ 7 ∷ [];
  col = 65 ∷ 3 ∷ 3 ∷ 64 ∷ 66 ∷ 10 ∷ 65 ∷ [];
  val = two 1 ∷ two 0 ∷ half 1 ∷ two 2 ∷ zero64 ∷ two 1 ∷ two 0 ∷ [];
}

-- the same entries in active plots; in masked ones others: 64 with another value, 7, and 69 twice
unfoldable pub other_year : Csr
other_year = record {
  rows = 2;
  cols = 70;
  ptr = 0 ∷ 5 ∷ 9 ∷ [];
  col = 64 ∷ 65 ∷ 3 ∷ 7 ∷ 3 ∷ 69 ∷ 66 ∷ 65 ∷ 69 ∷ [];
  val = fin true 1 (pos 0) ∷ two 1 ∷ two 0 ∷ two 2 ∷ half 1 ∷ two 0 ∷ zero64 ∷ two 0 ∷ two 3 ∷ [];
}

-- 1.0, and an infinity at 66
abbrev pub yield_at : ℕ → Float
yield_at c = cond (eqb c 66) (inf false) (two 0)

unfoldable pub yields : List Float
yields = each yield_at 70

-- the same at active plots, 8.0 at masked ones
unfoldable pub other_yields : List Float
other_yields = each (λ c. cond (active dry c) (yield_at c) (two 3)) 70

-- lists that are just long enough, and longer ones
unfoldable pub exact_room : StoreRoom
exact_room = as_store_room 3 4 4 3 6

unfoldable pub large_room : StoreRoom
large_room = as_store_room 10 20 20 30 40

unfoldable pub plot_room : CsrRoom
plot_room = as_csr_room 3 5 5

unfoldable pub tile_room : TileRoom
tile_room = as_tile_room 3 4 4 4 6

-- thresholds: one column to a Sparse tile
unfoldable pub limits : AbtmConfig
limits = record { sparse_max_nnz = 1; dense_min_nnz = 40 }

-- ---- what the definitions give

pub record Computed : Type 0 where
  pub one_accepted : pack_answer one_year exact_room ≡ accepted
  pub other_accepted : pack_answer other_year large_room ≡ accepted
  pub valid : mask_rules dry ≡ true
  pub first_entries : entries_in (active dry) (entries one_year 0) ≡ entries_in (active dry) (entries other_year 0)
  pub second_entries : entries_in (active dry) (entries one_year 1) ≡ entries_in (active dry) (entries other_year 1)
  -- the three of each row: 3.5, 2, 2, and NaN, 2, 1, for 0.0 × an infinity is none
  pub first_three : wanted one_year dry yields 0 ≡ three (half 7) 2 2
  pub second_three : wanted one_year dry yields 1 ≡ three nan 2 1
  -- with every plot active: 7.5 and 27.5
  pub one_whole : wanted one_year (all_active 70) yields 0 ≡ three (half 15) 3 2
  pub other_whole : wanted other_year (all_active 70) other_yields 0 ≡ three (half 55) 4 2
  -- the lists lent to the other routes are long enough
  pub plots_fit : fits_csr (restricted one_year dry) plot_room ≡ true
  pub store_fits : fits_store (store_of (restricted_left one_year dry plot_room)) exact_room ≡ true
  pub tiles_fit : fits_tiles (tiles_from one_year limits) tile_room ≡ true
  pub cut_fits : fits_csr (restricted_tiles (tiled one_year limits tile_room) dry) plot_room ≡ true
  -- row 0 has no active zero; row 1 has one, and there the tiles' number is 1.0
  pub first_no_zero : NoZero one_year dry 0
  pub second_tiles : tiled_number one_year dry yields limits tile_room plot_room 1 ≡ two 0
