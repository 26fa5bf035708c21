-- Demand 3, one claim: what it assumes, what it promises, over the records that the calls leave. Its proof is proofs/Demand3.
use Rattle.std.specs.Prelude.{ℕ, ◌<◌, true, not, List, ◌≡◌, length, get_or, Float}
use Rattle.std.specs.Float.{nan}
use Rattle.hybit_core.specs.Answer.{accepted, gives}
use Rattle.lent.specs.Lists.{every}
use Rattle.word.specs.Bits.{below, both}
use Rattle.mask.specs.Mask.{Mask, active, mask_rules}
use Rattle.csr32.specs.Csr.{Csr, Entry, entries, present, merged, at, product, apply_answer}
use Rattle.csr32.specs.Made.{entries_in, CsrRoom, fits_csr}
use Rattle.metadata_first_build.specs.Pack.{StoreRoom, store_of, fits_store, pack_answer, pruned_dot, wanted}
use Rattle.abtm.specs.declared.AbtmConfig.{AbtmConfig}
use Rattle.abtm_values.specs.Values.{is_zero}
use Rattle.abtm.specs.Tiles.{threshold_rules}
use Rattle.abtm_build.specs.Build.{TileRoom, tiles_from, fits_tiles, tile_answer, tiled}
use Rattle.restricted.specs.Restricted.{restricted, restrict_answer, restricted_left, restricted_tiles, restrict_tiles_answer, restricted_tiles_left}

-- ---- what is assumed: each clause of the user's sentence is a field

-- a and b: the matrices; mask; x and y: the yield vectors; ra and rb: the lengths of the lists lent for the matrices' stores
pub record Alike (a b : Csr) (mask : Mask) (x y : List Float) (ra rb : StoreRoom) : Type 0 where
  -- "two matrices of one shape,
  pub same_rows : a.rows ≡ b.rows
  pub same_columns : a.cols ≡ b.cols
  -- both accepted for packing,
  pub a_accepted : pack_answer a ra ≡ accepted
  pub b_accepted : pack_answer b rb ≡ accepted
  -- one valid mask and two yield vectors, mask and vectors as long as the columns.
  pub valid_mask : mask_rules mask ≡ true
  pub mask_as_long : mask.size ≡ a.cols
  pub x_as_long : length x ≡ a.cols
  pub y_as_long : length y ≡ a.cols
  -- If the matrices list, row by row, the same entries in the same order in the mask's active plots,
  pub same_entries : (r : ℕ) → r < a.rows → entries_in (active mask) (entries a r) ≡ entries_in (active mask) (entries b r)
  -- and the vectors agree bit for bit there"
  pub same_yields : (c : ℕ) → active mask c ≡ true → at x c ≡ at y c

-- "Where no stored or merged active value is zero", in row r
pub record NoZero (m : Csr) (mask : Mask) (r : ℕ) : Type 0 where
  pub stored : every (λ (e : Entry). not (is_zero e.1)) (entries_in (active mask) (entries m r)) ≡ true
  pub merging : every (λ c. not (is_zero (merged (entries m r) c))) (below (both (present (entries m r)) (active mask)) m.cols) ≡ true

-- a valid mask of n columns, every one active
pub record EveryActive (n : ℕ) (all : Mask) : Type 0 where
  pub valid : mask_rules all ≡ true
  pub as_long : all.size ≡ n
  pub everywhere : (c : ℕ) → c < n → active all c ≡ true

-- ---- what is promised. Numbers are compared by the logic's equality of floats, in which there is one NaN.

-- "Restricting from CSR to the active plots, packing and taking the dot with every plot active gives the same three again", the lists
-- lent being of rc and rp places: no call is refused on the way
pub record Restricting (m : Csr) (mask all : Mask) (x : List Float) (r : ℕ) (rc : CsrRoom) (rp : StoreRoom) : Type 0 where
  pub restrict_accepted : restrict_answer m mask rc ≡ accepted
  pub pack_accepted : pack_answer (restricted_left m mask rc) rp ≡ accepted
  pub three : pruned_dot (restricted_left m mask rc) rp all x r ≡ gives (wanted m mask x r)

-- the row product of the CSR restricted from tiles: what `apply` leaves at place r of its result
abbrev pub tiled_number : Csr → Mask → List Float → AbtmConfig → TileRoom → CsrRoom → ℕ → Float
tiled_number m mask x h rt rc r = get_or (product (restricted_tiles_left (tiled m h rt) mask rc) x) r nan

-- "the CSR restricted from tiles, under any accepted thresholds, gives the number as its row product", for a row without an active
-- zero; no call is refused on the way, whatever any row holds
pub record Tiling (m : Csr) (mask : Mask) (x : List Float) (r : ℕ) (h : AbtmConfig) (rt : TileRoom) (rc : CsrRoom) : Type 0 where
  pub build_accepted : tile_answer m h rt ≡ accepted
  pub restrict_accepted : restrict_tiles_answer (tiled m h rt) mask rc ≡ accepted
  pub product_accepted : apply_answer (restricted_tiles_left (tiled m h rt) mask rc) x m.rows ≡ accepted
  pub number : NoZero m mask r → tiled_number m mask x h rt rc r ≡ (wanted m mask x r).number

-- of row r of one matrix: "These three are demand 2's", and both other routes, "output lists being long enough"
pub record Row (m : Csr) (room : StoreRoom) (mask : Mask) (x : List Float) (r : ℕ) : Type 0 where
  pub three : pruned_dot m room mask x r ≡ gives (wanted m mask x r)
  pub restricting : (rc : CsrRoom) (rp : StoreRoom) (all : Mask) → fits_csr (restricted m mask) rc ≡ true → fits_store (store_of (restricted_left m mask rc)) rp ≡ true → EveryActive m.cols all
      → Restricting m mask all x r rc rp
  pub tiling : (h : AbtmConfig) (rt : TileRoom) (rc : CsrRoom) → threshold_rules h ≡ true → fits_tiles (tiles_from m h) rt ≡ true → fits_csr (restricted_tiles (tiled m h rt) mask) rc ≡ true
      → Tiling m mask x r h rt rc

-- "then whatever either holds in masked plots, every row's pruned dot gives the same number, executed count and active-word count for
-- both"
pub record Same (a b : Csr) (mask : Mask) (x y : List Float) (ra rb : StoreRoom) (r : ℕ) : Type 0 where
  pub a_row : Row a ra mask x r
  pub b_row : Row b rb mask y r
  pub same_three : wanted a mask x r ≡ wanted b mask y r
  pub same_dots : pruned_dot a ra mask x r ≡ pruned_dot b rb mask y r

-- demand 3, for every row
abbrev pub Demand3 : Type 0
Demand3 = (a b : Csr) (mask : Mask) (x y : List Float) (ra rb : StoreRoom) → Alike a b mask x y ra rb → (r : ℕ) → r < a.rows → Same a b mask x y ra rb r
