-- Laws of one row of tiles after the others, and of all rows. Assumes nothing.
use mathlib.Core.Bool.{Bool, not, cond}
use mathlib.Core.List.{List, [], ◌∷◌, ◌++◌, map, map-append, zip}
use mathlib.Core.Path.{◌≡◌, refl, sym, ap, ap₂, ◌∙◌, subst}
use Prim.Native.Nat.{ℕ, suc, ◌+◌, ◌*◌, ◌/◌, ◌%◌, ◌^◌, ◌≤◌, ◌<◌, zero-le}
use native.Mathlib.Nat.{mod-eq_of_lt}
use native.Mathlib.Numerals.{add-one}
use native.Mathlib.Omega.{arith}
use lib.Ieee.{Float}
use lib.ListN.{length, set, length-set, length-append, length-map}
use lib.Seq.{take-suc-set}
use Rattle.hybit_core.specs.Floats.{zero64}
use Rattle.lent.specs.Lists.{joined, each, spread, part}
use Rattle.lent.proofs.ListLaws.{spread-append}
use Rattle.word.specs.Bits.{has, mask_of, hit, words_of, ceil64}
use Rattle.word.proofs.BelowLaws.{length-below-le}
use Rattle.csr32.specs.Csr.{Csr, Entry, entries}
use Rattle.csr32.proofs.CsrLaws.{Valid}
use Rattle.topology.specs.Words.{set_bits}
use Rattle.topology.proofs.CallLaws.{bits_le}
use Rattle.abtm.specs.declared.AbtmConfig.{AbtmConfig}
use Rattle.abtm_values.specs.Values.{is_zero, merged_nonzero}
use Rattle.abtm.specs.Tiles.{Tile, places_of, meta_of, tile_of, row_tiles_of, laid, masks_of, metas_of, offsets_of, slots_of}
use Rattle.abtm.proofs.PlaceLaws.{places-few}
use Rattle.abtm_build.specs.declared.TilesSize.{TilesSize}
use Rattle.abtm_build.specs.Written.{Wrote, Bounded, row_of, Held, Rows}
use Rattle.abtm_build.proofs.WroteLaws.{slots_append, masks_append, offsets_append}

-- ---- the entries of a row

pub entries_as : (m : Csr) (r : ℕ) (cs : List ℕ) (vs : List Float) → cs ≡ part m.ptr m.col r → vs ≡ part m.ptr m.val r → zip cs vs ≡ entries m r
unfolding entries
entries_as m r cs vs p q = ap₂ (λ (a : List ℕ) (b : List Float). zip a b) p q

-- ---- a tile takes at most 64 values

pub slots_few : (h : AbtmConfig) (v : ℕ → Float) (m : ℕ → ℕ) (ws : List ℕ) → length (slots_of (map (λ w. tile_of h v (m w) w) ws)) ≤ 64 * length ws
unfolding spread tile_of
slots_few h v m [] = zero-le
slots_few h v m (w ∷ ws) =
    let s : List Float = (tile_of h v (m w) w).slots in
    omega (arith, length-append s (slots_of (map (λ w. tile_of h v (m w) w) ws)), slots_few h v m ws, places-few (meta_of h (m w) w / 2 ^ 30) (m w), length-map (places_of (meta_of h (m w) w / 2 ^ 30) (m w)) (λ i. cond (has (m w) i) (v (64 * w + i)) zero64))

-- what the first rows of a plot list's tiles take
module _ (h : AbtmConfig) (cols : ℕ) (p : ℕ → Bool) (v : ℕ → Float) where
  pub row_few : length (row_tiles_of h cols p v) ≤ ceil64 cols
  unfolding row_tiles_of words_of
  row_few = omega (arith, length-map (words_of p cols) (λ w. tile_of h v (mask_of p cols w) w), length-below-le (hit p cols) (ceil64 cols))

  pub row_slots_lem : length (slots_of (row_tiles_of h cols p v)) ≤ 64 * ceil64 cols
  unfolding row_tiles_of words_of
  row_slots_lem = omega (arith, slots_few h v (mask_of p cols) (words_of p cols), length-below-le (hit p cols) (ceil64 cols))

  pub row_ones : set_bits (masks_of (row_tiles_of h cols p v)) ≤ 64 * ceil64 cols
  row_ones = omega (arith, bits_le (masks_of (row_tiles_of h cols p v)), length-map (row_tiles_of h cols p v) (λ (e : Tile). e.mask), row_few)

-- ---- the first r rows are written

pub record Filling (m : Csr) (h : AbtmConfig) (out₀ ms₀ os₀ ks₀ : List ℕ) (vs₀ : List Float) (r : ℕ) (at : TilesSize) (out ms os ks : List ℕ) (vs : List Float) : Type 0 where
  pub inside : r ≤ m.rows
  pub same_out : length out ≡ length out₀
  pub same_masks : length ms ≡ length ms₀
  pub same_offsets : length os ≡ length os₀
  pub same_metas : length ks ≡ length ks₀
  pub same_vals : length vs ≡ length vs₀
  pub bounded : Bounded (r * 2 ^ 15) at
  pub rows_are : Rows (row_of m h) r at out ms os ks vs

abbrev pub start : TilesSize
start = record { tiles = 0; value_slots = 0; matrix_nnz = 0 }

module _ (m : Csr) (h : AbtmConfig) (out₀ ms₀ os₀ ks₀ : List ℕ) (vs₀ : List Float) where
  pub filling_none : Filling m h out₀ ms₀ os₀ ks₀ vs₀ 0 start out₀ ms₀ os₀ ks₀ vs₀
  unfolding joined each spread laid set_bits
  filling_none = record {
    inside = zero-le;
    same_out = refl;
    same_masks = refl;
    same_offsets = refl;
    same_metas = refl;
    same_vals = refl;
    bounded = record { tiles_in = zero-le; slots_in = zero-le; nnz_in = zero-le };
    rows_are = record { tiles_are = refl; slots_are = refl; nnz_are = refl; fits = λ l k. record { starts_are = refl; masks_are = refl; offsets_are = refl; metas_are = refl; vals_are = refl } };
  }

  module _ (ok : Valid m) (r : ℕ) (at : TilesSize) (out ms os ks : List ℕ) (vs : List Float) (inv : Filling m h out₀ ms₀ os₀ ks₀ vs₀ r at out ms os ks vs) where
    pub filling_done : m.rows ≤ r → Rows (row_of m h) m.rows at out ms os ks vs
    filling_done l = let e : r ≡ m.rows = omega (arith, inv.inside) in subst (λ (n : ℕ). Rows (row_of m h) n at out ms os ks vs) e inv.rows_are

    pub filling_bounded : Bounded (2 ^ 36) at
    filling_bounded = record {
      tiles_in = omega (arith, inv.bounded.tiles_in, inv.inside, ok.rows_in);
      slots_in = omega (arith, inv.bounded.slots_in, inv.inside, ok.rows_in);
      nnz_in = omega (arith, inv.bounded.nnz_in, inv.inside, ok.rows_in);
    }

    module _ (l : r < m.rows) (es : List Entry) (e : es ≡ entries m r) (to : TilesSize) (ms' os' ks' : List ℕ) (vs' : List Float)
        (w₀ : Wrote (row_tiles_of h m.cols (λ c. not (is_zero (merged_nonzero es c))) (merged_nonzero es)) at to ms ms' os os' ks ks' vs vs') where
      abbrev ts : ℕ → List Tile
      ts = row_of m h

      wrote : Wrote (row_of m h r) at to ms ms' os os' ks ks' vs vs'
      wrote = subst (λ (l : List Entry). Wrote (row_tiles_of h m.cols (λ c. not (is_zero (merged_nonzero l c))) (merged_nonzero l)) at to ms ms' os os' ks ks' vs vs') e w₀

      bounds : Bounded ((r + 1) * 2 ^ 15) to
      bounds = record {
        tiles_in = omega (arith, wrote.tiles_are, inv.bounded.tiles_in, row_few h m.cols (λ c. not (is_zero (merged_nonzero (entries m r) c))) (merged_nonzero (entries m r)), ok.cols_in);
        slots_in = omega (arith, wrote.slots_are, inv.bounded.slots_in, row_slots_lem h m.cols (λ c. not (is_zero (merged_nonzero (entries m r) c))) (merged_nonzero (entries m r)), ok.cols_in);
        nnz_in = omega (arith, wrote.nnz_are, inv.bounded.nnz_in, row_ones h m.cols (λ c. not (is_zero (merged_nonzero (entries m r) c))) (merged_nonzero (entries m r)), ok.cols_in);
      }

      abbrev old : Rows (row_of m h) r at out ms os ks vs
      old = inv.rows_are

      module _ (v : ℕ) (ev : v ≡ at.tiles % 2 ^ 32) (few : length ms₀ ≤ 2 ^ 24) (ho : m.rows ≤ length out₀) (sm : length ms' ≡ length ms) (sv : length vs' ≡ length vs) where
        held : to.tiles ≤ length ms' → to.value_slots ≤ length vs' → Held (row_of m h) (suc r) to (set out r v) ms' os' ks' vs'
        unfolding joined each
        held a b =
            let f = wrote.fits (omega (arith, sm, a)) (omega (arith, sv, b)) in
            let g = old.fits (omega (arith, wrote.tiles_are, sm, a)) (omega (arith, wrote.slots_are, sv, b)) in
            let i : v ≡ length (joined ts r) = ev ∙ mod-eq_of_lt (omega (arith, wrote.tiles_are, sm, a, few, inv.same_masks)) ∙ old.tiles_are in
            record {
              starts_are = take-suc-set out r v (omega (arith, inv.same_out)) ∙ ap₂ (λ (l : List ℕ) (x : ℕ). l ++ x ∷ []) g.starts_are i;
              masks_are = f.masks_are.list ∙ ap (λ (l : List ℕ). l ++ masks_of (ts r)) g.masks_are ∙ sym (map-append (λ (e : Tile). e.mask) (joined ts r) (ts r));
              offsets_are =
                  f.offsets_are.list
                  ∙ ap₂ (λ (l : List ℕ) (n : ℕ). l ++ offsets_of n (ts r)) g.offsets_are (let z : at.value_slots ≡ 0 + length (slots_of (joined ts r)) = omega (arith, old.slots_are) in z)
                  ∙ sym (offsets_append 0 (joined ts r) (ts r));
              metas_are = f.metas_are.list ∙ ap (λ (l : List ℕ). l ++ metas_of (ts r)) g.metas_are ∙ sym (map-append (λ (e : Tile). e.meta) (joined ts r) (ts r));
              vals_are = f.vals_are.list ∙ ap (λ (l : List Float). l ++ slots_of (ts r)) g.vals_are ∙ sym (spread-append (λ (e : Tile). e.slots) (joined ts r) (ts r));
            }

        next-rows : Rows (row_of m h) (suc r) to (set out r v) ms' os' ks' vs'
        unfolding joined
        next-rows = record {
          tiles_are = omega (arith, wrote.tiles_are, old.tiles_are, length-append (joined ts r) (ts r));
          slots_are = omega (arith, wrote.slots_are, old.slots_are, slots_append (joined ts r) (ts r));
          nnz_are = omega (arith, wrote.nnz_are, old.nnz_are, masks_append (joined ts r) (ts r));
          fits = held;
        }

        pub filling_more : length os' ≡ length os → length ks' ≡ length ks → Filling m h out₀ ms₀ os₀ ks₀ vs₀ (r + 1) to (set out r v) ms' os' ks' vs'
        filling_more so sk = record {
          inside = omega arith;
          same_out = length-set out r v ∙ inv.same_out;
          same_masks = sm ∙ inv.same_masks;
          same_offsets = so ∙ inv.same_offsets;
          same_metas = sk ∙ inv.same_metas;
          same_vals = sv ∙ inv.same_vals;
          bounded = bounds;
          rows_are = subst (λ (n : ℕ). Rows (row_of m h) n to (set out r v) ms' os' ks' vs') (sym (add-one r)) next-rows;
        }
