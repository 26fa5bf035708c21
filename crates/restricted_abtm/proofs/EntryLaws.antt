-- What accepted tiles keep is what document 01 says of them: tile by tile, row by row, and of all rows. Assumes nothing.
use mathlib.Core.Bool.{Bool, true, false, cond, ◌&&◌}
use mathlib.Core.List.{List, [], ◌∷◌, ◌++◌, map, zip}
use mathlib.Core.Path.{◌≡◌, refl, sym, ap, ap₂, ◌∙◌}
use Prim.Native.Nat.{ℕ, zero, suc, ◌+◌, ◌*◌, ◌%◌, ◌≤◌, ◌<◌, ◌^◌}
use native.Mathlib.Omega.{arith}
use lib.Dec.{eqb, ltb}
use lib.ListN.{length, get_or, take, length-map}
use lib.Seq.{slice, ext_get_or, length-slice, get_or-drop, get_or-take}
use lib.Ieee.{Float, nan}
use borrow.Author.Tests.{leb-true, ltb-true, lt-ltb}
use Rattle.hybit_core.proofs.BoolLaws.{and_left, and_right, and_both}
use Rattle.lent.specs.Lists.{joined, part, only, every, spread}
use Rattle.lent.proofs.ListLaws.{zip_maps, get_or-map-lt, only-map, only-append, every_by, every-left, every-part, every-joined, joined_cong, spread-map, spread-append}
use Rattle.word.specs.Bits.{has, below, both, members, ceil64}
use Rattle.word.proofs.BelowLaws.{below_cong, length-below-suc, selects}
use Rattle.word.proofs.OpLaws.{has_word}
use Rattle.word.proofs.WordLaws.{below-only}
use Rattle.mask.specs.Mask.{Mask, as_mask, active}
use Rattle.mask.proofs.MaskLaws.{Valid, word_bit}
use Rattle.csr32.specs.Csr.{Entry}
use Rattle.csr32.specs.Made.{entries_in}
use Rattle.csr32.proofs.FrameLaws.{Framed, lists_frame, parts_all}
use Rattle.topology.specs.Words.{word_rule}
use Rattle.topology.proofs.RowLaws.{small_is, word_inside_lem}
use Rattle.abtm.specs.Tiles.{Tile, Tiles, Listed, word_in, kind_in, places_of, places, stored, tile_at, listed_tiles, row_tiles, tile_entries}
use Rattle.abtm_check.proofs.TilesLaws.{AcceptedTiles, slots_inside, row_listed, row_listed_lem, row_inside, row_words_lem, length-listed}
use Rattle.restricted_abtm.specs.Kept.{place_in, value_in, entry_in, active_bits, kept_of, kept_all, tile_ready}
use Rattle.restricted_abtm.proofs.ReadyLaws.{kept_few}

-- ---- the values of a tile, by the places of its columns

all-below : (n : ℕ) → length (below (λ i. true) n) ≡ n
unfolding below Rattle.word.specs.Bits.from
all-below zero = refl
all-below (suc n) = omega (arith, length-below-suc (λ i. true) n, all-below n)

-- a place's number in the list of places
place_of : (meta mask j : ℕ) → j < length (places mask meta) → place_in meta mask (get_or (places mask meta) j 0) ≡ j
unfolding place_in places_of members
place_of meta mask j h = go (eqb (kind_in meta) 2) h
  where
    go : (t : Bool) → j < length (cond t (below (λ i. true) 64) (below (has mask) 64))
        → cond t (get_or (cond t (below (λ i. true) 64) (below (has mask) 64)) j 0) (length (below (has mask) (get_or (cond t (below (λ i. true) 64) (below (has mask) 64)) j 0))) ≡ j
    go true l = sym (all-below (get_or (below (λ i. true) 64) j 0)) ∙ (selects (λ i. true) 64 j l).ranked
    go false l = (selects (has mask) 64 j l).ranked

value_of : (vals : List Float) (mask offset meta j : ℕ) → j < length (places mask meta) → get_or vals (offset + j) nan ≡ value_in vals mask offset meta (get_or (places mask meta) j 0)
unfolding value_in
value_of vals mask offset meta j l = ap (λ (k : ℕ). get_or vals (offset + k) nan) (sym (place_of meta mask j l))

module _ (vals : List Float) (mask offset meta : ℕ) (h : offset + length (places mask meta) ≤ length vals) where
  slots_are : slice offset (offset + length (places mask meta)) vals ≡ map (value_in vals mask offset meta) (places mask meta)
  slots_are = ext_get_or nan (slice offset end vals) (map (value_in vals mask offset meta) ps) (long ∙ sym (length-map ps (value_in vals mask offset meta))) at
    where
      ps : List ℕ
      ps = places mask meta

      end : ℕ
      end = offset + length ps

      long : length (slice offset end vals) ≡ length ps
      long = length-slice offset end vals h ∙ omega arith

      at : (j : ℕ) → j < length (slice offset end vals) → get_or (slice offset end vals) j nan ≡ get_or (map (value_in vals mask offset meta) ps) j nan
      at j l =
          let k : j < length ps = omega (arith, long) in
          get_or-drop offset (take end vals) j nan ∙ get_or-take end vals (offset + j) nan (omega arith) ∙ value_of vals mask offset meta j k ∙ sym (get_or-map-lt (value_in vals mask offset meta) ps j 0 nan k)

  stored_are : stored (tile_at vals (mask, (offset, meta))) ≡ map (entry_in vals (mask, (offset, meta))) (places mask meta)
  unfolding stored tile_at
  stored_are =
      ap (zip (map (λ i. 64 * word_in meta + i) (places mask meta))) slots_are
      ∙ zip_maps (λ i. 64 * word_in meta + i) (value_in vals mask offset meta) (places mask meta)

-- the present columns of a tile's word
present-places : (mask meta w : ℕ) → only (λ i. has mask ((64 * w + i) % 64)) (places mask meta) ≡ below (has mask) 64
unfolding places_of members
present-places mask meta w = over (eqb (kind_in meta) 2)
  where
    same : (i : ℕ) → i < 64 → has mask ((64 * w + i) % 64) ≡ has mask i
    same i l = ap (has mask) (let e : (64 * w + i) % 64 ≡ i = omega arith in e)

    twice : (s t : Bool) → t ≡ s → (s && t) ≡ s
    twice true t e = e
    twice false t e = refl

    over : (t : Bool) → only (λ i. has mask ((64 * w + i) % 64)) (cond t (below (λ i. true) 64) (below (has mask) 64)) ≡ below (has mask) 64
    over true = sym (below-only (λ i. true) (λ i. has mask ((64 * w + i) % 64)) 64) ∙ below_cong (λ i. true && has mask ((64 * w + i) % 64)) (has mask) 64 same
    over false = sym (below-only (has mask) (λ i. has mask ((64 * w + i) % 64)) 64) ∙ below_cong (λ i. has mask i && has mask ((64 * w + i) % 64)) (has mask) 64 (λ i l. twice (has mask i) (has mask ((64 * w + i) % 64)) (same i l))

-- ---- one tile: its present columns that are active

active-places : (n : ℕ) (ws : List ℕ) → Valid n ws → (mask meta : ℕ) → only (λ i. active (as_mask n ws) (64 * word_in meta + i)) (below (has mask) 64) ≡ members (active_bits ws mask meta)
unfolding active_bits members
active-places n ws ok mask meta =
    let w : ℕ → Bool = λ i. has mask i && has (get_or ws (word_in meta) 0) i in
    let q : ℕ → Bool = λ i. active (as_mask n ws) (64 * word_in meta + i) in
    sym (below-only (has mask) q 64)
    ∙ below_cong (both (has mask) q) (has (active_bits ws mask meta)) 64 (λ i l. ap (λ (t : Bool). has mask i && t) (sym (word_bit n ws ok (word_in meta) i l)) ∙ sym (has_word w i l))

pub tile-kept : (vals : List Float) (n : ℕ) (ws : List ℕ) → Valid n ws → (e : Listed) → slots_inside (length vals) e ≡ true
    → entries_in (active (as_mask n ws)) (only (λ (x : Entry). has e.0 (x.0 % 64)) (stored (tile_at vals e))) ≡ kept_of vals ws e
unfolding kept_of
tile-kept vals n ws ok e s =
    let mask : ℕ = e.0 in
    let meta : ℕ = e.1.1 in
    let g : ℕ → Entry = entry_in vals e in
    let q : Entry → Bool = λ (x : Entry). has mask (x.0 % 64) in
    let a : Entry → Bool = λ (x : Entry). active (as_mask n ws) x.0 in
    ap (λ (l : List Entry). only a (only q l)) (stored_are vals mask e.1.0 meta (leb-true (e.1.0 + length (places mask meta)) (length vals) s))
    ∙ ap (only a) (only-map q g (places mask meta) ∙ ap (map g) (present-places mask meta (word_in meta)))
    ∙ only-map a g (below (has mask) 64) ∙ ap (map g) (active-places n ws ok mask meta)

-- the same under the names that a row's tiles have
at-tile : (vals : List Float) (n : ℕ) (ws : List ℕ) → Valid n ws → (e : Listed) → slots_inside (length vals) e ≡ true
    → entries_in (active (as_mask n ws)) (only (λ (x : Entry). has (tile_at vals e).mask (x.0 % 64)) (stored (tile_at vals e))) ≡ kept_of vals ws e
unfolding tile_at
at-tile vals n ws ok e s = tile-kept vals n ws ok e s

-- ---- tiles one after another

only-spread : {A B : Type 0} (p : B → Bool) (f : A → List B) (l : List A) → only p (spread f l) ≡ spread (λ a. only p (f a)) l
unfolding spread only
only-spread p f [] = refl
only-spread {A} {B} p f (a ∷ l) = only-append p (f a) (spread f l) ∙ ap (λ (t : List B). only p (f a) ++ t) (only-spread p f l)

spread_by : {A B : Type 0} (f g : A → List B) (q : A → Bool) (l : List A) → every q l ≡ true → ((a : A) → q a ≡ true → f a ≡ g a) → spread f l ≡ spread g l
unfolding spread every
spread_by f g q [] e h = refl
spread_by {A} {B} f g q (a ∷ l) e h = ap₂ (λ (s t : List B). s ++ t) (h a (and_left (q a) (every q l) e)) (spread_by f g q l (and_right (q a) (every q l) e) h)

spread-joined : {A B : Type 0} (f : A → List B) (g : ℕ → List A) (n : ℕ) → joined (λ r. spread f (g r)) n ≡ spread f (joined g n)
unfolding joined spread
spread-joined f g zero = refl
spread-joined {A} {B} f g (suc n) = ap (λ (t : List B). t ++ spread f (g n)) (spread-joined f g n) ∙ sym (spread-append f (joined g n) (g n))

-- ---- the tiles of a record

-- a row's entries in active columns
abbrev pub row_kept : Tiles → Mask → ℕ → List Entry
row_kept t a r = entries_in (active a) (tile_entries t r)

module _ (t : Tiles) (acc : AcceptedTiles t) (n : ℕ) (ws : List ℕ) (ok : Valid n ws) where
  pub row_kept_lem : (r : ℕ) → r < t.rows → row_kept t (as_mask n ws) r ≡ kept_all t.vals ws (row_listed t r)
  unfolding tile_entries row_tiles kept_all
  row_kept_lem r h =
      let F : Tile → List Entry = λ (e : Tile). only (λ (x : Entry). has e.mask (x.0 % 64)) (stored e) in
      let a : Entry → Bool = λ (x : Entry). active (as_mask n ws) x.0 in
      ap (only a) (spread-map F (tile_at t.vals) (row_listed t r))
      ∙ only-spread a (λ e. F (tile_at t.vals e)) (row_listed t r)
      ∙ spread_by (λ e. only a (F (tile_at t.vals e))) (kept_of t.vals ws) (slots_inside (length t.vals)) (row_listed t r) (row_inside t acc r h) (at-tile t.vals n ws ok)

  listed_long : length (listed_tiles t) ≡ length t.mask
  unfolding listed_tiles
  listed_long = length-listed t.mask t.offset t.meta acc.offsets_long acc.metas_long

  listed-rows : joined (row_listed t) t.rows ≡ listed_tiles t
  listed-rows =
      let f : Framed t.rows t.ptr (length (listed_tiles t)) = rw listed_long (lists_frame t.rows t.ptr (length (map word_in t.meta)) (length t.mask) acc.words.lists) in
      joined_cong (row_listed t) (part t.ptr (listed_tiles t)) t.rows (λ r l. sym (row_listed_lem t r)) ∙ parts_all t.rows t.ptr (listed_tiles t) f

  pub all-kept : joined (row_kept t (as_mask n ws)) t.rows ≡ kept_all t.vals ws (listed_tiles t)
  unfolding kept_all
  all-kept =
      joined_cong (row_kept t (as_mask n ws)) (λ r. spread (kept_of t.vals ws) (row_listed t r)) t.rows row_kept_lem
      ∙ spread-joined (kept_of t.vals ws) (row_listed t) t.rows ∙ ap (spread (kept_of t.vals ws)) listed-rows

  pub all-few : length (joined (row_kept t (as_mask n ws)) t.rows) ≤ 2 ^ 30
  all-few = omega (arith, ap length all-kept, kept_few t.vals ws (listed_tiles t), listed_long, acc.tiles_in)

  -- the values and words of its tiles lie in their lists
  module _ (size : n ≡ t.cols) (fits : (k : ℕ) → get_or t.mask k 0 < 2 ^ 64) where
    pub row_ready : (r : ℕ) → r < t.rows → every (tile_ready (length t.vals) (length ws)) (row_listed t r) ≡ true
    unfolding tile_ready
    row_ready r h =
        let low : Listed → Bool = λ (e : Listed). ltb (word_in e.1.1) (length ws) in
        let word : Listed → Bool = λ (e : Listed). word_rule t.cols (word_in e.1.1, e.0) in
        let narrow : Listed → Bool = λ (e : Listed). ltb e.0 (2 ^ 64) in
        let words : length ws ≡ ceil64 t.cols = ok.counted ∙ ap ceil64 size in
        every_by (slots_inside (length t.vals)) low (tile_ready (length t.vals) (length ws)) (row_listed t r) (λ e p q. and_both (slots_inside (length t.vals) e) (low e) p q) (row_inside t acc r h)
        (every_by narrow word low (row_listed t r)
        (λ e p q. lt-ltb (word_in e.1.1) (length ws) (omega (arith, words, word_inside_lem t.cols (word_in e.1.1) e.0 (ltb-true e.0 (2 ^ 64) p) q)))
        (every-left (λ m. ltb m (2 ^ 64)) (part t.ptr t.mask r) (zip (part t.ptr t.offset r) (part t.ptr t.meta r)) (every-part (λ m. ltb m (2 ^ 64)) t.ptr t.mask r (small_is t.mask fits)))
        (row_words_lem t acc r h))

    pub all_ready : every (tile_ready (length t.vals) (length ws)) (listed_tiles t) ≡ true
    all_ready = sym (ap (every (tile_ready (length t.vals) (length ws))) listed-rows) ∙ every-joined (tile_ready (length t.vals) (length ws)) (row_listed t) t.rows row_ready
