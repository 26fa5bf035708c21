-- The record of a membership and values: its words are those of the membership, its tiles can be read back, it is accepted, and
-- its rows list exactly the columns of the membership with their values. Assumes nothing.
use Rattle.std.proofs.Common.{◌≡◌, ℕ, suc, ◌+◌, ◌*◌, ◌/◌, ◌%◌, ◌^◌, ◌<◌, ◌≤◌, Bool, true, false, cond, ◌&&◌, eqb, ltb, leb, List, [], ◌∷◌, ◌++◌, map, length, take, drop, sym, refl, ap, ◌∙◌, ap₂, append_assoc, add-zero, arith, length-append, take_at, drop_at, ltb-true, eq-eqb, eqb-true, le-leb}
use mathlib.Core.List.{zip, zip_with, map-map, map-append}
use lib.ListN.{length-map}
use lib.Seq.{slice}
use lib.Ieee.{Float, of_bits}
use Rattle.hybit_core.specs.Answer.{accepted, demand, ◌and_then◌}
use Rattle.hybit_core.specs.Domain.{sizes_fit, few, many}
use Rattle.hybit_core.specs.Floats.{zero64}
use Rattle.hybit_core.proofs.BoolLaws.{and_left, and_right, and_both, and-four}
use Rattle.lent.specs.Lists.{joined, starts, part, only, every, some, spread}
use Rattle.lent.proofs.PartLaws.{part-map}
use Rattle.lent.proofs.ListLaws.{only-map, map-joined, joined_lengths, part-joined, every_map, every-joined, zip_maps, spread-map, map_id, every-all, each_cong, joined_cong, some-map}
use Rattle.word.specs.Bits.{has, below, count, within, members, mask_of, hit, words_of, ceil64}
use Rattle.word.proofs.BelowLaws.{below_cong, map_below}
use Rattle.word.proofs.BitLaws.{has-mask_of, has-mask-at, has_listed, every-below, some_below}
use Rattle.word.proofs.WordLaws.{columns_in, by_words, below-only}
use Rattle.csr32.specs.Csr.{Entry}
use Rattle.topology.specs.Words.{topology_of, word_rules}
use Rattle.topology.proofs.TopologyLaws.{topology_accepted}
use Rattle.abtm.specs.declared.AbtmConfig.{AbtmConfig}
use Rattle.abtm_values.specs.Values.{solid, plus_zero}
use Rattle.abtm.specs.Tiles.{Tile, Tiles, Listed, word_in, kind_in, is_dense, places_of, places, stored, kind_of, meta_of, tile_of, row_tiles_of, laid, masks_of, metas_of, offsets_of, slots_of, tiles_of, tile_at, listed_tiles, row_tiles, in_tile, in_tiles, tile_entries, tile_words, tile_sizes, value_rule, tile_rule, gapless, slot_rules, tiles_rules, tiles_answer}
use Rattle.abtm.proofs.PlaceLaws.{kind_small, laid_long}
use Rattle.abtm_check.proofs.TilesLaws.{row_listed_lem}

-- ---- lists

spread_concat : {A B : Type 0} (f : A → List B) (l : List A) → spread f l ≡ spread (λ (m : List B). m) (map f l)
unfolding spread
spread_concat f [] = refl
spread_concat {B = B} f (a ∷ l) = ap (λ (m : List B). f a ++ m) (spread_concat f l)

spread-below : {B : Type 0} (f g : ℕ → List B) (p : ℕ → Bool) (n : ℕ) → ((i : ℕ) → i < n → p i ≡ true → f i ≡ g i) → spread f (below p n) ≡ spread g (below p n)
spread-below {B} f g p n h = spread_concat f (below p n) ∙ ap (spread (λ (m : List B). m)) (map_below f g p n h) ∙ sym (spread_concat g (below p n))

map-spread : {A B C : Type 0} (f : B → C) (g : A → List B) (l : List A) → map f (spread g l) ≡ spread (λ a. map f (g a)) l
unfolding spread
map-spread f g [] = refl
map-spread {C = C} f g (a ∷ l) = map-append f (g a) (spread g l) ∙ ap (λ (m : List C). map f (g a) ++ m) (map-spread f g l)

some_cong : (f g : ℕ → Bool) (p : ℕ → Bool) (n : ℕ) → ((i : ℕ) → i < n → p i ≡ true → f i ≡ g i) → some f (below p n) ≡ some g (below p n)
some_cong f g p n h = sym (some-map (λ (b : Bool). b) f (below p n)) ∙ ap (some (λ (b : Bool). b)) (map_below f g p n h) ∙ some-map (λ (b : Bool). b) g (below p n)

some_never : {A : Type 0} (l : List A) → some (λ a. false) l ≡ false
unfolding some
some_never [] = refl
some_never (a ∷ l) = some_never l

starts_cong : {A B : Type 0} (f : ℕ → List A) (g : ℕ → List B) (n : ℕ) → ((r : ℕ) → length (f r) ≡ length (g r)) → starts f n ≡ starts g n
unfolding starts
starts_cong f g n h = each_cong (λ r. length (joined f r)) (λ r. length (joined g r)) (suc n) (λ r l. same r)
  where
    same : (r : ℕ) → length (joined f r) ≡ length (joined g r)
    same r = joined_lengths f g r h

-- ---- one tile

zero_plus : plus_zero zero64 ≡ true
unfolding of_bits
zero_plus = refl

-- the kind and the word that a meta has
module _ (h : AbtmConfig) (mask w : ℕ) (l : w < 2 ^ 30) where
  pub word_of_meta : word_in (meta_of h mask w) ≡ w
  unfolding meta_of
  word_of_meta = omega arith

  pub kind_of_meta : kind_in (meta_of h mask w) ≤ 2
  unfolding meta_of
  kind_of_meta = let k : kind_of h (count (has mask) 64) ≤ 2 = kind_small h (count (has mask) 64) in omega arith

  module _ (v : ℕ → Float) where
    abbrev value : ℕ → Float
    value i = cond (has mask i) (v (64 * w + i)) zero64

    pub tile-stored : stored (tile_of h v mask w) ≡ map (λ i. (64 * w + i, value i)) (places mask (meta_of h mask w))
    unfolding stored tile_of
    tile-stored =
        zip_maps (λ i. 64 * word_in (meta_of h mask w) + i) value (places mask (meta_of h mask w))
        ∙ ap (λ (n : ℕ). map (λ i. (64 * n + i, value i)) (places mask (meta_of h mask w))) word_of_meta

    -- every place of the tile keeps the rule
    tile_values : ((i : ℕ) → i < 64 → has mask i ≡ true → solid (v (64 * w + i)) ≡ true) → every (value_rule mask) (stored (tile_of h v mask w)) ≡ true
    unfolding places_of members value_rule
    tile_values s =
        ap (every (value_rule mask)) tile-stored ∙ every_map (value_rule mask) (λ i. (64 * w + i, value i)) (places mask (meta_of h mask w)) ∙ over (is_dense (meta_of h mask w))
      where
        here : (i : ℕ) → i < 64 → value_rule mask (64 * w + i, value i) ≡ true
        here i l = ap (λ (n : ℕ). cond (has mask n) (solid (value i)) (plus_zero (value i))) (let e : (64 * w + i) % 64 ≡ i = omega arith in e) ∙ go (has mask i) refl
          where
            go : (t : Bool) → has mask i ≡ t → cond t (solid (cond t (v (64 * w + i)) zero64)) (plus_zero (cond t (v (64 * w + i)) zero64)) ≡ true
            go true e = s i l e
            go false e = zero_plus

        over : (t : Bool) → every (λ i. value_rule mask (64 * w + i, value i)) (cond t (below (λ i. true) 64) (below (has mask) 64)) ≡ true
        over true = every-below (λ i. value_rule mask (64 * w + i, value i)) (λ i. true) 64 (λ i l e. here i l)
        over false = every-below (λ i. value_rule mask (64 * w + i, value i)) (has mask) 64 (λ i l e. here i l)

    pub tile-keeps : ((i : ℕ) → i < 64 → has mask i ≡ true → solid (v (64 * w + i)) ≡ true) → tile_rule (tile_of h v mask w) ≡ true
    unfolding tile_rule tile_of
    tile-keeps s = and_both (leb (kind_in (meta_of h mask w)) 2) (every (value_rule mask) (stored (tile_of h v mask w))) (le-leb (kind_in (meta_of h mask w)) 2 kind_of_meta) (tile_values s)

    -- its present columns with their values
    present-places : only (λ i. has mask ((64 * w + i) % 64)) (places mask (meta_of h mask w)) ≡ members mask
    unfolding places_of members
    present-places = over (is_dense (meta_of h mask w))
      where
        same : (i : ℕ) → i < 64 → has mask ((64 * w + i) % 64) ≡ has mask i
        same i l = ap (has mask) (let e : (64 * w + i) % 64 ≡ i = omega arith in e)

        twice : (s t : Bool) → t ≡ s → (s && t) ≡ s
        twice true t e = e
        twice false t e = refl

        over : (t : Bool) → only (λ i. has mask ((64 * w + i) % 64)) (cond t (below (λ i. true) 64) (below (has mask) 64)) ≡ below (has mask) 64
        over true = sym (below-only (λ i. true) (λ i. has mask ((64 * w + i) % 64)) 64) ∙ below_cong (λ i. true && has mask ((64 * w + i) % 64)) (has mask) 64 same
        over false = sym (below-only (has mask) (λ i. has mask ((64 * w + i) % 64)) 64) ∙ below_cong (λ i. has mask i && has mask ((64 * w + i) % 64)) (has mask) 64 (λ i l. twice (has mask i) (has mask ((64 * w + i) % 64)) (same i l))

    pub tile-entries : only (λ (x : Entry). has mask (x.0 % 64)) (stored (tile_of h v mask w)) ≡ map (λ c. (c, v c)) (columns_in w mask)
    unfolding members
    tile-entries =
        ap (only (λ (x : Entry). has mask (x.0 % 64))) tile-stored
        ∙ only-map (λ (x : Entry). has mask (x.0 % 64)) (λ i. (64 * w + i, value i)) (places mask (meta_of h mask w))
        ∙ ap (map (λ i. (64 * w + i, value i))) present-places
        ∙ map_below (λ i. (64 * w + i, value i)) (λ i. (64 * w + i, v (64 * w + i))) (has mask) 64 (λ i l e. ap (λ (b : Bool). (64 * w + i, cond b (v (64 * w + i)) zero64)) e)
        ∙ sym (map-map (λ c. (c, v c)) (λ i. 64 * w + i) (below (has mask) 64))

-- ---- tiles one after another: their values can be cut out again

-- a tile has a value for each of its places
abbrev whole : Tile → Bool
whole e = eqb (length e.slots) (length (places e.mask e.meta))

tile-whole : (h : AbtmConfig) (v : ℕ → Float) (mask w : ℕ) → whole (tile_of h v mask w) ≡ true
unfolding tile_of
tile-whole h v mask w = eq-eqb (length (map (λ i. cond (has mask i) (v (64 * w + i)) zero64) (places mask (meta_of h mask w)))) (length (places mask (meta_of h mask w))) (length-map (places mask (meta_of h mask w)) (λ i. cond (has mask i) (v (64 * w + i)) zero64))

cut_out : (front mid rest : List Float) (a b : ℕ) → length front ≡ a → b ≡ a + length mid → slice a b (front ++ (mid ++ rest)) ≡ mid
cut_out front mid rest a b e f =
    ap (λ (l : List Float). drop a (take b l)) (sym (append_assoc front mid rest))
    ∙ ap (drop a) (take_at (front ++ mid) rest b (omega (arith, e, f, length-append front mid)))
    ∙ drop_at front mid a e

-- as they are listed, the first at place k
abbrev listing : ℕ → List Tile → List Listed
listing k ts = zip (masks_of ts) (zip (offsets_of k ts) (metas_of ts))

here : (t : Tile) (ts : List Tile) (k : ℕ) (front : List Float) → length front ≡ k → whole t ≡ true → tile_at (front ++ (t.slots ++ slots_of ts)) (t.mask, (k, t.meta)) ≡ t
unfolding tile_at
here t ts k front e w =
    let n : length t.slots ≡ length (places t.mask t.meta) = eqb-true (length t.slots) (length (places t.mask t.meta)) w in
    ap (λ (l : List Float). record { mask = t.mask; meta = t.meta; slots = l }) (cut_out front t.slots (slots_of ts) k (k + length (places t.mask t.meta)) e (ap (λ (j : ℕ). k + j) (sym n)))

read_back : (ts : List Tile) (k : ℕ) (front : List Float) → length front ≡ k → every whole ts ≡ true → map (tile_at (front ++ slots_of ts)) (listing k ts) ≡ ts
unfolding every zip zip_with laid spread
read_back [] k front e w = refl
read_back (t ∷ ts) k front e w =
    let n : ℕ = length t.slots in
    let one : whole t ≡ true = and_left (whole t) (every whole ts) w in
    ap₂ (λ (x : Tile) (l : List Tile). x ∷ l) (here t ts k front e one)
    (ap (λ (vs : List Float). map (tile_at vs) (listing (k + n) ts)) (sym (append_assoc front t.slots (slots_of ts)))
    ∙ read_back ts (k + n) (front ++ t.slots) (length-append front t.slots ∙ ap (λ (j : ℕ). j + n) e) (and_right (whole t) (every whole ts) w))

gapless-listing : (ts : List Tile) (k n : ℕ) → n ≡ k + length (slots_of ts) → every whole ts ≡ true → gapless k n (listing k ts) ≡ true
unfolding every zip zip_with laid spread gapless
gapless-listing [] k n e w = eq-eqb k n (sym (e ∙ add-zero k))
gapless-listing (t ∷ ts) k n e w =
    let one : length t.slots ≡ length (places t.mask t.meta) = eqb-true (length t.slots) (length (places t.mask t.meta)) (and_left (whole t) (every whole ts) w) in
    and_both (eqb k k) (gapless (k + length (places t.mask t.meta)) n (listing (k + length t.slots) ts)) (eq-eqb k k refl)
    (ap (λ (j : ℕ). gapless (k + j) n (listing (k + length t.slots) ts)) (sym one)
    ∙ gapless-listing ts (k + length t.slots) n (omega (arith, e, length-append t.slots (slots_of ts))) (and_right (whole t) (every whole ts) w))

-- ---- the record of the membership p and the values v

module _ (rows cols : ℕ) (h : AbtmConfig) (p : ℕ → ℕ → Bool) (v : ℕ → ℕ → Float) (small : cols ≤ 2 ^ 20) where
  abbrev t : Tiles
  t = tiles_of rows cols h p v

  abbrev row_at : ℕ → List Tile
  row_at r = row_tiles_of h cols (p r) (v r)

  abbrev ts : List Tile
  ts = joined row_at rows

  abbrev words : ℕ → List ℕ
  words r = words_of (p r) cols

  -- its words are those of the membership
  row_numbers : (r : ℕ) → map word_in (metas_of (row_at r)) ≡ words r
  unfolding row_tiles_of words_of tile_of
  row_numbers r =
      map-map word_in (λ (e : Tile). e.meta) (row_at r)
      ∙ map-map (λ (e : Tile). word_in e.meta) (λ w. tile_of h (v r) (mask_of (p r) cols w) w) (words r)
      ∙ map_below (λ w. word_in (meta_of h (mask_of (p r) cols w) w)) (λ w. w) (hit (p r) cols) (ceil64 cols) (λ w l k. word_of_meta h (mask_of (p r) cols w) w (omega arith))
      ∙ map_id (words r)

  row_masks_lem : (r : ℕ) → masks_of (row_at r) ≡ map (mask_of (p r) cols) (words r)
  unfolding row_tiles_of tile_of
  row_masks_lem r = map-map (λ (e : Tile). e.mask) (λ w. tile_of h (v r) (mask_of (p r) cols w) w) (words r)

  row_long : (r : ℕ) → length (row_at r) ≡ length (words r)
  unfolding row_tiles_of
  row_long r = length-map (words r) (λ w. tile_of h (v r) (mask_of (p r) cols w) w)

  pub words_of_tiles : tile_words t ≡ topology_of rows cols p
  unfolding tiles_of topology_of
  words_of_tiles = λ i. record {
    rows = rows;
    cols = cols;
    ptr = starts_cong row_at words rows row_long i;
    word = (map-map word_in (λ (e : Tile). e.meta) ts ∙ map-joined (λ (e : Tile). word_in e.meta) row_at rows ∙ joined_cong (λ r. map (λ (e : Tile). word_in e.meta) (row_at r)) words rows (λ r l. sym (map-map word_in (λ (e : Tile). e.meta) (row_at r)) ∙ row_numbers r)) i;
    mask = (map-joined (λ (e : Tile). e.mask) row_at rows ∙ joined_cong (λ r. masks_of (row_at r)) (λ r. map (mask_of (p r) cols) (words r)) rows (λ r l. row_masks_lem r)) i;
    total = length (joined (λ r. below (p r) cols) rows);
  }

  -- its tiles can be read back
  all_whole : every whole ts ≡ true
  unfolding row_tiles_of
  all_whole = every-joined whole row_at rows (λ r l. every_map whole (λ w. tile_of h (v r) (mask_of (p r) cols w) w) (words r) ∙ every-all (λ w. whole (tile_of h (v r) (mask_of (p r) cols w) w)) (words r) (λ w. tile-whole h (v r) (mask_of (p r) cols w) w))

  pub tiles_read : map (tile_at t.vals) (listed_tiles t) ≡ ts
  unfolding tiles_of listed_tiles
  tiles_read = read_back ts 0 [] refl all_whole

  part_of : (r : ℕ) → r < rows → part t.ptr ts r ≡ row_at r
  unfolding tiles_of
  part_of r l = part-joined row_at row_at rows r (λ r. refl) l

  offsets_long : length t.offset ≡ length t.meta
  unfolding tiles_of
  offsets_long = laid_long 0 (map (λ (e : Tile). length e.slots) ts) ∙ length-map ts (λ (e : Tile). length e.slots) ∙ sym (length-map ts (λ (e : Tile). e.meta))

  masks_long : length t.mask ≡ length ts
  unfolding tiles_of
  masks_long = length-map ts (λ (e : Tile). e.mask)

  metas_long : length t.meta ≡ length ts
  unfolding tiles_of
  metas_long = length-map ts (λ (e : Tile). e.meta)

  sizes_fit_lem : rows ≤ 2 ^ 20 → length ts ≤ 2 ^ 24 → tile_sizes t ≡ true
  unfolding tile_sizes sizes_fit tiles_of
  sizes_fit_lem a b =
      and_both (few rows && few cols && many (length t.mask) && many (length t.meta)) (many (length t.offset))
      (and-four (few rows) (few cols) (many (length t.mask)) (many (length t.meta)) (le-leb rows (2 ^ 20) a) (le-leb cols (2 ^ 20) small) (le-leb (length t.mask) (2 ^ 24) (omega (arith, masks_long, b))) (le-leb (length t.meta) (2 ^ 24) (omega (arith, metas_long, b))))
      (le-leb (length t.offset) (2 ^ 24) (omega (arith, offsets_long, metas_long, b)))

  gapless-all : gapless 0 (length t.vals) (listed_tiles t) ≡ true
  unfolding tiles_of listed_tiles
  gapless-all = gapless-listing ts 0 (length (slots_of ts)) (let z : length (slots_of ts) ≡ 0 + length (slots_of ts) = omega arith in z) all_whole

  pub row_of_tiles : (r : ℕ) → r < rows → row_tiles t r ≡ row_at r
  unfolding row_tiles
  row_of_tiles r l =
      ap (map (tile_at t.vals)) (sym (row_listed_lem t r)) ∙ sym (part-map t.ptr (tile_at t.vals) (listed_tiles t) r) ∙ ap (λ (l : List Tile). part t.ptr l r) tiles_read
      ∙ part_of r l

  -- 12 finds nothing, where no value of the membership is NaN or zero
  module _ (good : (r c : ℕ) → r < rows → c < cols → p r c ≡ true → solid (v r c) ≡ true) where
    all_keep : every tile_rule ts ≡ true
    unfolding row_tiles_of words_of
    all_keep = every-joined tile_rule row_at rows (λ r l. every_map tile_rule (λ w. tile_of h (v r) (mask_of (p r) cols w) w) (words r) ∙ every-below (λ w. tile_rule (tile_of h (v r) (mask_of (p r) cols w) w)) (hit (p r) cols) (ceil64 cols)
        (λ w k e. tile-keeps h (mask_of (p r) cols w) w (omega arith) (v r) (λ i j m. at_place r l w i (sym (has-mask_of (p r) cols w i j) ∙ m))))
      where
        at_place : (r : ℕ) → r < rows → (w i : ℕ) → within cols (p r) (64 * w + i) ≡ true → solid (v r (64 * w + i)) ≡ true
        at_place r l w i m =
            good r (64 * w + i) l (ltb-true (64 * w + i) cols (and_left (ltb (64 * w + i) cols) (p r (64 * w + i)) m)) (and_right (ltb (64 * w + i) cols) (p r (64 * w + i)) m)

    slots_keep : slot_rules t.vals (listed_tiles t) ≡ true
    unfolding slot_rules
    slots_keep =
        and_both (gapless 0 (length t.vals) (listed_tiles t)) (every (λ e. tile_rule (tile_at t.vals e)) (listed_tiles t)) follows
        (sym (every_map tile_rule (tile_at t.vals) (listed_tiles t)) ∙ ap (every tile_rule) tiles_read ∙ all_keep)
      where
        follows : gapless 0 (length t.vals) (listed_tiles t) ≡ true
        follows = gapless-all

    pub tiles_keep : tiles_rules t ≡ true
    unfolding tiles_rules
    tiles_keep =
        and_both (word_rules (tile_words t) && eqb (length t.offset) (length t.meta)) (slot_rules t.vals (listed_tiles t))
        (and_both (word_rules (tile_words t)) (eqb (length t.offset) (length t.meta)) (ap word_rules words_of_tiles ∙ topology_accepted rows cols p) (eq-eqb (length t.offset) (length t.meta) offsets_long)) slots_keep

    pub tiles_accepted : rows ≤ 2 ^ 20 → length ts ≤ 2 ^ 24 → tiles_answer t ≡ accepted
    unfolding tiles_answer
    tiles_accepted a b = ap₂ (λ (x y : Bool). demand x 1 and_then demand y 12) (sizes_fit_lem a b) tiles_keep

  -- its rows list the columns of the membership with their values, ascending
  pub entries_of_tiles : (r : ℕ) → r < rows → tile_entries t r ≡ map (λ c. (c, v r c)) (below (p r) cols)
  unfolding tile_entries row_tiles_of words_of tile_of
  entries_of_tiles r l =
      let F : Tile → List Entry = λ (e : Tile). only (λ (x : Entry). has e.mask (x.0 % 64)) (stored e) in
      let m : ℕ → ℕ = mask_of (p r) cols in
      ap (spread F) (row_of_tiles r l) ∙ spread-map F (λ w. tile_of h (v r) (m w) w) (words r)
      ∙ spread-below (λ w. F (tile_of h (v r) (m w) w)) (λ w. map (λ c. (c, v r c)) (columns_in w (m w))) (hit (p r) cols) (ceil64 cols) (λ w k e. tile-entries h (m w) w (omega arith) (v r))
      ∙ sym (map-spread (λ c. (c, v r c)) (λ w. columns_in w (m w)) (words r)) ∙ ap (map (λ c. (c, v r c))) (sym (by_words (p r) cols))

  -- and its columns are exactly those of the membership
  module _ (r c : ℕ) where
    abbrev mask : ℕ → ℕ
    mask = mask_of (p r) cols

    abbrev found : ℕ → Bool
    found w = eqb w (c / 64) && has (mask w) (c % 64)

    row_found : some (in_tile c) (row_at r) ≡ some found (words r)
    unfolding row_tiles_of words_of tile_of
    row_found =
        some-map (in_tile c) (λ w. tile_of h (v r) (mask w) w) (words r)
        ∙ some_cong (λ w. in_tile c (tile_of h (v r) (mask w) w)) found (hit (p r) cols) (ceil64 cols) (λ w k e. ap (λ (n : ℕ). eqb n (c / 64) && has (mask w) (c % 64)) (word_of_meta h (mask w) w (omega arith)))

    at_word : (w : ℕ) → within cols (p r) c ≡ false → found w ≡ false
    at_word w e = go (eqb w (c / 64)) refl
      where
        go : (t : Bool) → eqb w (c / 64) ≡ t → (t && has (mask w) (c % 64)) ≡ false
        go true k = ap (λ (n : ℕ). has (mask n) (c % 64)) (eqb-true w (c / 64) k) ∙ has-mask-at (p r) cols c ∙ e
        go false k = refl

    found_is : (b : Bool) → within cols (p r) c ≡ b → some found (words r) ≡ b
    unfolding words_of
    found_is true e =
        let l : (ltb (c / 64) (ceil64 cols) && hit (p r) cols (c / 64)) ≡ true = has_listed (p r) cols c e in
        some_below found (hit (p r) cols) (ceil64 cols) (c / 64) (ltb-true (c / 64) (ceil64 cols) (and_left (ltb (c / 64) (ceil64 cols)) (hit (p r) cols (c / 64)) l)) (and_right (ltb (c / 64) (ceil64 cols)) (hit (p r) cols (c / 64)) l)
        (and_both (eqb (c / 64) (c / 64)) (has (mask (c / 64)) (c % 64)) (eq-eqb (c / 64) (c / 64) refl) (has-mask-at (p r) cols c ∙ e))
    found_is false e = some_cong found (λ w. false) (hit (p r) cols) (ceil64 cols) (λ w k f. at_word w e) ∙ some_never (words r)

    pub in_tiles_lem : r < rows → in_tiles t r c ≡ within cols (p r) c
    unfolding in_tiles
    in_tiles_lem l = ap (some (in_tile c)) (row_of_tiles r l) ∙ row_found ∙ found_is (within cols (p r) c) refl
