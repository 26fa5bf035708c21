-- What an accepted record of tiles says: of its lists, of each row and of each listed tile. Assumes nothing.
use Rattle.std.proofs.Common.{◌≡◌, ℕ, ◌+◌, ◌-◌, ◌^◌, ◌<◌, ◌≤◌, Bool, true, ◌&&◌, eqb, leb, List, [], ◌∷◌, map, length, get_or, take, drop, sym, refl, ap, ◌∙◌, ap₂, add-one, arith, drop_of_length-le, drop-cons, eqb-true, le-leb, leb-true}
use mathlib.Core.List.{zip, zip_with}
use lib.ListN.{length-map}
use Rattle.hybit_core.specs.Answer.{accepted, demand}
use Rattle.hybit_core.specs.Domain.{few, many, sizes_fit}
use Rattle.hybit_core.proofs.BoolLaws.{and_left, and_right, and_both}
use Rattle.hybit_core.proofs.AnswerLaws.{demand_accepted, then_first, then_second}
use Rattle.lent.specs.Lists.{part, every, climbs}
use Rattle.lent.proofs.ListLaws.{part_lent, every-part, every-get_or}
use Rattle.word.proofs.BitLaws.{every-below-at}
use Rattle.csr32.specs.Csr.{framed_lists}
use Rattle.csr32.proofs.FrameLaws.{RowIn, row_right, lists_sides, part_lengths}
use Rattle.topology.specs.Words.{Words, word_rule, row_rule, row_rules, set_bits, word_rules}
use Rattle.topology.proofs.TopologyLaws.{Accepted}
use Rattle.abtm.specs.Tiles.{Tiles, Listed, word_in, kind_in, places, slot_count, stored, value_rule, tile_at, listed_tiles, tile_words, tile_sizes, tile_rule, gapless, slot_rules, tiles_rules, tiles_answer}
use Rattle.lent.proofs.PartLaws.{part-zip, part-map, get_d_zip, length-zip}

-- ---- the tile at place i of three lists

module _ (ms os ks : List ℕ) (so : length os ≡ length ms) (sk : length ks ≡ length ms) where
  pairs_long : length (zip os ks) ≡ length ms
  pairs_long = length-zip os ks (sk ∙ sym so) ∙ so

  pub length-listed : length (zip ms (zip os ks)) ≡ length ms
  length-listed = length-zip ms (zip os ks) pairs_long

  -- o is its offset, as the code reads it
  module _ (i o : ℕ) (h : i < length ms) (e : o ≡ get_or os i 0) where
    pub listed_at : get_or (zip ms (zip os ks)) i (0, (0, 0)) ≡ (get_or ms i 0, (o, get_or ks i 0))
    listed_at =
        get_d_zip ms (zip os ks) i 0 (0, 0) h (omega (arith, pairs_long))
        ∙ ap (λ (p : ℕ × ℕ). (get_or ms i 0, p)) (get_d_zip os ks i 0 0 (omega arith) (omega arith) ∙ ap (λ (n : ℕ). (n, get_or ks i 0)) (sym e))

    pub rest-listed : drop i (zip ms (zip os ks)) ≡ (get_or ms i 0, (o, get_or ks i 0)) ∷ drop (i + 1) (zip ms (zip os ks))
    rest-listed =
        drop-cons (zip ms (zip os ks)) i (0, (0, 0)) (omega (arith, length-listed))
        ∙ ap₂ (λ (x : Listed) (j : ℕ). x ∷ drop j (zip ms (zip os ks))) listed_at (sym (add-one i))

  pub listed : (i : ℕ) → i < length ms → drop i (zip ms (zip os ks)) ≡ (get_or ms i 0, (get_or os i 0, get_or ks i 0)) ∷ drop (i + 1) (zip ms (zip os ks))
  listed i h = rest-listed i (get_or os i 0) h refl

  pub none-listed : (i : ℕ) → length ms ≤ i → drop i (zip ms (zip os ks)) ≡ []
  none-listed i h =
      let over : length (zip ms (zip os ks)) ≤ i = omega (arith, length-listed, h) in
      drop_of_length-le (zip ms (zip os ks)) over

-- ---- the facts of a record

pub record AcceptedTiles (t : Tiles) : Type 0 where
  pub rows_in : t.rows ≤ 2 ^ 20
  pub cols_in : t.cols ≤ 2 ^ 20
  pub tiles_in : length t.mask ≤ 2 ^ 24
  pub words : Accepted (tile_words t)
  pub metas_long : length t.meta ≡ length t.mask
  pub offsets_long : length t.offset ≡ length t.mask
  pub slots : slot_rules t.vals (listed_tiles t) ≡ true

-- the facts of words that keep their rules
words_facts : (t : Words) → t.rows ≤ 2 ^ 20 → t.cols ≤ 2 ^ 20 → length t.word ≤ 2 ^ 24 → word_rules t ≡ true → Accepted t
unfolding word_rules row_rules
words_facts t a b c w =
    let f : Bool = framed_lists t.rows t.ptr (length t.word) (length t.mask) in
    let fr : (f && row_rules t) ≡ true = and_left (f && row_rules t) (eqb t.total (set_bits t.mask)) w in
    record {
      rows_in = a;
      cols_in = b;
      words_in = c;
      lists = and_left f (row_rules t) fr;
      each_row = λ r l. every-below-at (λ r. row_rule t.cols (part t.ptr t.word r) (part t.ptr t.mask r)) (λ r. true) t.rows r (and_right f (row_rules t) fr) l refl;
      total_is = eqb-true t.total (set_bits t.mask) (and_right (f && row_rules t) (eqb t.total (set_bits t.mask)) w);
    }

pub rules_facts : (t : Tiles) → tile_sizes t ≡ true → tiles_rules t ≡ true → AcceptedTiles t
unfolding tile_sizes sizes_fit tiles_rules
rules_facts t s w =
    let three : Bool = few t.rows && few t.cols && many (length t.mask) in
    let s1 : (three && many (length t.meta)) ≡ true = and_left (three && many (length t.meta)) (many (length t.offset)) s in
    let s2 : three ≡ true = and_left three (many (length t.meta)) s1 in
    let s3 : (few t.rows && few t.cols) ≡ true = and_left (few t.rows && few t.cols) (many (length t.mask)) s2 in
    let rs : t.rows ≤ 2 ^ 20 = leb-true t.rows (2 ^ 20) (and_left (few t.rows) (few t.cols) s3) in
    let cs : t.cols ≤ 2 ^ 20 = leb-true t.cols (2 ^ 20) (and_right (few t.rows) (few t.cols) s3) in
    let ms : length t.meta ≤ 2 ^ 24 = leb-true (length t.meta) (2 ^ 24) (and_right three (many (length t.meta)) s1) in
    let w1 : (word_rules (tile_words t) && eqb (length t.offset) (length t.meta)) ≡ true =
    and_left (word_rules (tile_words t) && eqb (length t.offset) (length t.meta)) (slot_rules t.vals (listed_tiles t)) w in
    let ls : length (map word_in t.meta) ≡ length t.meta = length-map t.meta word_in in
    let k : Accepted (tile_words t) = words_facts (tile_words t) rs cs (omega (arith, ls, ms)) (and_left (word_rules (tile_words t)) (eqb (length t.offset) (length t.meta)) w1) in
    let os : length t.offset ≡ length t.meta = eqb-true (length t.offset) (length t.meta) (and_right (word_rules (tile_words t)) (eqb (length t.offset) (length t.meta)) w1) in
    let sides : length (map word_in t.meta) ≡ length t.mask = lists_sides t.rows t.ptr (length (map word_in t.meta)) (length t.mask) k.lists in
    record {
      rows_in = rs;
      cols_in = cs;
      tiles_in = leb-true (length t.mask) (2 ^ 24) (and_right (few t.rows && few t.cols) (many (length t.mask)) s2);
      words = k;
      metas_long = sym ls ∙ sides;
      offsets_long = os ∙ sym ls ∙ sides;
      slots = and_right (word_rules (tile_words t) && eqb (length t.offset) (length t.meta)) (slot_rules t.vals (listed_tiles t)) w;
    }

pub tiles_facts : (t : Tiles) → tiles_answer t ≡ accepted → AcceptedTiles t
unfolding tiles_answer
tiles_facts t e =
    rules_facts t
    (demand_accepted _ _ (then_first (demand (tile_sizes t) 1) (demand (tiles_rules t) 12) e))
    (demand_accepted _ _ (then_second (demand (tile_sizes t) 1) (demand (tiles_rules t) 12) e))

-- ---- values without gaps

pub gapless-le : (k n : ℕ) (l : List Listed) → gapless k n l ≡ true → k ≤ n
unfolding gapless
gapless-le k n [] e = omega (arith, eqb-true k n e)
gapless-le k n (x ∷ l) e = omega (arith, gapless-le (k + slot_count x) n l (and_right (eqb x.1.0 k) (gapless (k + slot_count x) n l) e))

-- a listed tile's values lie in a list of n values
abbrev pub slots_inside : ℕ → Listed → Bool
slots_inside n e = leb (e.1.0 + slot_count e) n

pub gapless-inside : (k n : ℕ) (l : List Listed) → gapless k n l ≡ true → every (slots_inside n) l ≡ true
unfolding gapless every
gapless-inside k n [] e = refl
gapless-inside k n (x ∷ l) e =
    let at : x.1.0 ≡ k = eqb-true x.1.0 k (and_left (eqb x.1.0 k) (gapless (k + slot_count x) n l) e) in
    let rest : gapless (k + slot_count x) n l ≡ true = and_right (eqb x.1.0 k) (gapless (k + slot_count x) n l) e in
    and_both (slots_inside n x) (every (slots_inside n) l)
    (le-leb (x.1.0 + slot_count x) n (omega (arith, at, gapless-le (k + slot_count x) n l rest)))
    (gapless-inside (k + slot_count x) n l rest)

-- ---- the tiles of a record

-- the tiles that a row lists
abbrev pub row_listed : Tiles → ℕ → List Listed
row_listed t r = zip (part t.ptr t.mask r) (zip (part t.ptr t.offset r) (part t.ptr t.meta r))

pub row_listed_lem : (t : Tiles) (r : ℕ) → part t.ptr (listed_tiles t) r ≡ row_listed t r
unfolding listed_tiles
row_listed_lem t r =
    part-zip t.ptr t.mask (zip t.offset t.meta) r
    ∙ ap (λ (l : List (ℕ × ℕ)). zip (part t.ptr t.mask r) l) (part-zip t.ptr t.offset t.meta r)

-- a test of word and mask, as the words of a row have it and as its tiles have it
words-listed : (p : ℕ × ℕ → Bool) (ms os ks : List ℕ) → every p (zip (map word_in ks) ms) ≡ true → every (λ (e : Listed). p (word_in e.1.1, e.0)) (zip ms (zip os ks)) ≡ true
unfolding every zip zip_with
words-listed p [] os ks e = refl
words-listed p (m ∷ ms) [] ks e = refl
words-listed p (m ∷ ms) (o ∷ os) [] e = refl
words-listed p (m ∷ ms) (o ∷ os) (k ∷ ks) e =
    and_both (p (word_in k, m)) (every (λ (e : Listed). p (word_in e.1.1, e.0)) (zip ms (zip os ks)))
    (and_left (p (word_in k, m)) (every p (zip (map word_in ks) ms)) e) (words-listed p ms os ks (and_right (p (word_in k, m)) (every p (zip (map word_in ks) ms)) e))

-- row r of the lists, from b up to z
pub record RowPlaces (t : Tiles) (r b z : ℕ) : Type 0 where
  pub here : r < length t.ptr
  pub next : r + 1 < length t.ptr
  pub order : b ≤ z
  pub in_masks : z ≤ length t.mask
  pub in_offsets : z ≤ length t.offset
  pub in_metas : z ≤ length t.meta

-- what holds of every tile, of the row's
of_row : (t : Tiles) (p : Listed → Bool) (r : ℕ) → every p (listed_tiles t) ≡ true → every p (row_listed t r) ≡ true
of_row t p r e = sym (ap (every p) (row_listed_lem t r)) ∙ every-part p t.ptr (listed_tiles t) r e

module _ (t : Tiles) (a : AcceptedTiles t) where
  -- every tile's values lie in the list and keep their rules
  pub all-inside : every (slots_inside (length t.vals)) (listed_tiles t) ≡ true
  unfolding slot_rules
  all-inside = gapless-inside 0 (length t.vals) (listed_tiles t) (and_left (gapless 0 (length t.vals) (listed_tiles t)) (every (λ e. tile_rule (tile_at t.vals e)) (listed_tiles t)) a.slots)

  pub all_rules : every (λ e. tile_rule (tile_at t.vals e)) (listed_tiles t) ≡ true
  unfolding slot_rules
  all_rules = and_right (gapless 0 (length t.vals) (listed_tiles t)) (every (λ e. tile_rule (tile_at t.vals e)) (listed_tiles t)) a.slots

  -- its place in the lists
  pub tile-listed : (k : ℕ) → k < length t.mask → get_or (listed_tiles t) k (0, (0, 0)) ≡ (get_or t.mask k 0, (get_or t.offset k 0, get_or t.meta k 0))
  unfolding listed_tiles
  tile-listed k h = listed_at t.mask t.offset t.meta a.offsets_long a.metas_long k (get_or t.offset k 0) h refl

  module _ (k : ℕ) (h : k < length t.mask) where
    long : k < length (listed_tiles t)
    unfolding listed_tiles
    long = omega (arith, h, length-listed t.mask t.offset t.meta a.offsets_long a.metas_long)

    pub tile-inside : get_or t.offset k 0 + length (places (get_or t.mask k 0) (get_or t.meta k 0)) ≤ length t.vals
    tile-inside =
        leb-true (get_or t.offset k 0 + length (places (get_or t.mask k 0) (get_or t.meta k 0))) (length t.vals)
        (sym (ap (slots_inside (length t.vals)) (tile-listed k h)) ∙ every-get_or (slots_inside (length t.vals)) (listed_tiles t) k (0, (0, 0)) all-inside long)

    pub tile_rule_lem : tile_rule (tile_at t.vals (get_or t.mask k 0, (get_or t.offset k 0, get_or t.meta k 0))) ≡ true
    tile_rule_lem =
        sym (ap (λ (e : Listed). tile_rule (tile_at t.vals e)) (tile-listed k h))
        ∙ every-get_or (λ (e : Listed). tile_rule (tile_at t.vals e)) (listed_tiles t) k (0, (0, 0)) all_rules long

    pub tile_kind : kind_in (get_or t.meta k 0) ≤ 2
    unfolding tile_rule tile_at
    tile_kind = leb-true (kind_in (get_or t.meta k 0)) 2 (and_left (leb (kind_in (get_or t.meta k 0)) 2) (every (value_rule (get_or t.mask k 0)) (stored (tile_at t.vals (get_or t.mask k 0, (get_or t.offset k 0, get_or t.meta k 0))))) tile_rule_lem)

  module _ (r : ℕ) (h : r < t.rows) where
    -- a row of each of the three lists can be read
    pub masks_row : RowIn t.ptr (length t.mask) r
    masks_row = row_right t.rows t.ptr (length (map word_in t.meta)) (length t.mask) a.words.lists r h

    pub metas_row : RowIn t.ptr (length t.meta) r
    metas_row = rw a.metas_long masks_row

    pub offsets_row : RowIn t.ptr (length t.offset) r
    offsets_row = rw a.offsets_long masks_row

    -- its parts are of one length
    pub metas_same : length (part t.ptr t.meta r) ≡ length (part t.ptr t.mask r)
    metas_same = part_lengths t.ptr t.meta t.mask r a.metas_long

    pub offsets_same : length (part t.ptr t.offset r) ≡ length (part t.ptr t.mask r)
    offsets_same = part_lengths t.ptr t.offset t.mask r a.offsets_long

    -- and its tiles keep their rules
    pub row_inside : every (slots_inside (length t.vals)) (row_listed t r) ≡ true
    row_inside = of_row t (slots_inside (length t.vals)) r all-inside

    pub row_rules_lem : every (λ e. tile_rule (tile_at t.vals e)) (row_listed t r) ≡ true
    row_rules_lem = of_row t (λ e. tile_rule (tile_at t.vals e)) r all_rules

    -- the rule of the row's words, and that of each of them as its tile has it
    pub row_climbs : row_rule t.cols (map word_in (part t.ptr t.meta r)) (part t.ptr t.mask r) ≡ true
    row_climbs = sym (ap (λ (l : List ℕ). row_rule t.cols l (part t.ptr t.mask r)) (part-map t.ptr word_in t.meta r)) ∙ a.words.each_row r h

    pub row_words_lem : every (λ (e : Listed). word_rule t.cols (word_in e.1.1, e.0)) (row_listed t r) ≡ true
    unfolding row_rule
    row_words_lem =
        words-listed (word_rule t.cols) (part t.ptr t.mask r) (part t.ptr t.offset r) (part t.ptr t.meta r)
        (and_right (climbs 0 (map word_in (part t.ptr t.meta r))) (every (word_rule t.cols) (zip (map word_in (part t.ptr t.meta r)) (part t.ptr t.mask r))) row_climbs)

  -- a row by its two pointers, as the code reads them
  module _ (r b z : ℕ) (h : r < t.rows) (eb : b ≡ get_or t.ptr r 0) (ez : z ≡ get_or t.ptr (r + 1) 0) where
    pub row_places : RowPlaces t r b z
    row_places =
        let m : RowIn t.ptr (length t.mask) r = masks_row r h in
        record {
          here = m.here;
          next = m.next;
          order = omega (arith, m.order);
          in_masks = omega (arith, m.inside);
          in_offsets = omega (arith, m.inside, a.offsets_long);
          in_metas = omega (arith, m.inside, a.metas_long);
        }

    pub lent_row : {A : Type 0} (l : List A) → take (z - b) (drop b l) ≡ part t.ptr l r
    lent_row l = part_lent t.ptr l r b z eb ez

    pub lent_offsets : length (take (z - b) (drop b t.offset)) ≡ length (take (z - b) (drop b t.mask))
    lent_offsets = ap length (lent_row t.offset) ∙ offsets_same r h ∙ sym (ap length (lent_row t.mask))

    pub lent_metas : length (take (z - b) (drop b t.meta)) ≡ length (take (z - b) (drop b t.mask))
    lent_metas = ap length (lent_row t.meta) ∙ metas_same r h ∙ sym (ap length (lent_row t.mask))

    pub lent_listed : zip (take (z - b) (drop b t.mask)) (zip (take (z - b) (drop b t.offset)) (take (z - b) (drop b t.meta))) ≡ row_listed t r
    lent_listed = λ i. zip (lent_row t.mask i) (zip (lent_row t.offset i) (lent_row t.meta i))
