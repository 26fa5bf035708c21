-- A listed tile whose values and word lie in their lists: as the code reads it, where its values stand, and what it keeps. Assumes
-- nothing.
use mathlib.Core.Bool.{Bool, true, false, cond, ◌&&◌}
use mathlib.Core.List.{List, [], ◌∷◌, ◌++◌, map, zip, zip_with, map-map, append-nil}
use mathlib.Core.Path.{◌≡◌, refl, sym, ap, ap₂, ◌∙◌}
use Prim.Native.Nat.{ℕ, ◌+◌, ◌*◌, ◌≤◌, ◌<◌, ◌^◌}
use native.Mathlib.Numerals.{add-one}
use native.Mathlib.Omega.{arith}
use lib.Dec.{eqb, leb, ltb}
use lib.ListN.{length, get_or, take, length-append, length-map}
use lib.Seq.{take-suc}
use lib.Ieee.{Float, nan}
use borrow.Author.Tests.{leb-true, ltb-true, lt-ltb}
use Rattle.hybit_core.specs.Floats.{finite}
use Rattle.hybit_core.proofs.BoolLaws.{and_left, and_right, and_both}
use Rattle.lent.specs.Lists.{every, spread}
use Rattle.lent.proofs.ListLaws.{every-get_or, every_map, every_append, spread-append}
use Rattle.word.specs.Bits.{has, below, count, members, word_of}
use Rattle.word.proofs.BelowLaws.{rank_lt, all-places}
use Rattle.word.proofs.BitLaws.{every-below}
use Rattle.word.proofs.OpLaws.{has_word}
use Rattle.csr32.specs.Csr.{Entry}
use Rattle.abtm.specs.Tiles.{Listed, word_in, kind_in, places_of, places}
use Rattle.abtm_check.proofs.TilesLaws.{length-listed, listed_at}
use Rattle.restricted_abtm.specs.Kept.{place_in, value_in, entry_in, active_bits, kept_of, kept_all, kept_count, bits_inside, tile_ready}
use Rattle.restricted_abtm.proofs.BitsLaws.{members-few}

-- ---- the place of a present column is one of the tile's

pub place_few : (meta mask i : ℕ) → i < 64 → has mask i ≡ true → place_in meta mask i < length (places mask meta)
unfolding place_in places_of members
place_few meta mask i l h = go (eqb (kind_in meta) 2)
  where
    go : (t : Bool) → cond t i (count (has mask) i) < length (cond t (below (λ i. true) 64) (below (has mask) 64))
    go true = omega (arith, all-places)
    go false = rank_lt (has mask) i 64 l h

-- the active members of a mask are members of it
active-member : (ws : List ℕ) (mask meta i : ℕ) → i < 64 → has (active_bits ws mask meta) i ≡ true → has mask i ≡ true
unfolding active_bits
active-member ws mask meta i l h =
    let w : ℕ → Bool = λ i. has mask i && has (get_or ws (word_in meta) 0) i in
    and_left (has mask i) (has (get_or ws (word_in meta) 0) i) (sym (has_word w i l) ∙ h)

-- ---- one tile

module _ (nv nw : ℕ) (e : Listed) (ok : tile_ready nv nw e ≡ true) where
  pub ready_word : word_in e.1.1 < nw
  unfolding tile_ready
  ready_word = ltb-true (word_in e.1.1) nw (and_right (leb (e.1.0 + length (places e.0 e.1.1)) nv) (ltb (word_in e.1.1) nw) ok)

  ready_end : e.1.0 + length (places e.0 e.1.1) ≤ nv
  unfolding tile_ready
  ready_end = leb-true (e.1.0 + length (places e.0 e.1.1)) nv (and_left (leb (e.1.0 + length (places e.0 e.1.1)) nv) (ltb (word_in e.1.1) nw) ok)

  ready_place : (ws : List ℕ) (i : ℕ) → i < 64 → has (active_bits ws e.0 e.1.1) i ≡ true → e.1.0 + place_in e.1.1 e.0 i < nv
  ready_place ws i l h = omega (arith, ready_end, place_few e.1.1 e.0 i l (active-member ws e.0 e.1.1 i l h))

  pub ready_bits : (ws : List ℕ) → bits_inside nv (active_bits ws e.0 e.1.1) e.0 e.1.0 e.1.1 ≡ true
  unfolding bits_inside members
  ready_bits ws =
      every-below (λ i. ltb (e.1.0 + place_in e.1.1 e.0 i) nv) (has (active_bits ws e.0 e.1.1)) 64
      (λ i l h. lt-ltb (e.1.0 + place_in e.1.1 e.0 i) nv (ready_place ws i l h))

-- what it keeps is finite where all values are
pub tile-all-finite : (vals : List Float) (ws : List ℕ) (nw : ℕ) (e : Listed) → every finite vals ≡ true → tile_ready (length vals) nw e ≡ true → every (λ (x : Entry). finite x.1) (kept_of vals ws e) ≡ true
unfolding kept_of value_in members
tile-all-finite vals ws nw e a ok =
    let bits : ℕ = active_bits ws e.0 e.1.1 in
    every_map (λ (x : Entry). finite x.1) (entry_in vals e) (below (has bits) 64)
    ∙ every-below (λ i. finite (get_or vals (e.1.0 + place_in e.1.1 e.0 i) nan)) (has bits) 64
    (λ i l h. every-get_or finite vals (e.1.0 + place_in e.1.1 e.0 i) nan a (ready_place (length vals) nw e ok ws i l h))

-- ---- tiles one after another

pub all-finite : (vals : List Float) (ws : List ℕ) (nw : ℕ) (l : List Listed) → every finite vals ≡ true → every (tile_ready (length vals) nw) l ≡ true → every (λ (x : Entry). finite x.1) (kept_all vals ws l) ≡ true
unfolding every kept_all spread
all-finite vals ws nw [] a ok = refl
all-finite vals ws nw (e ∷ l) a ok =
    every_append (λ (x : Entry). finite x.1) (kept_of vals ws e) (spread (kept_of vals ws) l)
    (tile-all-finite vals ws nw e a (and_left (tile_ready (length vals) nw e) (every (tile_ready (length vals) nw) l) ok))
    (all-finite vals ws nw l a (and_right (tile_ready (length vals) nw e) (every (tile_ready (length vals) nw) l) ok))

pub kept_append : (vals : List Float) (ws : List ℕ) (l m : List Listed) → kept_all vals ws (l ++ m) ≡ kept_all vals ws l ++ kept_all vals ws m
unfolding kept_all
kept_append vals ws l m = spread-append (kept_of vals ws) l m

pub kept-one : (vals : List Float) (ws : List ℕ) (e : Listed) → kept_all vals ws (e ∷ []) ≡ kept_of vals ws e
unfolding kept_all spread
kept-one vals ws e = append-nil (kept_of vals ws e)

-- at most 64 of each
pub kept_few : (vals : List Float) (ws : List ℕ) (l : List Listed) → length (kept_all vals ws l) ≤ 64 * length l
unfolding kept_all kept_of spread
kept_few vals ws [] = omega arith
kept_few vals ws (e ∷ l) =
    let bits : ℕ = active_bits ws e.0 e.1.1 in
    omega (arith, length-append (map (entry_in vals e) (members bits)) (spread (kept_of vals ws) l), length-map (members bits) (entry_in vals e), members-few bits, kept_few vals ws l)

-- how many are kept, by masks and metas alone
pub kept-length : (vals : List Float) (ws ms os ks : List ℕ) → length os ≡ length ms → length ks ≡ length ms → length (kept_all vals ws (zip ms (zip os ks))) ≡ kept_count ws (zip ms ks)
unfolding kept_all kept_count kept_of spread zip zip_with
kept-length vals ws [] os ks e f = refl
kept-length vals ws (m ∷ ms) [] ks e f = absurd (omega arith)
kept-length vals ws (m ∷ ms) (o ∷ os) [] e f = absurd (omega arith)
kept-length vals ws (m ∷ ms) (o ∷ os) (k ∷ ks) e f =
    let bits : List ℕ = members (active_bits ws m k) in
    length-append (map (entry_in vals (m, (o, k))) bits) (spread (kept_of vals ws) (zip ms (zip os ks)))
    ∙ ap₂ (λ (x y : ℕ). x + y) (length-map bits (entry_in vals (m, (o, k)))) (kept-length vals ws ms os ks (omega arith) (omega arith))
    ∙ sym (length-append bits (spread (λ (e : ℕ × ℕ). members (active_bits ws e.0 e.1)) (zip ms ks)))

pub ready_words : (nv nw : ℕ) (ms os ks : List ℕ) → length os ≡ length ms → length ks ≡ length ms → every (tile_ready nv nw) (zip ms (zip os ks)) ≡ true → every (λ k. ltb (word_in k) nw) ks ≡ true
unfolding every zip zip_with
ready_words nv nw [] os [] e f ok = refl
ready_words nv nw [] os (k ∷ ks) e f ok = absurd (omega arith)
ready_words nv nw (m ∷ ms) [] ks e f ok = absurd (omega arith)
ready_words nv nw (m ∷ ms) (o ∷ os) [] e f ok = absurd (omega arith)
ready_words nv nw (m ∷ ms) (o ∷ os) (k ∷ ks) e f ok =
    let rest : Bool = every (tile_ready nv nw) (zip ms (zip os ks)) in
    and_both (ltb (word_in k) nw) (every (λ k. ltb (word_in k) nw) ks)
    (lt-ltb (word_in k) nw (ready_word nv nw (m, (o, k)) (and_left (tile_ready nv nw (m, (o, k))) rest ok)))
    (ready_words nv nw ms os ks (omega arith) (omega arith) (and_right (tile_ready nv nw (m, (o, k))) rest ok))

-- ---- tile k of three lists, as the code reads it: o is its offset, w its word number, bits its active columns

module _ (masks offs metas : List ℕ) (vals : List Float) (ws : List ℕ) (eo : length offs ≡ length masks) (em : length metas ≡ length masks) where
  module _ (k o : ℕ) (h : k < length masks) (ek : o ≡ get_or offs k 0) where
    abbrev tile : Listed
    tile = (get_or masks k 0, (o, get_or metas k 0))

    at_place : get_or (zip masks (zip offs metas)) k (0, (0, 0)) ≡ tile
    at_place = listed_at masks offs metas eo em k o h ek

    pub tile_ready_lem : every (tile_ready (length vals) (length ws)) (zip masks (zip offs metas)) ≡ true → tile_ready (length vals) (length ws) tile ≡ true
    tile_ready_lem ok = sym (ap (tile_ready (length vals) (length ws)) at_place) ∙ every-get_or (tile_ready (length vals) (length ws)) (zip masks (zip offs metas)) k (0, (0, 0)) ok (omega (arith, length-listed masks offs metas eo em))

    pub front_more : take (k + 1) (zip masks (zip offs metas)) ≡ take k (zip masks (zip offs metas)) ++ (tile ∷ [])
    front_more =
        let l : List Listed = zip masks (zip offs metas) in
        ap (λ (n : ℕ). take n l) (add-one k) ∙ take-suc l k (0, (0, 0)) (omega (arith, length-listed masks offs metas eo em)) ∙ ap (λ (t : Listed). take k l ++ (t ∷ [])) at_place

    pub kept_more : kept_all vals ws (take (k + 1) (zip masks (zip offs metas))) ≡ kept_all vals ws (take k (zip masks (zip offs metas))) ++ kept_of vals ws tile
    kept_more =
        let l : List Listed = zip masks (zip offs metas) in
        ap (kept_all vals ws) front_more ∙ kept_append vals ws (take k l) (tile ∷ []) ∙ ap (λ (t : List Entry). kept_all vals ws (take k l) ++ t) (kept-one vals ws tile)

    module _ (w bits : ℕ) (ew : w ≡ word_in (get_or metas k 0)) (eb : bits ≡ word_of (λ i. has (get_or masks k 0) i && has (get_or ws w 0) i)) where
      pub bits_are : bits ≡ active_bits ws (get_or masks k 0) (get_or metas k 0)
      unfolding active_bits
      bits_are = eb ∙ ap (λ (v : ℕ). word_of (λ i. has (get_or masks k 0) i && has (get_or ws v 0) i)) ew

      pub tile-kept : kept_of vals ws tile ≡ map (entry_in vals tile) (members bits)
      unfolding kept_of
      tile-kept = ap (λ (b : ℕ). map (entry_in vals tile) (members b)) (sym bits_are)

      pub tile_columns : map (λ (e : Entry). e.0) (kept_of vals ws tile) ≡ map (λ i. 64 * word_in (get_or metas k 0) + i) (members bits)
      tile_columns =
          ap (map (λ (e : Entry). e.0)) tile-kept
          ∙ map-map (λ (e : Entry). e.0) (entry_in vals tile) (members bits)

      pub tile_values : map (λ (e : Entry). e.1) (kept_of vals ws tile) ≡ map (value_in vals (get_or masks k 0) o (get_or metas k 0)) (members bits)
      tile_values =
          ap (map (λ (e : Entry). e.1)) tile-kept
          ∙ map-map (λ (e : Entry). e.1) (entry_in vals tile) (members bits)

      pub tile_tested : every (λ (e : Entry). finite e.1) (kept_of vals ws tile) ≡ every (λ i. finite (value_in vals (get_or masks k 0) o (get_or metas k 0) i)) (members bits)
      tile_tested =
          ap (every (λ (e : Entry). finite e.1)) tile-kept
          ∙ every_map (λ (e : Entry). finite e.1) (entry_in vals tile) (members bits)

      pub tile-length : length (kept_of vals ws tile) ≡ length (members bits)
      tile-length = ap length tile-kept ∙ length-map (members bits) (entry_in vals tile)

      module _ (ok : every (tile_ready (length vals) (length ws)) (zip masks (zip offs metas)) ≡ true) where
        pub word_in_lem : w < length ws
        word_in_lem = rw ew (ready_word (length vals) (length ws) tile (tile_ready_lem ok))

        pub base_in : length ws ≤ 2 ^ 14 → 64 * word_in (get_or metas k 0) ≤ 2 ^ 20
        base_in s = omega (arith, word_in_lem)

        pub bits_in : bits_inside (length vals) bits (get_or masks k 0) o (get_or metas k 0) ≡ true
        bits_in = ap (λ (b : ℕ). bits_inside (length vals) b (get_or masks k 0) o (get_or metas k 0)) bits_are ∙ ready_bits (length vals) (length ws) tile (tile_ready_lem ok) ws
