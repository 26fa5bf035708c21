-- The loops over tiles: entries appended, values tested, entries counted. Assumes nothing.
use mathlib.Core.Bool.{Bool, true, false, ◌&&◌}
use mathlib.Core.List.{List, [], ◌∷◌, ◌++◌, map, zip, map-append}
use mathlib.Core.Path.{◌≡◌, refl, sym, ap, ◌∙◌}
use Prim.Native.Nat.{ℕ, ◌+◌, ◌*◌, ◌≤◌, ◌<◌}
use native.Mathlib.Omega.{arith}
use lib.Dec.{ltb}
use lib.ListN.{length, get_or, take, drop, length-append}
use lib.Seq.{take_all}
use lib.Ieee.{Float}
use borrow.Author.Tests.{ltb-true}
use Rattle.hybit_core.specs.Floats.{finite}
use Rattle.lent.specs.Lists.{every, spread}
use Rattle.lent.specs.Lent.{Appended}
use Rattle.lent.proofs.ListLaws.{every-get_or, spread-append, every_join}
use Rattle.lent.proofs.PartLaws.{length-zip, zip_suc}
use Rattle.word.specs.Bits.{has, count, members, word_of}
use Rattle.word.proofs.BelowLaws.{length-below-le}
use Rattle.word.proofs.OpLaws.{members-count}
use Rattle.csr32.specs.Csr.{Entry}
use Rattle.abtm.specs.Tiles.{Listed, word_in}
use Rattle.abtm_check.proofs.TilesLaws.{length-listed, rest-listed, none-listed}
use Rattle.restricted_abtm.specs.Kept.{value_in, active_bits, kept_of, kept_all, kept_count}
use Rattle.restricted_abtm.proofs.RoomLaws.{Fitting, fitting-none, fitting_join}
use Rattle.restricted_abtm.proofs.BitsLaws.{members-few}
use Rattle.restricted_abtm.proofs.ReadyLaws.{kept_more, tile_columns, tile_values, tile_tested, tile-length}

-- ---- entries appended while there is room: those of the first k tiles

module _ (masks offs metas : List ℕ) (vals : List Float) (ws : List ℕ) (start room : ℕ) (old_c : List ℕ) (old_v : List Float) where
  abbrev front : ℕ → List Entry
  front k = kept_all vals ws (take k (zip masks (zip offs metas)))

  pub record Appending (k at : ℕ) (out_c : List ℕ) (out_v : List Float) : Type 0 where
    pub place : at ≡ start + length (front k)
    pub few : at ≤ start + 64 * k
    pub columns : Fitting room (map (λ (e : Entry). e.0) (front k)) start at old_c out_c
    pub values : Fitting room (map (λ (e : Entry). e.1) (front k)) start at old_v out_v

  pub appending_none : Appending 0 start old_c old_v
  unfolding kept_all spread
  appending_none = record { place = omega arith; few = omega arith; columns = fitting-none room start old_c; values = fitting-none room start old_v }

  module _ (eo : length offs ≡ length masks) (em : length metas ≡ length masks) (k at : ℕ) (out_c : List ℕ) (out_v : List Float) (inv : Appending k at out_c out_v) where
    module _ (h : k < length masks) (o w bits : ℕ) (ek : o ≡ get_or offs k 0) (ew : w ≡ word_in (get_or metas k 0)) (eb : bits ≡ word_of (λ i. has (get_or masks k 0) i && has (get_or ws w 0) i)) where
      abbrev tile : List Entry
      tile = kept_of vals ws (get_or masks k 0, (o, get_or metas k 0))

      front_more : front (k + 1) ≡ front k ++ tile
      front_more = kept_more masks offs metas vals ws eo em k o h ek

      joined-front : {A : Type 0} (f : Entry → A) (new : List A) → map f tile ≡ new → map f (front k) ++ new ≡ map f (front (k + 1))
      joined-front f new e = ap (λ (t : List _). map f (front k) ++ t) (sym e) ∙ sym (map-append f (front k) tile) ∙ ap (map f) (sym front_more)

      pub appending_more : (to : ℕ) (last_c : List ℕ) (last_v : List Float) → to ≡ at + length (members bits)
          → (to ≤ room → Appended (map (λ i. 64 * word_in (get_or metas k 0) + i) (members bits)) at to out_c last_c)
          → (to ≤ room → Appended (map (value_in vals (get_or masks k 0) o (get_or metas k 0)) (members bits)) at to out_v last_v)
          → length last_c ≡ length out_c → length last_v ≡ length out_v → Appending (k + 1) to last_c last_v
      appending_more to last_c last_v et c v sc sv =
          let cs : List ℕ = map (λ i. 64 * word_in (get_or metas k 0) + i) (members bits) in
          let vs : List Float = map (value_in vals (get_or masks k 0) o (get_or metas k 0)) (members bits) in
          let after : at ≤ to = omega arith in
          record {
            place = omega (arith, inv.place, ap length front_more, length-append (front k) tile, tile-length masks offs metas vals ws eo em k o h ek w bits ew eb);
            few = omega (arith, inv.few, members-few bits);
            columns = rw (← joined-front (λ (e : Entry). e.0) cs (tile_columns masks offs metas vals ws eo em k o h ek w bits ew eb)) (fitting_join room (map (λ (e : Entry). e.0) (front k)) start at old_c out_c inv.columns cs to last_c after sc c);
            values = rw (← joined-front (λ (e : Entry). e.1) vs (tile_values masks offs metas vals ws eo em k o h ek w bits ew eb)) (fitting_join room (map (λ (e : Entry). e.1) (front k)) start at old_v out_v inv.values vs to last_v after sv v);
          }

    module _ (h : length masks ≤ k) where
      whole : front k ≡ kept_all vals ws (zip masks (zip offs metas))
      whole = ap (kept_all vals ws) (take_all k (zip masks (zip offs metas)) (omega (arith, length-listed masks offs metas eo em)))

      pub all-next : at ≡ start + length (kept_all vals ws (zip masks (zip offs metas)))
      all-next = inv.place ∙ ap (λ (t : List Entry). start + length t) whole

      pub all_columns : at ≤ room → Appended (map (λ (e : Entry). e.0) (kept_all vals ws (zip masks (zip offs metas)))) start at old_c out_c
      all_columns l = rw (← whole) (inv.columns.written l)

      pub all_values : at ≤ room → Appended (map (λ (e : Entry). e.1) (kept_all vals ws (zip masks (zip offs metas)))) start at old_v out_v
      all_values l = rw (← whole) (inv.values.written l)

-- ---- values tested: those of the tiles from k on decide

module _ (masks offs metas : List ℕ) (vals : List Float) (ws : List ℕ) where
  abbrev good : Entry → Bool
  good e = finite e.1

  abbrev rest : ℕ → List Entry
  rest k = kept_all vals ws (drop k (zip masks (zip offs metas)))

  pub record Tested (k : ℕ) : Type 0 where
    pub is : every good (kept_all vals ws (zip masks (zip offs metas))) ≡ every good (rest k)

  pub tested_none : Tested 0
  tested_none = record { is = refl }

  module _ (eo : length offs ≡ length masks) (em : length metas ≡ length masks) (k : ℕ) (inv : Tested k) where
    module _ (h : k < length masks) (o w bits : ℕ) (ek : o ≡ get_or offs k 0) (ew : w ≡ word_in (get_or metas k 0)) (eb : bits ≡ word_of (λ i. has (get_or masks k 0) i && has (get_or ws w 0) i)) where
      step : (b : Bool) → b ≡ every (λ i. finite (value_in vals (get_or masks k 0) o (get_or metas k 0) i)) (members bits) → every good (kept_all vals ws (zip masks (zip offs metas))) ≡ (b && every good (rest (k + 1)))
      unfolding kept_all spread
      step b e =
          let t : Listed = (get_or masks k 0, (o, get_or metas k 0)) in
          inv.is ∙ ap (λ (l : List Listed). every good (kept_all vals ws l)) (rest-listed masks offs metas eo em k o h ek)
          ∙ every_join good (kept_of vals ws t) (rest (k + 1))
          ∙ ap (λ (s : Bool). s && every good (rest (k + 1))) (tile_tested masks offs metas vals ws eo em k o h ek w bits ew eb ∙ sym e)

      pub tested_fails : false ≡ every (λ i. finite (value_in vals (get_or masks k 0) o (get_or metas k 0) i)) (members bits) → false ≡ every good (kept_all vals ws (zip masks (zip offs metas)))
      tested_fails e = sym (step false e)

      pub tested_more : true ≡ every (λ i. finite (value_in vals (get_or masks k 0) o (get_or metas k 0) i)) (members bits) → Tested (k + 1)
      tested_more e = record { is = step true e }

    pub tested_done : length masks ≤ k → true ≡ every good (kept_all vals ws (zip masks (zip offs metas)))
    unfolding kept_all spread every
    tested_done h =
        sym (inv.is ∙ ap (λ (t : List Listed). every good (kept_all vals ws t)) (none-listed masks offs metas eo em k h))

-- ---- entries counted: those of the first k tiles

module _ (masks metas ws : List ℕ) where
  pub record Counted (k kept : ℕ) : Type 0 where
    pub is : kept ≡ kept_count ws (take k (zip masks metas))
    pub few : kept ≤ 64 * k

  pub counted_none : Counted 0 0
  unfolding kept_count spread
  counted_none = record { is = refl; few = omega arith }

  module _ (em : length metas ≡ length masks) (k kept : ℕ) (inv : Counted k kept) where
    module _ (h : k < length masks) (w : ℕ) (ew : w ≡ word_in (get_or metas k 0)) where
      pub counted_word : every (λ m. ltb (word_in m) (length ws)) metas ≡ true → w < length ws
      counted_word a = rw ew (ltb-true (word_in (get_or metas k 0)) (length ws) (every-get_or (λ m. ltb (word_in m) (length ws)) metas k 0 a (omega arith)))

      module _ (bits n : ℕ) (eb : bits ≡ word_of (λ i. has (get_or masks k 0) i && has (get_or ws w 0) i)) (en : n ≡ count (has bits) 64) where
        pub counted-few : n ≤ 64
        counted-few = omega (arith, length-below-le (has bits) 64)

        pub counted_more : Counted (k + 1) (kept + n)
        unfolding kept_count active_bits spread
        counted_more =
            let l : List (ℕ × ℕ) = zip masks metas in
            let f : ℕ × ℕ → List ℕ = λ (e : ℕ × ℕ). members (active_bits ws e.0 e.1) in
            let t : ℕ × ℕ = (get_or masks k 0, get_or metas k 0) in
            let front : take (k + 1) l ≡ take k l ++ (t ∷ []) = zip_suc masks metas k 0 0 h (omega arith) in
            let same : bits ≡ active_bits ws (get_or masks k 0) (get_or metas k 0) = eb ∙ ap (λ (v : ℕ). word_of (λ i. has (get_or masks k 0) i && has (get_or ws v 0) i)) ew in
            let size : n ≡ length (f t) = en ∙ sym (members-count bits) ∙ ap (λ (b : ℕ). length (members b)) same in
            let joined : length (spread f (take (k + 1) l)) ≡ length (spread f (take k l)) + length (f t ++ []) =
            ap (λ (m : List (ℕ × ℕ)). length (spread f m)) front ∙ ap length (spread-append f (take k l) (t ∷ [])) ∙ length-append (spread f (take k l)) (f t ++ []) in
            record { is = omega (arith, inv.is, joined, size, length-append (f t) []); few = omega (arith, inv.few, counted-few) }

    pub counted_done : length masks ≤ k → kept ≡ kept_count ws (zip masks metas)
    counted_done h = inv.is ∙ ap (kept_count ws) (take_all k (zip masks metas) (omega (arith, length-zip masks metas em)))
