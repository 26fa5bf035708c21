-- The rules of a tile's values, by its places. Assumes nothing.
use Rattle.std.proofs.Common.{◌≡◌, ℕ, zero, suc, ◌+◌, ◌*◌, ◌%◌, ◌<◌, Bool, true, cond, ◌&&◌, ltb, List, [], ◌∷◌, map, length, get_or, sym, refl, ap, ◌∙◌, ap₂, arith, ltb-true, lt-ltb}
use mathlib.Core.List.{zip, zip_with}
use lib.Ieee.{Float, nan}
use Rattle.hybit_core.proofs.BoolLaws.{and_left, and_right, and_both}
use Rattle.lent.specs.Lists.{every}
use Rattle.lent.proofs.ListLaws.{every_map}
use Rattle.word.specs.Bits.{has, from, below, members}
use Rattle.word.proofs.BitLaws.{every-below}
use Rattle.csr32.specs.Csr.{Entry}
use Rattle.abtm_values.specs.Values.{solid, plus_zero}
use Rattle.abtm.specs.Tiles.{Tile, word_in, kind_in, places_of, places, stored, value_rule}
use Rattle.abtm.proofs.KindLaws.{dense_places, compact_places}

-- ---- tests over places and values side by side

zip-left : {A B C : Type 0} (g : A → B) (l : List A) (m : List C) → zip (map g l) m ≡ map (λ (e : A × C). (g e.0, e.1)) (zip l m)
unfolding zip zip_with
zip-left g [] m = refl
zip-left g (a ∷ l) [] = refl
zip-left {A} {B} {C} g (a ∷ l) (c ∷ m) = ap (λ (t : List (B × C)). (g a, c) ∷ t) (zip-left g l m)

-- all places from b on
every-places : (p : Entry → Bool) (f : ℕ → Bool) (b d : ℕ) (vs : List Float) → length vs ≡ d → ((i k : ℕ) → k < d → i ≡ b + k → p (i, get_or vs k nan) ≡ f i)
    → every p (zip (from (λ i. true) b d) vs) ≡ every f (from (λ i. true) b d)
unfolding every zip zip_with from
every-places p f b zero vs e h = refl
every-places p f b (suc d) [] e h = absurd (omega arith)
every-places p f b (suc d) (v ∷ vs) e h =
    ap₂ (λ (s t : Bool). s && t) (h b 0 (omega arith) (omega arith))
    (every-places p f (suc b) d vs (omega arith) (λ i k l q. h i (suc k) (omega arith) (omega arith)))

-- places that pass t, where the test is of the value alone
every_values : (p : Entry → Bool) (q : Float → Bool) (t : ℕ → Bool) (l : List ℕ) (vs : List Float) → length vs ≡ length l → every t l ≡ true
    → ((i : ℕ) (v : Float) → t i ≡ true → p (i, v) ≡ q v) → every p (zip l vs) ≡ every q vs
unfolding every zip zip_with
every_values p q t [] [] e f h = refl
every_values p q t [] (v ∷ vs) e f h = absurd (omega arith)
every_values p q t (i ∷ l) [] e f h = absurd (omega arith)
every_values p q t (i ∷ l) (v ∷ vs) e f h =
    ap₂ (λ (s u : Bool). s && u) (h i v (and_left (t i) (every t l) f)) (every_values p q t l vs (omega arith) (and_right (t i) (every t l) f) h)

-- ---- a tile with its values

abbrev pub tile_with : ℕ → ℕ → List Float → Tile
tile_with mask meta vs = record { mask = mask; meta = meta; slots = vs }

module _ (mask meta : ℕ) (vs : List Float) where
  -- by its place in the word
  by_place : every (value_rule mask) (stored (tile_with mask meta vs)) ≡ every (λ (e : Entry). value_rule mask (64 * word_in meta + e.0, e.1)) (zip (places mask meta) vs)
  unfolding stored
  by_place =
      ap (every (value_rule mask)) (zip-left (λ i. 64 * word_in meta + i) (places mask meta) vs)
      ∙ every_map (value_rule mask) (λ (e : Entry). (64 * word_in meta + e.0, e.1)) (zip (places mask meta) vs)

  at_place : (i : ℕ) (v : Float) → i < 64 → value_rule mask (64 * word_in meta + i, v) ≡ cond (has mask i) (solid v) (plus_zero v)
  unfolding value_rule
  at_place i v h =
      let e : (64 * word_in meta + i) % 64 ≡ i = back (word_in meta) in
      ap (λ (j : ℕ). cond (has mask j) (solid v) (plus_zero v)) e
    where
      back : (w : ℕ) → (64 * w + i) % 64 ≡ i
      back w = omega arith

  -- the rule of each of its values
  abbrev pub values_keep : Bool
  values_keep = every (value_rule mask) (stored (tile_with mask meta vs))

  module _ (same : length vs ≡ length (places mask meta)) (k : ℕ) (e : k ≡ kind_in meta) where
    pub dense_sized : k ≡ 2 → length vs ≡ 64
    unfolding below from
    dense_sized h = same ∙ ap length (dense_places (kind_in meta) mask (sym e ∙ h))

    pub dense_rule : k ≡ 2 → every (λ i. cond (has mask i) (solid (get_or vs i nan)) (plus_zero (get_or vs i nan))) (below (λ i. true) 64) ≡ values_keep
    unfolding below
    dense_rule h =
        sym (by_place
        ∙ ap (λ (l : List ℕ). every (λ (e : Entry). value_rule mask (64 * word_in meta + e.0, e.1)) (zip l vs)) (dense_places (kind_in meta) mask (sym e ∙ h))
        ∙ every-places (λ (e : Entry). value_rule mask (64 * word_in meta + e.0, e.1)) (λ i. cond (has mask i) (solid (get_or vs i nan)) (plus_zero (get_or vs i nan))) 0 64 vs (dense_sized h)
        (λ i k l z. let s : k ≡ i = omega arith in at_place i (get_or vs k nan) (omega arith) ∙ ap (λ (j : ℕ). cond (has mask i) (solid (get_or vs j nan)) (plus_zero (get_or vs j nan))) s))

    pub compact_rule : (k ≡ 2 → ⊥) → every solid vs ≡ values_keep
    unfolding members
    compact_rule h =
        let ps : places_of (kind_in meta) mask ≡ members mask = compact_places (kind_in meta) mask (λ z. h (e ∙ z)) in
        sym (by_place
        ∙ ap (λ (l : List ℕ). every (λ (e : Entry). value_rule mask (64 * word_in meta + e.0, e.1)) (zip l vs)) ps
        ∙ every_values (λ (e : Entry). value_rule mask (64 * word_in meta + e.0, e.1)) solid (λ i. ltb i 64 && has mask i) (members mask) vs (same ∙ ap length ps)
        (every-below (λ i. ltb i 64 && has mask i) (has mask) 64 (λ i l m. and_both (ltb i 64) (has mask i) (lt-ltb i 64 l) m))
        (λ i v z. at_place i v (ltb-true i 64 (and_left (ltb i 64) (has mask i) z)) ∙ ap (λ (t : Bool). cond t (solid v) (plus_zero v)) (and_right (ltb i 64) (has mask i) z)))
