-- Laws of a word's 64 sums: its mask and its values. Assumes nothing.
use mathlib.Core.Bool.{Bool, true, false, not, cond, ◌&&◌, ◌||◌, or-false, and-true, and-false}
use mathlib.Core.List.{List, [], ◌∷◌, ◌++◌, map, map-append}
use mathlib.Core.Logic.{◌⊎◌, inl, inr}
use Rattle.abtm.specs.declared.TileKind.{TileKind}
use Rattle.abtm.specs.declared.TileKind.TheVariants as kind
use Rattle.abtm.specs.Calls.{kind_number}
use mathlib.Core.Path.{◌≡◌, refl, sym, ap, ap₂, subst, ◌∙◌}
use Prim.Native.Nat.{ℕ, ◌+◌, ◌≤◌, ◌<◌}
use native.Mathlib.Numerals.{add-one}
use native.Mathlib.Decide.{dec_lt}
use native.Mathlib.Omega.{arith}
use lib.Dec.{eqb, ltb}
use lib.ListN.{length, get_or, set, length-map}
use lib.Ieee.{Float, nan}
use borrow.Author.Tests.{lt-ltb, le-ltb, eq-eqb, ne_eqb}
use Rattle.hybit_core.specs.Floats.{zero64}
use Rattle.lent.specs.Lent.{Appended}
use Rattle.lent.proofs.LentLaws.{appended_none, appended_snoc}
use Rattle.word.specs.Bits.{has, below, members, word_of}
use Rattle.word.proofs.BelowLaws.{below_snoc, below-zero, map_below, all-places}
use Rattle.word.proofs.WalkLaws.{Walking, walking_done}
use Rattle.word.proofs.OpLaws.{has_word, word_cong}
use Rattle.abtm_values.specs.Values.{is_zero}
use Rattle.abtm.specs.Tiles.{places_of}
use Rattle.abtm.proofs.KindLaws.{dense_places, compact_places}

-- ---- the mask of the first i places

-- a bit set where the value is not zero
pub marks_bit : (v : Float) (mask r : ℕ) (p : ℕ → Bool) → is_zero v ≡ false → r ≡ word_of p → r ≡ cond (is_zero v) mask (word_of p)
marks_bit v mask r p z e = e ∙ ap (λ (t : Bool). cond t mask (word_of p)) (sym z)

module _ (p : ℕ → Bool) where
  none_word : 0 ≡ word_of (λ j. false)
  unfolding Rattle.word.specs.Bits.number
  none_word = refl

  pub first-none : 0 ≡ word_of (λ j. ltb j 0 && p j)
  first-none = none_word ∙ word_cong (λ j. false) (λ j. ltb j 0 && p j) (λ j h. ap (λ (t : Bool). t && p j) (sym (le-ltb j 0 (omega arith))))

  pub first_done : (i mask : ℕ) → 64 ≤ i → mask ≡ word_of (λ j. ltb j i && p j) → mask ≡ word_of p
  first_done i mask h e = e ∙ word_cong (λ j. ltb j i && p j) p (λ j b. ap (λ (t : Bool). t && p j) (lt-ltb j i (omega arith)))

  -- t tells that place i is left out, as the code finds it
  pub first_more : (i mask r : ℕ) (t : Bool) → i < 64 → not t ≡ p i → mask ≡ word_of (λ j. ltb j i && p j) → r ≡ cond t mask (word_of (λ j. has mask j || eqb j i)) → r ≡ word_of (λ j. ltb j (i + 1) && p j)
  first_more i mask r t h q e f = f ∙ go t q
    where
      old : (j : ℕ) → j < 64 → has mask j ≡ (ltb j i && p j)
      old j b = ap (λ (m : ℕ). has m j) e ∙ has_word (λ j. ltb j i && p j) j b

      -- below i, at i, past i
      at : (b : Bool) → b ≡ p i → (j : ℕ) → Dec (j < i) → Dec (i < j) → ((ltb j i && p j) || (eqb j i && b)) ≡ (ltb j (i + 1) && p j)
      at b g j (yes x) y =
          ap₂ (λ (s u : Bool). (s && p j) || (u && b)) (lt-ltb j i x) (ne_eqb j i (λ z. omega arith))
          ∙ or-false (p j)
          ∙ ap (λ (s : Bool). s && p j) (sym (lt-ltb j (i + 1) (omega arith)))
      at b g j (no x) (yes y) =
          ap₂ (λ (s u : Bool). (s && p j) || (u && b)) (le-ltb j i (omega arith)) (ne_eqb j i (λ z. omega arith))
          ∙ ap (λ (s : Bool). s && p j) (sym (le-ltb j (i + 1) (omega arith)))
      at b g j (no x) (no y) =
          let z : j ≡ i = omega arith in
          ap₂ (λ (s u : Bool). (s && p j) || (u && b)) (le-ltb j i (omega arith)) (eq-eqb j i z)
          ∙ g ∙ ap p (sym z)
          ∙ ap (λ (s : Bool). s && p j) (sym (lt-ltb j (i + 1) (omega arith)))

      go : (t : Bool) → not t ≡ p i → cond t mask (word_of (λ j. has mask j || eqb j i)) ≡ word_of (λ j. ltb j (i + 1) && p j)
      go true g = e ∙ word_cong (λ j. ltb j i && p j) (λ j. ltb j (i + 1) && p j) (λ j b. sym (or-false (ltb j i && p j)) ∙ ap (λ (u : Bool). (ltb j i && p j) || u) (sym (and-false (eqb j i))) ∙ at false g j (dec_lt j i) (dec_lt i j))
      go false g = word_cong (λ j. has mask j || eqb j i) (λ j. ltb j (i + 1) && p j) (λ j b. ap₂ (λ (s u : Bool). s || u) (old j b) (sym (and-true (eqb j i))) ∙ at true g j (dec_lt j i) (dec_lt i j))

-- ---- the values of a word

-- all places, one more
pub all_none : {A : Type 0} (f : ℕ → A) (from : ℕ) (out : List A) → Appended (map f (below (λ i. true) 0)) from (from + 0) out out
all_none {A} f from out =
    let e : from ≡ from + 0 = omega arith in
    subst (λ (new : List A). Appended new from (from + 0) out out) (ap (map f) (sym (below-zero (λ i. true)))) (subst (λ (n : ℕ). Appended {A = A} [] from n out out) e (appended_none from out))

pub all_more : {A : Type 0} (f : ℕ → A) (from i : ℕ) (old out : List A) (v : A) → Appended (map f (below (λ i. true) i)) from (from + i) old out → from + i < length out → v ≡ f i → Appended (map f (below (λ i. true) (i + 1))) from (from + (i + 1)) old (set out (from + i) v)
all_more {A} f from i old out v inv h e =
    let next : from + i + 1 ≡ from + (i + 1) = omega arith in
    subst (λ (new : List A). Appended new from (from + (i + 1)) old (set out (from + i) v))
    (ap (λ (a : A). map f (below (λ i. true) i) ++ (a ∷ [])) e
    ∙ sym (map-append f (below (λ i. true) i) (i ∷ []))
    ∙ ap (map f) (sym (below_snoc (λ i. true) i))
    ∙ ap (λ (n : ℕ). map f (below (λ i. true) n)) (sym (add-one i)))
    (subst (λ (n : ℕ). Appended (map f (below (λ i. true) i) ++ (v ∷ [])) from n old (set out (from + i) v)) next (appended_snoc (map f (below (λ i. true) i)) from (from + i) old out v inv h))

pub all_done : {A : Type 0} (f : ℕ → A) (from i : ℕ) (old out : List A) → Appended (map f (below (λ i. true) i)) from (from + i) old out → i ≤ 64 → 64 ≤ i → Appended (map f (below (λ i. true) 64)) from (from + 64) old out
all_done f from i old out inv h k = let e : i ≡ 64 = omega arith in subst (λ (n : ℕ). Appended (map f (below (λ i. true) n)) from (from + n) old out) e inv

-- the places of the mask
pub walked : {A : Type 0} (f : ℕ → A) (w from : ℕ) (old : List A) (b at : ℕ) (out : List A) → Walking f w from old b at out → b ≡ 0 → Appended (map f (members w)) from (from + length (members w)) old out
walked f w from old b at out inv z =
    let a = walking_done f w from old b at out inv z in
    let e : at ≡ from + length (members w) = a.next ∙ ap (λ (n : ℕ). from + n) (length-map (members w) f) in
    subst (λ (n : ℕ). Appended (map f (members w)) from n old out) e a

-- ---- the values of a tile

module _ (kind mask : ℕ) where
  pub dense_length : kind ≡ 2 → length (places_of kind mask) ≡ 64
  dense_length d = ap length (dense_places kind mask d) ∙ all-places

  pub compact_length : (kind ≡ 2 → ⊥) → length (places_of kind mask) ≡ length (members mask)
  compact_length d = ap length (compact_places kind mask d)

  module _ (sums : List Float) (from : ℕ) (old out : List Float) where
    as_places : (f : ℕ → Float) (places : List ℕ) (to : ℕ) → places ≡ places_of kind mask → to ≡ from + length (places_of kind mask) → map f places ≡ map (λ i. cond (has mask i) (get_or sums i nan) zero64) places
        → Appended (map f places) from to old out → Appended (map (λ i. cond (has mask i) (get_or sums i nan) zero64) (places_of kind mask)) from (from + length (places_of kind mask)) old out
    as_places f places to p t e a =
        subst (λ (l : List ℕ). Appended (map (λ i. cond (has mask i) (get_or sums i nan) zero64) l) from (from + length (places_of kind mask)) old out) p
        (subst (λ (n : ℕ). Appended (map (λ i. cond (has mask i) (get_or sums i nan) zero64) places) from n old out) t
        (subst (λ (new : List Float). Appended new from to old out) e a))

    pub slots_dense : kind ≡ 2 → mask ≡ word_of (λ i. not (is_zero (get_or sums i nan)))
        → Appended (map (λ i. cond (not (is_zero (get_or sums i nan))) (get_or sums i nan) zero64) (below (λ i. true) 64)) from (from + 64) old out
        → Appended (map (λ i. cond (has mask i) (get_or sums i nan) zero64) (places_of kind mask)) from (from + length (places_of kind mask)) old out
    slots_dense d m =
        as_places (λ i. cond (not (is_zero (get_or sums i nan))) (get_or sums i nan) zero64) (below (λ i. true) 64) (from + 64) (sym (dense_places kind mask d)) (ap (λ (n : ℕ). from + n) (sym (dense_length d)))
        (map_below (λ i. cond (not (is_zero (get_or sums i nan))) (get_or sums i nan) zero64) (λ i. cond (has mask i) (get_or sums i nan) zero64) (λ i. true) 64
        (λ i b t. ap (λ (s : Bool). cond s (get_or sums i nan) zero64) (sym (ap (λ (w : ℕ). has w i) m ∙ has_word (λ i. not (is_zero (get_or sums i nan))) i b))))

    pub slots_compact : (kind ≡ 2 → ⊥) → Appended (map (λ i. get_or sums i nan) (members mask)) from (from + length (members mask)) old out
        → Appended (map (λ i. cond (has mask i) (get_or sums i nan) zero64) (places_of kind mask)) from (from + length (places_of kind mask)) old out
    unfolding members
    slots_compact d =
        as_places (λ i. get_or sums i nan) (members mask) (from + length (members mask)) (sym (compact_places kind mask d)) (ap (λ (n : ℕ). from + n) (sym (compact_length d)))
        (map_below (λ i. get_or sums i nan) (λ i. cond (has mask i) (get_or sums i nan) zero64) (has mask) 64 (λ i b t. ap (λ (s : Bool). cond s (get_or sums i nan) zero64) (sym t)))

-- a kind that is not Dense, by its number
pub compact_kind : (k : TileKind) → (k ≡ kind.Sparse) ⊎ (k ≡ kind.Bitmap) → kind_number k ≡ 2 → ⊥
compact_kind k (inl e) h = omega (arith, ap kind_number e, h)
compact_kind k (inr e) h = omega (arith, ap kind_number e, h)
