-- The places of the tiles' values: the loop that compares each offset with the end of the tile before it. Assumes nothing.
use Rattle.std.proofs.Common.{◌≡◌, ℕ, ◌+◌, ◌-◌, ◌<◌, ◌≤◌, Bool, true, false, ◌&&◌, eqb, List, [], ◌∷◌, length, get_or, drop, sym, refl, ap, ◌∙◌, ap₂, arith, eq-eqb, eqb-true}
use mathlib.Core.Bool.{and_assoc}
use mathlib.Core.List.{zip, zip_with}
use Rattle.hybit_core.proofs.BoolLaws.{eqb_turned}
use Rattle.abtm.specs.Tiles.{Listed, places, slot_count, gapless}
use Rattle.abtm_check.proofs.TilesLaws.{listed, none-listed}

-- ---- the tiles from place i - 1 on are still to be tested, but for the offset of the first of them

-- the test of the first offset, apart
first_apart : (k n : ℕ) (e : Listed) (l : List Listed) → gapless k n (e ∷ l) ≡ (eqb e.1.0 k && gapless e.1.0 n (e ∷ l))
unfolding gapless
first_apart k n e l = go (eqb e.1.0 k) refl
  where
    go : (t : Bool) → eqb e.1.0 k ≡ t → gapless k n (e ∷ l) ≡ (t && gapless e.1.0 n (e ∷ l))
    go true q = ap (λ (m : ℕ). gapless m n (e ∷ l)) (sym (eqb-true e.1.0 k q))
    go false q = ap (λ (t : Bool). t && gapless (k + slot_count e) n l) q

-- and without it
first-left : (n : ℕ) (e : Listed) (l : List Listed) → gapless e.1.0 n (e ∷ l) ≡ gapless (e.1.0 + slot_count e) n l
unfolding gapless
first-left n e l = ap (λ (t : Bool). t && gapless (e.1.0 + slot_count e) n l) (eq-eqb e.1.0 e.1.0 refl)

pub record Following (ms os ks : List ℕ) (n : ℕ) (holds : Bool) (i : ℕ) : Type 0 where
  pub offsets_long : length os ≡ length ms
  pub metas_long : length ks ≡ length ms
  pub after : 1 ≤ i
  pub inside : i ≤ length ms
  pub is : gapless 0 n (zip ms (zip os ks)) ≡ (holds && gapless (get_or os (i - 1) 0) n (drop (i - 1) (zip ms (zip os ks))))

pub follow_empty : (ms os ks : List ℕ) (n : ℕ) → length ms ≡ 0 → eqb n 0 ≡ gapless 0 n (zip ms (zip os ks))
unfolding gapless zip zip_with
follow_empty [] os ks n e = eqb_turned n 0
follow_empty (m ∷ ms) os ks n e = absurd (omega arith)

module _ (ms os ks : List ℕ) (n : ℕ) where
  abbrev all : List Listed
  all = zip ms (zip os ks)

  pub follow_none : length os ≡ length ms → length ks ≡ length ms → (length ms ≡ 0 → ⊥) → Following ms os ks n (eqb (get_or os 0 0) 0) 1
  follow_none so sk h =
      record {
        offsets_long = so;
        metas_long = sk;
        after = omega arith;
        inside = omega arith;
        is =
            ap (gapless 0 n) here ∙ first_apart 0 n (get_or ms 0 0, (get_or os 0 0, get_or ks 0 0)) (drop 1 all)
            ∙ ap (λ (l : List Listed). eqb (get_or os 0 0) 0 && gapless (get_or os 0 0) n l) (sym here);
      }
    where
      here : all ≡ (get_or ms 0 0, (get_or os 0 0, get_or ks 0 0)) ∷ drop 1 all
      here = listed ms os ks so sk 0 (omega arith)

  -- past the tile at place j
  past : length os ≡ length ms → length ks ≡ length ms → (j : ℕ) → j < length ms → gapless (get_or os j 0) n (drop j all) ≡ gapless (get_or os j 0 + length (places (get_or ms j 0) (get_or ks j 0))) n (drop (j + 1) all)
  past so sk j h = ap (gapless (get_or os j 0) n) (listed ms os ks so sk j h) ∙ first-left n (get_or ms j 0, (get_or os j 0, get_or ks j 0)) (drop (j + 1) all)

  module _ (holds : Bool) (i : ℕ) (inv : Following ms os ks n holds i) where
    pub follow_more : i < length ms → (c next : ℕ) (r : Bool) → c ≡ length (places (get_or ms (i - 1) 0) (get_or ks (i - 1) 0)) → next ≡ get_or os i 0 → r ≡ (holds && eqb (get_or os (i - 1) 0 + c) next) → Following ms os ks n r (i + 1)
    follow_more h c next r ec en er =
        let up : i - 1 + 1 ≡ i = omega (arith, inv.after) in
        let down : i + 1 - 1 ≡ i = omega arith in
        let o : ℕ = get_or os (i - 1) 0 in
        let here : drop i all ≡ (get_or ms i 0, (get_or os i 0, get_or ks i 0)) ∷ drop (i + 1) all = listed ms os ks inv.offsets_long inv.metas_long i h in
        record {
          offsets_long = inv.offsets_long;
          metas_long = inv.metas_long;
          after = omega arith;
          inside = omega arith;
          is =
              inv.is
              ∙ ap (λ (t : Bool). holds && t)
              (past inv.offsets_long inv.metas_long (i - 1) (omega (arith, h))
              ∙ ap₂ (λ (m j : ℕ). gapless (o + m) n (drop j all)) (sym ec) up
              ∙ ap (gapless (o + c) n) here
              ∙ first_apart (o + c) n (get_or ms i 0, (get_or os i 0, get_or ks i 0)) (drop (i + 1) all)
              ∙ ap₂ (λ (t : Bool) (l : List Listed). t && gapless (get_or os i 0) n l) (eqb_turned (get_or os i 0) (o + c) ∙ ap (eqb (o + c)) (sym en)) (sym here))
              ∙ sym (and_assoc holds (eqb (o + c) next) (gapless (get_or os i 0) n (drop i all)))
              ∙ ap₂ (λ (t : Bool) (j : ℕ). t && gapless (get_or os j 0) n (drop j all)) (sym er) (sym down);
        }

    pub follow_done : length ms ≤ i → (c : ℕ) (r : Bool) → c ≡ length (places (get_or ms (length ms - 1) 0) (get_or ks (length ms - 1) 0)) → r ≡ (holds && eqb (get_or os (length ms - 1) 0 + c) n) → r ≡ gapless 0 n all
    unfolding gapless
    follow_done h c r ec er =
        let at : i ≡ length ms = omega (arith, h, inv.inside) in
        er
        ∙ sym (inv.is
        ∙ ap (λ (t : Bool). holds && t)
        (ap (λ (k : ℕ). gapless (get_or os (k - 1) 0) n (drop (k - 1) all)) at
        ∙ past inv.offsets_long inv.metas_long (length ms - 1) (omega (arith, at, inv.after))
        ∙ ap₂ (λ (m : ℕ) (l : List Listed). gapless (get_or os (length ms - 1) 0 + m) n l) (sym ec) (none-listed ms os ks inv.offsets_long inv.metas_long (length ms - 1 + 1) (omega arith))))
