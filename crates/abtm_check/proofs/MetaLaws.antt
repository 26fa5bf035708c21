-- The word numbers of metas: they climb, and the last one of a row decides. Assumes nothing.
use Rattle.std.proofs.Common.{◌≡◌, ℕ, suc, ◌+◌, ◌-◌, ◌*◌, ◌^◌, ◌<◌, ◌≤◌, Bool, true, ◌&&◌, leb, ltb, List, [], ◌∷◌, map, length, get_or, refl, sym, ap, ◌∙◌, ap₂, arith, lt-ltb, leb-true}
use mathlib.Core.List.{zip, zip_with}
use lib.ListN.{length-map, get_or-map}
use Rattle.hybit_core.proofs.BoolLaws.{and_left, and_right, and_both}
use Rattle.lent.specs.Lists.{part, every, climbs}
use Rattle.lent.proofs.PartLaws.{part-map}
use Rattle.word.specs.Bits.{has, below, members}
use Rattle.word.proofs.BitLaws.{every-below}
use Rattle.topology.specs.Words.{word_rule, row_rule}
use Rattle.topology.proofs.LastLaws.{climbs_on, climb_more, climb_done, nonzero, row_by_last}
use Rattle.abtm.specs.Tiles.{word_in}

-- ---- the word numbers of metas climb: those from place i on are still to be tested

module _ (ks : List ℕ) (holds : Bool) (i : ℕ) (inv : climbs_on (map word_in ks) holds i) where
  pub numbers_more : i < length ks → (a b : ℕ) (r : Bool) → a ≡ word_in (get_or ks (i - 1) 0) → b ≡ word_in (get_or ks i 0) → r ≡ (holds && ltb a b) → climbs_on (map word_in ks) r (i + 1)
  numbers_more h a b r p q e =
      climb_more (map word_in ks) holds i inv (omega (arith, length-map ks word_in, h)) r
      (e ∙ ap₂ (λ (s t : ℕ). holds && ltb s t) (p ∙ sym (get_or-map word_in ks (i - 1) 0)) (q ∙ sym (get_or-map word_in ks i 0)))

  pub numbers_done : length ks ≤ i → holds ≡ climbs 0 (map word_in ks)
  numbers_done h = climb_done (map word_in ks) holds i inv (omega (arith, length-map ks word_in, h))

-- ---- a row of metas and masks: the last one decides

pub row_by_last_meta : (n : ℕ) (ks ms : List ℕ) → length ms ≡ length ks → ((k : ℕ) → get_or ms k 0 < 2 ^ 64) → (length ks ≡ 0 → ⊥) → true ≡ climbs 0 (map word_in ks) → true ≡ every nonzero ms
    → (w a : ℕ) (r : Bool) → w ≡ word_in (get_or ks (length ks - 1) 0) → a ≡ w → r ≡ word_rule n (a, get_or ms (length ks - 1) 0) → r ≡ row_rule n (map word_in ks) ms
row_by_last_meta n ks ms s t z c f w a r ew ea er =
    let l : length (map word_in ks) ≡ length ks = length-map ks word_in in
    row_by_last n (map word_in ks) ms (s ∙ sym l) t (λ e. z (sym l ∙ e)) c f a r
    (ea ∙ ew ∙ sym (get_or-map word_in ks (length ks - 1) 0) ∙ ap (λ (j : ℕ). get_or (map word_in ks) (j - 1) 0) (sym l))
    (er ∙ ap (λ (j : ℕ). word_rule n (a, get_or ms (j - 1) 0)) (sym l))

-- ---- a row whose last word the column count does not cut

module _ (n : ℕ) where
  word_inside : (w m : ℕ) → nonzero m ≡ true → 64 * w + 64 ≤ n → word_rule n (w, m) ≡ true
  unfolding word_rule members
  word_inside w m f h = and_both (nonzero m) (every (λ i. ltb (64 * w + i) n) (below (has m) 64)) f (every-below (λ i. ltb (64 * w + i) n) (has m) 64 (λ i l k. lt-ltb (64 * w + i) n (omega (arith, l, h))))

  last_above : (w : ℕ) (ws : List ℕ) → climbs (suc w) ws ≡ true → w ≤ get_or (w ∷ ws) (length ws) 0
  unfolding climbs
  last_above w [] c = omega arith
  last_above w (v ∷ ws) c = omega (arith, leb-true (suc w) v (and_left (leb (suc w) v) (climbs (suc v) ws) c), last_above v ws (and_right (leb (suc w) v) (climbs (suc v) ws) c))

  all_inside : (w m : ℕ) (ws ms : List ℕ) → length ms ≡ length ws → climbs (suc w) ws ≡ true → nonzero m ≡ true → every nonzero ms ≡ true → 64 * get_or (w ∷ ws) (length ws) 0 + 64 ≤ n
      → every (word_rule n) (zip (w ∷ ws) (m ∷ ms)) ≡ true
  unfolding climbs every zip zip_with
  all_inside w m [] [] s c z f h = and_both (word_rule n (w, m)) true (word_inside w m z h) refl
  all_inside w m [] (k ∷ ms) s c z f h = absurd (omega arith)
  all_inside w m (v ∷ ws) [] s c z f h = absurd (omega arith)
  all_inside w m (v ∷ ws) (k ∷ ms) s c z f h =
      and_both (word_rule n (w, m)) (every (word_rule n) (zip (v ∷ ws) (k ∷ ms))) (word_inside w m z (omega (arith, last_above w (v ∷ ws) c, h)))
      (all_inside v k ws ms (omega arith) (and_right (leb (suc w) v) (climbs (suc v) ws) c) (and_left (nonzero k) (every nonzero ms) f) (and_right (nonzero k) (every nonzero ms) f) h)

  row_of_words : (ws ms : List ℕ) → length ms ≡ length ws → (length ws ≡ 0 → ⊥) → climbs 0 ws ≡ true → every nonzero ms ≡ true → 64 * get_or ws (length ws - 1) 0 + 64 ≤ n → row_rule n ws ms ≡ true
  unfolding row_rule climbs every
  row_of_words [] ms s z c f h = absurd (z refl)
  row_of_words (w ∷ ws) [] s z c f h = absurd (omega arith)
  row_of_words (w ∷ ws) (m ∷ ms) s z c f h =
      let k : length (w ∷ ws) - 1 ≡ length ws = omega arith in
      and_both (climbs 0 (w ∷ ws)) (every (word_rule n) (zip (w ∷ ws) (m ∷ ms))) c
      (all_inside w m ws ms (omega arith) (and_right (leb 0 w) (climbs (suc w) ws) c) (and_left (nonzero m) (every nonzero ms) f) (and_right (nonzero m) (every nonzero ms) f) (rw k at h))

pub row_inside : (n : ℕ) (ks ms : List ℕ) → length ms ≡ length ks → (length ks ≡ 0 → ⊥) → true ≡ climbs 0 (map word_in ks) → every nonzero ms ≡ true → (w : ℕ) → w ≡ word_in (get_or ks (length ks - 1) 0) → 64 * w + 64 ≤ n
    → true ≡ row_rule n (map word_in ks) ms
row_inside n ks ms s z c f w e h =
    let l : length (map word_in ks) ≡ length ks = length-map ks word_in in
    let last : get_or (map word_in ks) (length (map word_in ks) - 1) 0 ≡ w = ap (λ (j : ℕ). get_or (map word_in ks) (j - 1) 0) l ∙ get_or-map word_in ks (length ks - 1) 0 ∙ sym e in
    sym (row_of_words n (map word_in ks) ms (s ∙ sym l) (λ q. z (sym l ∙ q)) (sym c) f (omega (arith, last, h)))

-- what a row's parts are told to keep, of the row
pub row_told : (n : ℕ) (ptr ks ms : List ℕ) (r : ℕ) (xs ys : List ℕ) → xs ≡ part ptr ks r → ys ≡ part ptr ms r → (b : Bool) → b ≡ row_rule n (map word_in xs) ys → b ≡ row_rule n (part ptr (map word_in ks) r) (part ptr ms r)
row_told n ptr ks ms r xs ys p q b e = e ∙ ap₂ (λ (s t : List ℕ). row_rule n s t) (ap (map word_in) p ∙ sym (part-map ptr word_in ks r)) q
