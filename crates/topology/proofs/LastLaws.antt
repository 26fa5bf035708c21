-- What the tests of a row find that run to its end: its numbers climb, no mask is 0, and the last word keeps its rule. Assumes nothing.
use Rattle.std.proofs.Common.{◌≡◌, ℕ, suc, ◌+◌, ◌-◌, ◌*◌, ◌^◌, ◌<◌, ◌≤◌, Bool, true, false, not, ◌&&◌, eqb, ltb, leb, List, [], ◌∷◌, length, get_or, drop, sym, refl, ap, ◌∙◌, ap₂, add-one, arith, drop_of_length-le, drop-cons, lt-ltb, le-leb, leb-true}
use mathlib.Core.Bool.{and-true, and_assoc}
use mathlib.Core.List.{zip, zip_with}
use native.Mathlib.Decide.{dec_lt}
use borrow.Author.Tests.{eqb-false, not-true}
use Rattle.hybit_core.proofs.BoolLaws.{and_left, and_right, and_both, same_test, not-both}
use Rattle.lent.specs.Lists.{every, climbs}
use Rattle.word.specs.Bits.{has, members}
use Rattle.word.proofs.BitLaws.{every-below}
use Rattle.topology.specs.Words.{word_rule, row_rule}
use Rattle.topology.proofs.ScanLaws.{rule_outside}

-- ---- the numbers: those from place i on are still to be tested

abbrev pub climbs_on : List ℕ → Bool → ℕ → Type 0
climbs_on ws holds i = climbs 0 ws ≡ (holds && climbs (suc (get_or ws (i - 1) 0)) (drop i ws))

pub climb-none : (ws : List ℕ) → climbs_on ws true 1
unfolding climbs
climb-none [] = refl
climb-none (w ∷ ws) = ap (λ (t : Bool). t && climbs (suc w) ws) (le-leb 0 w (omega arith))

module _ (ws : List ℕ) (holds : Bool) (i : ℕ) (inv : climbs_on ws holds i) where
  pub climb_more : i < length ws → (r : Bool) → r ≡ (holds && ltb (get_or ws (i - 1) 0) (get_or ws i 0)) → climbs_on ws r (i + 1)
  unfolding climbs
  climb_more l r e =
      let a : ℕ = get_or ws (i - 1) 0 in
      let b : ℕ = get_or ws i 0 in
      let k : i + 1 - 1 ≡ i = omega arith in
      inv
      ∙ ap (λ (s : List ℕ). holds && climbs (suc a) s) (drop-cons ws i 0 l)
      ∙ sym (and_assoc holds (ltb a b) (climbs (suc b) (drop (suc i) ws)))
      ∙ ap₂ (λ (t : Bool) (j : ℕ). t && climbs (suc (get_or ws j 0)) (drop (suc i) ws)) (sym e) (sym k)
      ∙ ap (λ (j : ℕ). r && climbs (suc (get_or ws (i + 1 - 1) 0)) (drop j ws)) (sym (add-one i))

  pub climb_done : length ws ≤ i → holds ≡ climbs 0 ws
  unfolding climbs
  climb_done h = sym (inv ∙ ap (λ (s : List ℕ). holds && climbs (suc (get_or ws (i - 1) 0)) s) (drop_of_length-le ws h) ∙ and-true holds)

-- ---- the masks: those from place i on are still to be tested

abbrev pub nonzero : ℕ → Bool
nonzero m = not (eqb m 0)

module _ (ms : List ℕ) (holds : Bool) (i : ℕ) (inv : every nonzero ms ≡ (holds && every nonzero (drop i ms))) where
  pub nonzero_more : i < length ms → (r : Bool) → r ≡ (holds && nonzero (get_or ms i 0)) → every nonzero ms ≡ (r && every nonzero (drop (i + 1) ms))
  unfolding every
  nonzero_more l r e =
      inv
      ∙ ap (λ (s : List ℕ). holds && every nonzero s) (drop-cons ms i 0 l)
      ∙ sym (and_assoc holds (nonzero (get_or ms i 0)) (every nonzero (drop (suc i) ms)))
      ∙ ap₂ (λ (t : Bool) (j : ℕ). t && every nonzero (drop j ms)) (sym e) (sym (add-one i))

  pub nonzero_done : length ms ≤ i → holds ≡ every nonzero ms
  unfolding every
  nonzero_done h = sym (inv ∙ ap (λ (s : List ℕ). holds && every nonzero s) (drop_of_length-le ms h) ∙ and-true holds)

-- ---- the words before the last

module _ (n : ℕ) where
  -- a word that keeps its rule starts below the column count, and so does every bit of a word before it
  starts-inside : (v k : ℕ) → k < 2 ^ 64 → nonzero k ≡ true → word_rule n (v, k) ≡ true → 64 * v < n
  starts-inside v k s z e = go (dec_lt (64 * v) n)
    where
      go : Dec (64 * v < n) → 64 * v < n
      go (yes h) = h
      go (no h) = not-both (word_rule n (v, k)) e (sym (rule_outside n v k s (eqb-false k 0 (not-true (eqb k 0) z)) (omega arith)))

  earlier_holds : (w m v : ℕ) → w < v → 64 * v < n → nonzero m ≡ true → word_rule n (w, m) ≡ true
  unfolding word_rule members
  earlier_holds w m v l h z = and_both (nonzero m) (every (λ i. ltb (64 * w + i) n) (members m)) z (every-below (λ i. ltb (64 * w + i) n) (has m) 64 (λ i b e. lt-ltb (64 * w + i) n (omega arith)))

  last_decides : (w m : ℕ) (ws ms : List ℕ) → length ms ≡ length ws → ((k : ℕ) → get_or ms k 0 < 2 ^ 64) → climbs (suc w) ws ≡ true → nonzero m ≡ true → every nonzero ms ≡ true
      → word_rule n (get_or (w ∷ ws) (length ws) 0, get_or (m ∷ ms) (length ws) 0) ≡ every (word_rule n) (zip (w ∷ ws) (m ∷ ms))
  unfolding climbs every zip zip_with
  last_decides w m [] [] s t c z f = sym (and-true (word_rule n (w, m)))
  last_decides w m [] (k ∷ ms) s t c z f = absurd (omega arith)
  last_decides w m (v ∷ ws) [] s t c z f = absurd (omega arith)
  last_decides w m (v ∷ ws) (k ∷ ms) s t c z f =
      last_decides v k ws ms (omega arith) (λ j. t (suc j)) (and_right (leb (suc w) v) (climbs (suc v) ws) c) (and_left (nonzero k) (every nonzero ms) f) (and_right (nonzero k) (every nonzero ms) f)
      ∙ same_test (every (word_rule n) (zip (v ∷ ws) (k ∷ ms))) (word_rule n (w, m) && every (word_rule n) (zip (v ∷ ws) (k ∷ ms))) up (and_right (word_rule n (w, m)) (every (word_rule n) (zip (v ∷ ws) (k ∷ ms))))
    where
      up : every (word_rule n) (zip (v ∷ ws) (k ∷ ms)) ≡ true → (word_rule n (w, m) && every (word_rule n) (zip (v ∷ ws) (k ∷ ms))) ≡ true
      up e =
          let h : suc w ≤ v = leb-true (suc w) v (and_left (leb (suc w) v) (climbs (suc v) ws) c) in
          let b : 64 * v < n = starts-inside v k (t 0) (and_left (nonzero k) (every nonzero ms) f) (and_left (word_rule n (v, k)) (every (word_rule n) (zip ws ms)) e) in
          and_both (word_rule n (w, m)) (every (word_rule n) (zip (v ∷ ws) (k ∷ ms))) (earlier_holds w m v h b z) e

  rules_nonzero : (ws ms : List ℕ) → length ms ≡ length ws → every (word_rule n) (zip ws ms) ≡ true → every nonzero ms ≡ true
  unfolding every zip zip_with word_rule
  rules_nonzero [] [] s e = refl
  rules_nonzero [] (m ∷ ms) s e = absurd (omega arith)
  rules_nonzero (w ∷ ws) [] s e = refl
  rules_nonzero (w ∷ ws) (m ∷ ms) s e =
      and_both (nonzero m) (every nonzero ms) (and_left (nonzero m) (every (λ i. ltb (64 * w + i) n) (members m)) (and_left (word_rule n (w, m)) (every (word_rule n) (zip ws ms)) e))
      (rules_nonzero ws ms (omega arith) (and_right (word_rule n (w, m)) (every (word_rule n) (zip ws ms)) e))

-- ---- the row

module _ (n : ℕ) (ws ms : List ℕ) where
  pub row_empty : length ws ≡ 0 → true ≡ row_rule n ws ms
  unfolding row_rule climbs every zip zip_with
  row_empty e = go ws e
    where
      go : (l : List ℕ) → length l ≡ 0 → true ≡ (climbs 0 l && every (word_rule n) (zip l ms))
      go [] e = refl
      go (w ∷ l) e = absurd (omega arith)

  pub row_not_climbing : false ≡ climbs 0 ws → false ≡ row_rule n ws ms
  unfolding row_rule
  row_not_climbing e = ap (λ (t : Bool). t && every (word_rule n) (zip ws ms)) e

  pub row_with_empty : length ms ≡ length ws → false ≡ every nonzero ms → false ≡ row_rule n ws ms
  unfolding row_rule
  row_with_empty s e = go (climbs 0 ws && every (word_rule n) (zip ws ms)) refl
    where
      go : (t : Bool) → (climbs 0 ws && every (word_rule n) (zip ws ms)) ≡ t → false ≡ t
      go true q = e ∙ rules_nonzero n ws ms s (and_right (climbs 0 ws) (every (word_rule n) (zip ws ms)) q)
      go false q = refl

pub row_by_last : (n : ℕ) (ws ms : List ℕ) → length ms ≡ length ws → ((k : ℕ) → get_or ms k 0 < 2 ^ 64) → (length ws ≡ 0 → ⊥) → true ≡ climbs 0 ws → true ≡ every nonzero ms
    → (w : ℕ) (r : Bool) → w ≡ get_or ws (length ws - 1) 0 → r ≡ word_rule n (w, get_or ms (length ws - 1) 0) → r ≡ row_rule n ws ms
unfolding row_rule climbs every
row_by_last n [] ms s t z c f w r ew er = absurd (z refl)
row_by_last n (v ∷ ws) [] s t z c f w r ew er = absurd (omega arith)
row_by_last n (v ∷ ws) (m ∷ ms) s t z c f w r ew er =
    let k : length (v ∷ ws) - 1 ≡ length ws = omega arith in
    er
    ∙ ap (λ (j : ℕ). word_rule n (j, get_or (m ∷ ms) (length (v ∷ ws) - 1) 0)) ew
    ∙ ap (λ (j : ℕ). word_rule n (get_or (v ∷ ws) j 0, get_or (m ∷ ms) j 0)) k
    ∙ last_decides n v m ws ms (omega arith) (λ j. t (suc j)) (and_right (leb 0 v) (climbs (suc v) ws) (sym c)) (and_left (nonzero m) (every nonzero ms) (sym f)) (and_right (nonzero m) (every nonzero ms) (sym f))
    ∙ ap (λ (u : Bool). u && every (word_rule n) (zip (v ∷ ws) (m ∷ ms))) c
