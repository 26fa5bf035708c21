-- What the loops over words and masks find: the rule of a word and of all rows, the bits of some masks, the mask of one
-- word. Assumes nothing.
use Rattle.std.proofs.Common.{◌≡◌, ℕ, suc, ◌+◌, ◌-◌, ◌*◌, ◌/◌, ◌%◌, ◌^◌, ◌<◌, ◌≤◌, Bool, true, false, cond, not, ◌&&◌, eqb, ltb, List, [], ◌∷◌, ◌++◌, length, get_or, take, drop, sym, refl, ap, ◌∙◌, ap₂, add-one, arith, length-append, drop_of_length-le, take_all, drop-cons, take-suc, ltb-true, lt-ltb, eq-eqb, ne_eqb, eqb-true}
use native.Mathlib.Nat.{sub-zero}
use Rattle.hybit_core.proofs.BoolLaws.{and_left, and_right, and_both, same_test}
use Rattle.lent.specs.Lists.{every, spread}
use Rattle.lent.proofs.ListLaws.{spread-append}
use Rattle.word.specs.Bits.{has, from, below, count, members, word_of}
use Rattle.word.proofs.BelowLaws.{selects}
use Rattle.word.proofs.BitLaws.{every-below, every-below-at, has-none}
use Rattle.word.proofs.OpLaws.{word_is_lem, has_word}
use Rattle.topology.specs.Words.{mask_in, row_member, word_rule, set_bits}
use Rattle.topology.proofs.RowLaws.{mask_in_none, mask_in_cons, some_bit}

-- ---- a word: its mask is not 0 and has no bit at or past the column count

module _ (n w m : ℕ) where
  pub rule_empty : m ≡ 0 → false ≡ word_rule n (w, m)
  unfolding word_rule
  rule_empty e = rw (eq-eqb m 0 e)

  pub rule_outside : m < 2 ^ 64 → (m ≡ 0 → ⊥) → n ≤ 64 * w → false ≡ word_rule n (w, m)
  unfolding word_rule members
  rule_outside s z h = go (word_rule n (w, m)) refl
    where
      go : (t : Bool) → word_rule n (w, m) ≡ t → false ≡ t
      go true e =
          let b : 0 < length (members m) = some_bit n m s (ap not (ne_eqb m 0 z)) in
          let x = selects (has m) 64 0 b in
          let i : ℕ = get_or (below (has m) 64) 0 0 in
          absurd (omega (arith, ltb-true (64 * w + i) n (every-below-at (λ i. ltb (64 * w + i) n) (has m) 64 i (and_right (not (eqb m 0)) (every (λ i. ltb (64 * w + i) n) (members m)) e) x.bound x.member)))
      go false e = refl

  pub rule_inside : m < 2 ^ 64 → (m ≡ 0 → ⊥) → 64 * w < n → (r : ℕ) → r ≡ word_of (λ i. has m i && ltb i (n - 64 * w)) → eqb r m ≡ word_rule n (w, m)
  unfolding word_rule members
  rule_inside s z h r e = same_test (eqb r m) (word_rule n (w, m)) up down
    where
      trim : ℕ → Bool
      trim i = has m i && ltb i (n - 64 * w)

      up : eqb r m ≡ true → word_rule n (w, m) ≡ true
      up q =
          and_both (not (eqb m 0)) (every (λ i. ltb (64 * w + i) n) (below (has m) 64)) (ap not (ne_eqb m 0 z))
          (every-below (λ i. ltb (64 * w + i) n) (has m) 64
          (λ i l b. let k : trim i ≡ true = sym (has_word trim i l) ∙ ap (λ (j : ℕ). has j i) (sym e ∙ eqb-true r m q) ∙ b in
          lt-ltb (64 * w + i) n (omega (arith, ltb-true i (n - 64 * w) (and_right (has m i) (ltb i (n - 64 * w)) k)))))

      down : word_rule n (w, m) ≡ true → eqb r m ≡ true
      down q = eq-eqb r m (e ∙ sym (word_is_lem m trim s (λ i l. same_test (has m i) (trim i) (λ b. keep i l b) (and_left (has m i) (ltb i (n - 64 * w))))))
        where
          keep : (i : ℕ) → i < 64 → has m i ≡ true → trim i ≡ true
          keep i l b =
              let k : 64 * w + i < n = ltb-true (64 * w + i) n (every-below-at (λ i. ltb (64 * w + i) n) (has m) 64 i (and_right (not (eqb m 0)) (every (λ i. ltb (64 * w + i) n) (below (has m) 64)) q) l b) in
              and_both (has m i) (ltb i (n - 64 * w)) b (lt-ltb i (n - 64 * w) (omega arith))

-- ---- all rows: a test of every row from r on

module _ (f : ℕ → Bool) (n : ℕ) where
  pub rows_none : every f (below (λ r. true) n) ≡ every f (from (λ r. true) 0 (n - 0))
  unfolding below
  rows_none = ap (λ (d : ℕ). every f (from (λ r. true) 0 d)) (sym (sub-zero n))

  module _ (r : ℕ) (inv : every f (below (λ r. true) n) ≡ every f (from (λ r. true) r (n - r))) (l : r < n) where
    rows_step : every f (below (λ r. true) n) ≡ (f r && every f (from (λ r. true) (r + 1) (n - (r + 1))))
    unfolding from every
    rows_step = inv ∙ ap (λ (d : ℕ). every f (from (λ r. true) r d)) one ∙ ap (λ (k : ℕ). f r && every f (from (λ r. true) k (n - (r + 1)))) (sym (add-one r))
      where
        one : n - r ≡ suc (n - (r + 1))
        one = omega arith

    pub rows_more : true ≡ f r → every f (below (λ r. true) n) ≡ every f (from (λ r. true) (r + 1) (n - (r + 1)))
    rows_more e = rows_step ∙ ap (λ (t : Bool). t && every f (from (λ r. true) (r + 1) (n - (r + 1)))) (sym e)

    pub rows_fail : false ≡ f r → false ≡ every f (below (λ r. true) n)
    rows_fail e = sym (rows_step ∙ ap (λ (t : Bool). t && every f (from (λ r. true) (r + 1) (n - (r + 1)))) (sym e))

  pub rows_done : (r : ℕ) → every f (below (λ r. true) n) ≡ every f (from (λ r. true) r (n - r)) → n ≤ r → true ≡ every f (below (λ r. true) n)
  unfolding from every
  rows_done r inv h = let z : n - r ≡ 0 = omega arith in sym (inv ∙ ap (λ (d : ℕ). every f (from (λ r. true) r d)) z)

-- ---- the bits of the first masks

pub bits_append : (l m : List ℕ) → set_bits (l ++ m) ≡ set_bits l + set_bits m
unfolding set_bits
bits_append l m = ap length (spread-append members l m) ∙ length-append (spread members l) (spread members m)

pub bits_one : (m : ℕ) → set_bits (m ∷ []) ≡ count (has m) 64
unfolding set_bits spread members
bits_one m = length-append (members m) [] ∙ omega arith

pub bits_none : (ms : List ℕ) → 0 ≡ set_bits (take 0 ms) % 2 ^ 64
unfolding set_bits spread
bits_none ms = refl

pub bits_more : (ms : List ℕ) (i ones k r : ℕ) → i < length ms → ones ≡ set_bits (take i ms) % 2 ^ 64 → k ≡ count (has (get_or ms i 0)) 64 → r ≡ (ones + k) % 2 ^ 64 → r ≡ set_bits (take (i + 1) ms) % 2 ^ 64
bits_more ms i ones k r l e f g =
    let s : set_bits (take (i + 1) ms) ≡ set_bits (take i ms) + k =
    ap (λ (j : ℕ). set_bits (take j ms)) (add-one i) ∙ ap set_bits (take-suc ms i 0 l) ∙ bits_append (take i ms) (get_or ms i 0 ∷ []) ∙ ap (λ (j : ℕ). set_bits (take i ms) + j) (bits_one (get_or ms i 0) ∙ sym f) in
    g ∙ ap (λ (j : ℕ). (j + k) % 2 ^ 64) e ∙ wraps (set_bits (take i ms)) k ∙ ap (λ (j : ℕ). j % 2 ^ 64) (sym s)
  where
    wraps : (a b : ℕ) → (a % 2 ^ 64 + b) % 2 ^ 64 ≡ (a + b) % 2 ^ 64
    wraps a b = omega arith

pub bits_done : (ms : List ℕ) (i ones : ℕ) → length ms ≤ i → ones ≡ set_bits (take i ms) % 2 ^ 64 → ones ≡ set_bits ms % 2 ^ 64
bits_done ms i ones l e = e ∙ ap (λ (m : List ℕ). set_bits m % 2 ^ 64) (take_all i ms l)

-- ---- the mask of one word: what is left decides

module _ (ws ms : List ℕ) (c i : ℕ) (inv : row_member ws ms c ≡ row_member (drop i ws) (drop i ms) c) where
  module _ (same : length ms ≡ length ws) (l : i < length ws) where
    member_step : row_member ws ms c ≡ has (cond (eqb (get_or ws i 0) (c / 64)) (get_or ms i 0) (mask_in (drop (i + 1) ws) (drop (i + 1) ms) (c / 64))) (c % 64)
    unfolding row_member
    member_step =
        inv
        ∙ ap (λ (m : ℕ). has m (c % 64))
        (ap₂ (λ (s t : List ℕ). mask_in s t (c / 64))
        (drop-cons ws i 0 l ∙ ap (λ (k : ℕ). get_or ws i 0 ∷ drop k ws) (sym (add-one i)))
        (drop-cons ms i 0 (omega arith) ∙ ap (λ (k : ℕ). get_or ms i 0 ∷ drop k ms) (sym (add-one i)))
        ∙ mask_in_cons (get_or ws i 0) (get_or ms i 0) (drop (i + 1) ws) (drop (i + 1) ms) (c / 64))

    pub member-found : (w : ℕ) → w ≡ get_or ws i 0 → w ≡ c / 64 → (r : Bool) → r ≡ has (get_or ms i 0) (c % 64) → r ≡ row_member ws ms c
    member-found w q e r g = g ∙ sym (member_step ∙ ap (λ (t : Bool). has (cond t (get_or ms i 0) (mask_in (drop (i + 1) ws) (drop (i + 1) ms) (c / 64))) (c % 64)) (eq-eqb (get_or ws i 0) (c / 64) (sym q ∙ e)))

    pub member_more : (w : ℕ) → w ≡ get_or ws i 0 → (w ≡ c / 64 → ⊥) → row_member ws ms c ≡ row_member (drop (i + 1) ws) (drop (i + 1) ms) c
    unfolding row_member
    member_more w q e = member_step ∙ ap (λ (t : Bool). has (cond t (get_or ms i 0) (mask_in (drop (i + 1) ws) (drop (i + 1) ms) (c / 64))) (c % 64)) (ne_eqb (get_or ws i 0) (c / 64) (λ z. e (q ∙ z)))

  pub member-none : length ws ≤ i → false ≡ row_member ws ms c
  unfolding row_member
  member-none h = sym (inv ∙ ap (λ (s : List ℕ). has (mask_in s (drop i ms) (c / 64)) (c % 64)) (drop_of_length-le ws h) ∙ ap (λ (m : ℕ). has m (c % 64)) (mask_in_none (drop i ms) (c / 64)) ∙ has-none (c % 64))
