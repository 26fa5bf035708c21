-- The words of a row, noted one after the other: their masks, and the places of their first values. Assumes nothing.
use mathlib.Core.Bool.{Bool, true, true≢false}
use mathlib.Core.List.{List}
use mathlib.Core.Path.{◌≡◌, refl, sym, ap, ap₂, ◌∙◌}
use Prim.Native.Nat.{ℕ, ◌+◌, ◌*◌, ◌/◌, ◌%◌, ◌^◌, ◌≤◌, ◌<◌}
use native.Mathlib.Nat.{mod-eq_of_lt}
use native.Mathlib.Decide.{dec_lt}
use native.Mathlib.Omega.{arith}
use lib.Dec.{ltb}
use lib.ListN.{length, get_or, set, length-set, length-map}
use lib.Seq.{get_or-set_same, get_or-set_other}
use Rattle.hybit_core.proofs.BoolLaws.{and_right}
use Rattle.lent.specs.Lists.{joined}
use Rattle.word.specs.Bits.{has, count, within, mask_of, hit, ceil64, words_of}
use Rattle.word.proofs.BelowLaws.{below-zero, below_cong, length-below-le}
use Rattle.word.proofs.BitLaws.{within_in, has_listed}
use Rattle.topology.specs.Words.{Words, topology_of, member, row_member, row_rule}
use Rattle.topology.proofs.RowLaws.{Row, row_is, small_is}
use Rattle.topology.proofs.TopologyLaws.{row_words_lem, row_masks_lem, member_in, topology_checked, accepted_facts}
use Rattle.topology.proofs.FrontLaws.{placed, at_end, Front, front-none, Placed, Next, next, ended, count_in, count_skip, count_frame, count_upto}
use Rattle.levels.specs.Ranks.{Ranks}

module _ (p : ℕ → Bool) (n : ℕ) (bits₀ starts₀ : List ℕ) where
  -- the first i words, all below word `at`, are noted
  pub record Placing (i place : ℕ) (bits starts : List ℕ) : Type 0 where
    pub at : ℕ
    pub front : Front p n i at
    pub is : place ≡ count (within n p) (64 * at)
    pub same_bits : length bits ≡ length bits₀
    pub same_starts : length starts ≡ length starts₀
    pub bits_are : (w : ℕ) → w < at → hit p n w ≡ true → get_or bits w 0 ≡ mask_of p n w
    pub starts_are : (w : ℕ) → w < at → hit p n w ≡ true → get_or starts w 0 ≡ count (within n p) (64 * w)

  pub placing_none : Placing 0 0 bits₀ starts₀
  placing_none = record {
    at = 0;
    front = front-none p n;
    is = sym (ap length (below-zero (within n p)));
    same_bits = refl;
    same_starts = refl;
    bits_are = λ w h e. absurd (omega arith);
    starts_are = λ w h e. absurd (omega arith);
  }

  module _ (i place : ℕ) (bits starts : List ℕ) (inv : Placing i place bits starts) where
    module _ (w m : ℕ) (x : Placed p n i w m) where
      the_next : Next p n i inv.at w
      the_next = rw x.word (next p n i inv.at inv.front x.place)

      here : place ≡ count (within n p) (64 * w)
      here = inv.is ∙ sym (count_skip p n inv.at w the_next.after the_next.skipped)

      after : place + count (has m) 64 ≡ count (within n p) (64 * (w + 1))
      after =
          let s : 64 * (w + 1) ≡ 64 * w + 64 = omega arith in
          ap₂ (λ (a k : ℕ). a + count (has k) 64) here x.mask ∙ sym (count_in p n w 64 (omega arith)) ∙ sym (ap (count (within n p)) s)

      -- the word has a place in both lists
      pub placing_word : (k : ℕ) → ceil64 n ≤ k → w < k
      placing_word k h = omega (arith, the_next.bound)

      pub placing_fits : place + count (has m) 64 ≤ n
      placing_fits = omega (arith, after, count_upto p n (64 * (w + 1)))

      pub placing_more : (s : ℕ) → n ≤ 2 ^ 20 → s ≡ place % 2 ^ 32 → ceil64 n ≤ length bits₀ → ceil64 n ≤ length starts₀ → Placing (i + 1) (place + count (has m) 64) (set bits w m) (set starts w s)
      placing_more s small es hb hs =
          let start : s ≡ count (within n p) (64 * w) = es ∙ mod-eq_of_lt (omega (arith, placing_fits)) ∙ here in
          record {
            at = w + 1;
            front = the_next.front;
            is = after;
            same_bits = length-set bits w m ∙ inv.same_bits;
            same_starts = length-set starts w s ∙ inv.same_starts;
            bits_are = λ v h e. set_is (λ (v : ℕ). mask_of p n v) bits m (omega (arith, inv.same_bits, the_next.bound)) x.mask inv.bits_are v h e;
            starts_are = λ v h e. set_is (λ (v : ℕ). count (within n p) (64 * v)) starts s (omega (arith, inv.same_starts, the_next.bound)) start inv.starts_are v h e;
          }
        where
          set_is : (f : ℕ → ℕ) (l : List ℕ) (y : ℕ) → w < length l → y ≡ f w → ((v : ℕ) → v < inv.at → hit p n v ≡ true → get_or l v 0 ≡ f v) → (v : ℕ) → v < w + 1 → hit p n v ≡ true → get_or (set l w y) v 0 ≡ f v
          set_is f l y b e old v h k = go (dec_lt v w) (dec_lt v inv.at)
            where
              go : Dec (v < w) → Dec (v < inv.at) → get_or (set l w y) v 0 ≡ f v
              go (yes a) (yes d) = get_or-set_other l w v y 0 (λ q. omega arith) ∙ old v d k
              go (yes a) (no d) = absurd (true≢false (sym k ∙ the_next.skipped v (omega arith) a))
              go (no a) d = let q : v ≡ w = omega arith in ap (λ (j : ℕ). get_or (set l w y) j 0) q ∙ get_or-set_same l w y 0 b ∙ e ∙ ap f (sym q)

    pub placing_done : length (words_of p n) ≤ i → ceil64 n ≤ length bits₀ → ceil64 n ≤ length starts₀ → Ranks p n bits starts
    placing_done l hb hs = record { bits_room = omega (arith, inv.same_bits); starts_room = omega (arith, inv.same_starts); rank_is = ranked }
      where
        ranked : (c : ℕ) → c < n → p c ≡ true → get_or starts (c / 64) 0 + count (has (get_or bits (c / 64) 0)) (c % 64) ≡ count p c
        ranked c h e =
            let split : 64 * (c / 64) + c % 64 ≡ c = omega arith in
            let k : hit p n (c / 64) ≡ true = and_right (ltb (c / 64) (ceil64 n)) (hit p n (c / 64)) (has_listed p n c (within_in n p c h ∙ e)) in
            let d : c / 64 < inv.at = noted (dec_lt (c / 64) inv.at) k in
            ap₂ (λ (a m : ℕ). a + count (has m) (c % 64)) (inv.starts_are (c / 64) d k) (inv.bits_are (c / 64) d k) ∙ sym (count_in p n (c / 64) (c % 64) (omega arith)) ∙ ap (count (within n p)) split
            ∙ sym (count_frame p n c (omega arith))
          where
            noted : Dec (c / 64 < inv.at) → hit p n (c / 64) ≡ true → c / 64 < inv.at
            noted (yes a) k = a
            noted (no a) k = absurd (true≢false (sym k ∙ ended p n i inv.at inv.front l (c / 64) (omega arith) (omega arith)))

-- ---- as the code holds it: words and masks that keep the rule of a row

module _ (n : ℕ) (ws ms : List ℕ) (same : length ms ≡ length ws) (rule : row_rule n ws ms ≡ true) (fit : (k : ℕ) → get_or ms k 0 < 2 ^ 64) where
  pub word_read : (i w : ℕ) → i < length ws → w ≡ get_or ws i 0 → Placed (row_member ws ms) n i w (get_or ms i 0)
  word_read i w h e = placed (row_member ws ms) n ws ms (row_is n ws ms rule (sym same) (small_is ms fit)) i w (get_or ms i 0) h e refl

  pub words_read : (i : ℕ) → length ws ≤ i → length (words_of (row_member ws ms) n) ≤ i
  words_read i h = at_end (row_member ws ms) n ws ms (row_is n ws ms rule (sym same) (small_is ms fit)) i h

-- ---- the words of a test keep the rule of a row, and their membership is the test

module _ (p : ℕ → Bool) (n : ℕ) (ws ms : List ℕ) (row : Row p n ws ms) (few : n ≤ 2 ^ 20) where
  pub row_sides : length ms ≡ length ws
  row_sides = ap length row.masks ∙ length-map (words_of p n) (mask_of p n) ∙ sym (ap length row.words)

  -- a record of this row alone
  abbrev alone : Words
  alone = topology_of 1 n (λ r. p)

  first : 0 < 1
  first = omega arith

  pub row_rule_lem : row_rule n ws ms ≡ true
  unfolding topology_of joined words_of
  row_rule_lem =
      let short : length alone.word ≤ 2 ^ 24 = omega (arith, length-below-le (hit p n) (ceil64 n)) in
      ap₂ (λ (s t : List ℕ). row_rule n s t) (row.words ∙ sym (row_words_lem 1 n (λ r. p) 0 first)) (row.masks ∙ sym (row_masks_lem 1 n (λ r. p) 0 first))
      ∙ (accepted_facts alone (topology_checked 1 n (λ r. p) (omega arith) few short)).each_row 0 first

  row_member_lem : (c : ℕ) → c < n → row_member ws ms c ≡ p c
  unfolding member
  row_member_lem c h =
      ap₂ (λ (s t : List ℕ). row_member s t c) (row.words ∙ sym (row_words_lem 1 n (λ r. p) 0 first)) (row.masks ∙ sym (row_masks_lem 1 n (λ r. p) 0 first)) ∙ member_in 1 n (λ r. p) 0 first c h

  pub row_ranks : (bits starts : List ℕ) → Ranks (row_member ws ms) n bits starts → Ranks p n bits starts
  row_ranks bits starts k = record {
    bits_room = k.bits_room;
    starts_room = k.starts_room;
    rank_is = λ c h e. k.rank_is c h (row_member_lem c h ∙ e) ∙ ap length (below_cong (row_member ws ms) p c (λ i l. row_member_lem i (omega arith)));
  }
