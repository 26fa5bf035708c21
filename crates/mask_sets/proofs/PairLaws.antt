-- Two masks: their words combined and met one after another, and what an accepted pair says. Assumes nothing.
use Rattle.std.specs.Prelude.{Result, Ok, Err}
use mathlib.Core.Bool.{Bool, true, false, not, ◌&&◌}
use mathlib.Core.List.{List}
use mathlib.Core.Path.{◌≡◌, refl, sym, ap, ap₂, ◌∙◌, subst}
use Prim.Native.Nat.{ℕ, ◌+◌, ◌*◌, ◌^◌, ◌≤◌, ◌<◌}
use native.Mathlib.Decide.{dec_lt}
use native.Mathlib.Omega.{arith}
use borrow.Author.Tests.{eq-eqb, ne_eqb, lt-ltb, le-ltb, leb-true}
use lib.Count.{count_trailing_zeros}
use lib.Dec.{eqb, ltb}
use lib.ListN.{length, get_or, set, length-set}
use Rattle.hybit_core.specs.Answer.{Answer, accepted, refused, lengths_differ, demand, length_is, ◌and_then◌}
use Rattle.hybit_core.specs.Domain.{few}
use Rattle.hybit_core.specs.Table.{told, paper}
use Rattle.hybit_core.specs.declared.HybitError.{HybitError}
use Rattle.hybit_core.proofs.AnswerLaws.{demand_accepted, then_first, then_second, length_accepted, test_passes, call_refused, call_accepted, last_length_wrong, last_length_right}
use Rattle.hybit_core.proofs.BoolLaws.{and_left, and_right, and-next}
use Rattle.lent.specs.Lists.{each}
use Rattle.lent.proofs.ListLaws.{each_cong}
use Rattle.lent.proofs.LentLaws.{Filled, filled_none, filled_more, filled_next, filled_done}
use Rattle.word.specs.Bits.{has, count, both, word_of, mask_of, ceil64}
use Rattle.word.specs.Word.{combined}
use Rattle.word.specs.declared.Operation.{Operation}
use Rattle.word.proofs.BelowLaws.{below-zero, below_trim, below_cong, length_block, rank_lt}
use Rattle.word.proofs.BitLaws.{count_cong, number_lt}
use Rattle.word.proofs.LowestLaws.{none, lowest_has, lowest_lt}
use Rattle.word.proofs.OpLaws.{word_cong, has_word, combined-none}
use Rattle.mask.specs.Mask.{as_mask, bit_at, active, mask_words, mask_rules, mask_answer}
use Rattle.mask.specs.Calls.{pair_answer}
use Rattle.mask.proofs.MaskLaws.{Valid, rules_valid, bit_in, active_is, word_bit}

-- ---- two masks, word by word: the first k words are combined

pub record Combining (o : Operation) (ws us : List ℕ) (k : ℕ) (out : List ℕ) : Type 0 where
  pub inside : k ≤ length ws
  pub same : length out ≡ length ws
  pub filled : Filled (λ w. word_of (λ i. combined o (has (get_or ws w 0) i) (has (get_or us w 0) i))) ws k out

module _ (o : Operation) (ws us : List ℕ) where
  pub combining_none : Combining o ws us 0 ws
  combining_none = record { inside = omega arith; same = refl; filled = filled_none _ ws }

  module _ (k : ℕ) (out : List ℕ) (inv : Combining o ws us k out) where
    pub combining_more : (r : ℕ) → k < length ws → r ≡ word_of (λ i. combined o (has (get_or out k 0) i) (has (get_or us k 0) i)) → Combining o ws us (k + 1) (set out k r)
    combining_more r h e = record {
      inside = omega arith;
      same = length-set out k r ∙ inv.same;
      filled = filled_more _ ws k out inv.filled r (e ∙ ap (λ (m : ℕ). word_of (λ i. combined o (has m i) (has (get_or us k 0) i))) (filled_next _ ws k out inv.filled 0 h)) h;
    }

    pub combining_done : length ws ≤ k → out ≡ each (λ w. word_of (λ i. combined o (has (get_or ws w 0) i) (has (get_or us w 0) i))) (length ws)
    combining_done h = filled_done _ ws k out inv.filled (length ws) refl inv.inside h

module _ (n : ℕ) (ws us : List ℕ) (a : Valid n ws) (b : Valid n us) where
  pub combine_are : (o : Operation) → each (λ w. word_of (λ i. combined o (has (get_or ws w 0) i) (has (get_or us w 0) i))) (length ws) ≡ mask_words (λ c. combined o (active (as_mask n ws) c) (active (as_mask n us) c)) n
  unfolding mask_words mask_of
  combine_are o =
      ap (each (λ w. word_of (λ i. combined o (has (get_or ws w 0) i) (has (get_or us w 0) i)))) a.counted
      ∙ each_cong _ _ (ceil64 n) (λ w h. word_cong _ _ (λ i s. ap₂ (combined o) (word_bit n ws a w i s) (word_bit n us b w i s) ∙ inside (64 * w + i)))
    where
      P : ℕ → Bool
      P = active (as_mask n ws)

      Q : ℕ → Bool
      Q = active (as_mask n us)

      inside : (c : ℕ) → combined o (P c) (Q c) ≡ (ltb c n && combined o (P c) (Q c))
      inside c = go (dec_lt c n)
        where
          go : Dec (c < n) → combined o (P c) (Q c) ≡ (ltb c n && combined o (P c) (Q c))
          go (yes h) = sym (ap (λ (t : Bool). t && combined o (P c) (Q c)) (lt-ltb c n h))
          go (no h) =
              ap₂ (combined o) (active_is n ws a c ∙ a.clean c (omega arith)) (active_is n us b c ∙ b.clean c (omega arith)) ∙ combined-none o
              ∙ sym (ap (λ (t : Bool). t && combined o (P c) (Q c)) (le-ltb c n (omega arith)))

  pub meet_are : count (both (active (as_mask n ws)) (active (as_mask n us))) n ≡ count (both (bit_at ws) (bit_at us)) (64 * length ws)
  meet_are =
      ap length
      (below_cong (both (active (as_mask n ws)) (active (as_mask n us))) (both (bit_at ws) (bit_at us)) n (λ c l. ap₂ (λ (s t : Bool). s && t) (active_is n ws a c) (active_is n us b c))
      ∙ sym (below_trim (both (bit_at ws) (bit_at us)) n (64 * length ws) (omega (arith, a.counted)) (λ c l u. ap (λ (t : Bool). t && bit_at us c) (a.clean c l))))

-- ---- no common member in the first k words

pub record Apart (ws us : List ℕ) (k : ℕ) : Type 0 where
  pub inside : k ≤ length ws
  pub none : count (both (bit_at ws) (bit_at us)) (64 * k) ≡ 0

module _ (ws us : List ℕ) where
  pub apart_none : Apart ws us 0
  apart_none = record { inside = omega arith; none = ap length (below-zero (both (bit_at ws) (bit_at us))) }

  module _ (k r : ℕ) (inv : Apart ws us k) (h : k < length ws) (e : r ≡ word_of (λ i. has (get_or ws k 0) i && has (get_or us k 0) i)) where
    test_in : (i : ℕ) → i < 64 → both (bit_at ws) (bit_at us) (64 * k + i) ≡ has r i
    test_in i b = ap₂ (λ (s t : Bool). s && t) (bit_in ws k i b) (bit_in us k i b) ∙ sym (ap (λ (m : ℕ). has m i) e ∙ has_word (λ i. has (get_or ws k 0) i && has (get_or us k 0) i) i b)

    block_count : count (both (bit_at ws) (bit_at us)) (64 * (k + 1)) ≡ count (both (bit_at ws) (bit_at us)) (64 * k) + count (has r) 64
    block_count =
        let q : 64 * (k + 1) ≡ 64 * k + 64 = omega arith in
        ap (count (both (bit_at ws) (bit_at us))) q ∙ length_block (both (bit_at ws) (bit_at us)) (64 * k) 64
        ∙ ap (λ (m : ℕ). count (both (bit_at ws) (bit_at us)) (64 * k) + m) (count_cong 64 (λ i. both (bit_at ws) (bit_at us) (64 * k + i)) (has r) test_in)

    pub apart_more : r ≡ 0 → Apart ws us (k + 1)
    apart_more z = record {
      inside = omega arith;
      none = omega (arith, block_count, inv.none, ap (λ (m : ℕ). count (has m) 64) z, ap length (none 64));
    }

    pub apart_found : (r ≡ 0 → ⊥) → true ≡ not (eqb (count (both (bit_at ws) (bit_at us)) (64 * length ws)) 0)
    apart_found f =
        let small : r < 2 ^ 64 = subst (λ (m : ℕ). m < 2 ^ 64) (sym e) (number_lt _ 64) in
        let some : 0 < r = omega arith in
        let i : count_trailing_zeros 64 r < 64 = lowest_lt 64 64 r some small in
        let c : 0 < count (both (bit_at ws) (bit_at us)) (64 * length ws) =
        omega (arith, rank_lt (both (bit_at ws) (bit_at us)) (64 * k + count_trailing_zeros 64 r) (64 * length ws) (omega arith) (test_in (count_trailing_zeros 64 r) i ∙ lowest_has 64 r some small)) in
        sym (ap not (ne_eqb (count (both (bit_at ws) (bit_at us)) (64 * length ws)) 0 (λ z. absurd (omega arith))))

  pub apart_done : (k : ℕ) → Apart ws us k → length ws ≤ k → false ≡ not (eqb (count (both (bit_at ws) (bit_at us)) (64 * length ws)) 0)
  apart_done k inv h =
      let q : k ≡ length ws = omega (arith, inv.inside) in
      sym (ap not (eq-eqb _ 0 (ap (λ (m : ℕ). count (both (bit_at ws) (bit_at us)) (64 * m)) (sym q) ∙ inv.none)))

module _ (n : ℕ) (ws : List ℕ) (m : ℕ) (us : List ℕ) (ok : pair_answer (as_mask n ws) (as_mask m us) ≡ accepted) where
  rest : demand (mask_rules (as_mask n ws)) 5 and_then demand (mask_rules (as_mask m us)) 5 and_then length_is n m ≡ accepted
  unfolding pair_answer
  rest = then_second (demand (few n && few m) 1) (demand (mask_rules (as_mask n ws)) 5 and_then demand (mask_rules (as_mask m us)) 5 and_then length_is n m) ok

  small : (few n && few m) ≡ true
  unfolding pair_answer
  small = demand_accepted (few n && few m) 1 (then_first (demand (few n && few m) 1) (demand (mask_rules (as_mask n ws)) 5 and_then demand (mask_rules (as_mask m us)) 5 and_then length_is n m) ok)

  last : demand (mask_rules (as_mask m us)) 5 and_then length_is n m ≡ accepted
  last = then_second (demand (mask_rules (as_mask n ws)) 5) (demand (mask_rules (as_mask m us)) 5 and_then length_is n m) rest

  pub pair_same : m ≡ n
  pair_same = length_accepted n m (then_second (demand (mask_rules (as_mask m us)) 5) (length_is n m) last)

  pub pair_first : Valid n ws
  pair_first =
      rules_valid n ws (leb-true n (2 ^ 20) (and_left (few n) (few m) small))
      (demand_accepted (mask_rules (as_mask n ws)) 5 (then_first (demand (mask_rules (as_mask n ws)) 5) (demand (mask_rules (as_mask m us)) 5 and_then length_is n m) rest))

  pub pair_second : Valid m us
  pair_second =
      rules_valid m us (leb-true m (2 ^ 20) (and_right (few n) (few m) small))
      (demand_accepted (mask_rules (as_mask m us)) 5 (then_first (demand (mask_rules (as_mask m us)) 5) (length_is n m) last))

  pub pair_lengths : length us ≡ length ws
  pair_lengths = pair_second.counted ∙ ap ceil64 pair_same ∙ sym pair_first.counted

  pub pair_combined : (o : Operation) → each (λ w. word_of (λ i. combined o (has (get_or ws w 0) i) (has (get_or us w 0) i))) (length ws) ≡ mask_words (λ c. combined o (active (as_mask n ws) c) (active (as_mask m us) c)) n
  pair_combined o =
      combine_are n ws us pair_first (subst (λ (k : ℕ). Valid k us) pair_same pair_second) o
      ∙ ap (λ (k : ℕ). mask_words (λ c. combined o (active (as_mask n ws) c) (active (as_mask k us) c)) n) (sym pair_same)

  pub pair_meets : (r : Bool) → r ≡ not (eqb (count (both (bit_at ws) (bit_at us)) (64 * length ws)) 0) → r ≡ not (eqb (count (both (active (as_mask n ws)) (active (as_mask m us))) n) 0)
  pair_meets r e =
      e
      ∙ ap (λ (k : ℕ). not (eqb k 0))
      (sym (meet_are n ws us pair_first (subst (λ (k : ℕ). Valid k us) pair_same pair_second)) ∙ ap (λ (k : ℕ). count (both (active (as_mask n ws)) (active (as_mask k us))) n) (sym pair_same))

-- ---- the checks of both masks, where 1 has found nothing

rules_told : (n : ℕ) (ws : List ℕ) (v : Result Unit HybitError) → true ≡ few n → told v ≡ mask_answer (as_mask n ws) → told v ≡ demand (mask_rules (as_mask n ws)) 5
unfolding mask_answer
rules_told n ws v s e = e ∙ sym (test_passes (few n) 1 (demand (mask_rules (as_mask n ws)) 5) (demand (mask_rules (as_mask n ws)) 5) s refl)

module _ (n : ℕ) (ws : List ℕ) (m : ℕ) (us : List ℕ) (s : true ≡ few n) (t : true ≡ few m) where
  after_sizes : (a : Answer) → a ≡ demand (mask_rules (as_mask n ws)) 5 and_then demand (mask_rules (as_mask m us)) 5 and_then length_is n m → a ≡ pair_answer (as_mask n ws) (as_mask m us)
  unfolding pair_answer
  after_sizes a e = test_passes (few n && few m) 1 a _ (and-next _ _ _ s t) e

  pub first_refused : (v : Result Unit HybitError) (e : HybitError) → told v ≡ mask_answer (as_mask n ws) → v ≡ Err e → refused (paper e) ≡ pair_answer (as_mask n ws) (as_mask m us)
  first_refused v e h k = after_sizes _ (call_refused _ _ v e (rules_told n ws v s h) k)

  module _ (v : Result Unit HybitError) (h : told v ≡ mask_answer (as_mask n ws)) (k : v ≡ Ok tt) where
    after_first : (a : Answer) → a ≡ demand (mask_rules (as_mask m us)) 5 and_then length_is n m → a ≡ pair_answer (as_mask n ws) (as_mask m us)
    after_first a e = after_sizes a (call_accepted _ _ a v (rules_told n ws v s h) k e)

    pub second_refused : (u : Result Unit HybitError) (e : HybitError) → told u ≡ mask_answer (as_mask m us) → u ≡ Err e → refused (paper e) ≡ pair_answer (as_mask n ws) (as_mask m us)
    second_refused u e i j = after_first _ (call_refused _ _ u e (rules_told m us u t i) j)

    module _ (u : Result Unit HybitError) (i : told u ≡ mask_answer (as_mask m us)) (j : u ≡ Ok tt) where
      pub sizes_differ : (m ≡ n → ⊥) → refused (lengths_differ n m) ≡ pair_answer (as_mask n ws) (as_mask m us)
      sizes_differ d = after_first _ (call_accepted _ _ _ u (rules_told m us u t i) j (last_length_wrong n m d))

      pub pair_good : m ≡ n → accepted ≡ pair_answer (as_mask n ws) (as_mask m us)
      pair_good e = after_first _ (call_accepted _ _ _ u (rules_told m us u t i) j (last_length_right n m e))
