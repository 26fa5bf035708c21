-- What the calls on words know once their checks have accepted, and what their answers then are. Assumes nothing but masks of 64 bits.
use Rattle.std.specs.Prelude.{Result, Ok, Err, Option}
use Rattle.std.proofs.Common.{◌≡◌, ℕ, ◌*◌, ◌%◌, ◌^◌, ◌<◌, ◌≤◌, Bool, true, false, ◌&&◌, eqb, ltb, leb, List, [], ◌∷◌, length, sym, refl, ap, ◌∙◌, ap₂, arith, ltb-true, le-ltb, eq-eqb, leb-true}
use mathlib.Core.Bool.{and-true}
use Rattle.hybit_core.specs.Answer.{accepted, refused, plain, demand, ◌and_then◌}
use Rattle.hybit_core.specs.Table.{told, paper}
use Rattle.hybit_core.specs.declared.HybitError.{HybitError}
use Rattle.hybit_core.proofs.BoolLaws.{is_equal, is_unequal}
use Rattle.hybit_core.proofs.AnswerLaws.{demand_accepted, then_first, then_second, accepted_by, refused_by, last_fails, last_passes}
use Rattle.lent.specs.Lists.{part, spread}
use Rattle.word.specs.Bits.{has, count, selected, within, words_of}
use Rattle.word.proofs.BelowLaws.{length-below-le}
use Rattle.word.proofs.BitLaws.{within_in}
use Rattle.csr32.specs.Csr.{framed_lists}
use Rattle.csr32.proofs.FrameLaws.{RowIn, row_left, row_right, lists_sides, part_lengths}
use Rattle.topology.specs.Words.{Words, as_words, row_member, member, row_rule, row_rules, set_bits, word_sizes, word_rules, word_answer}
use Rattle.topology.specs.Calls.{row_answer}
use Rattle.topology.proofs.RowLaws.{small, Row, row_is}
use Rattle.topology.proofs.ScanLaws.{bits_append, bits_one}
use Rattle.topology.proofs.TopologyLaws.{Accepted, accepted_facts, row_bits}

-- ---- the bits of some masks

pub bits_le : (ms : List ℕ) → set_bits ms ≤ 64 * length ms
unfolding set_bits spread
bits_le [] = omega arith
bits_le (m ∷ ms) = omega (arith, bits_le ms, bits_append (m ∷ []) ms, bits_one m, length-below-le (has m) 64)

-- few masks: their sum does not wrap
pub bits_whole : (ms : List ℕ) (n : ℕ) → length ms ≤ 2 ^ 24 → n ≡ set_bits ms % 2 ^ 64 → n ≡ set_bits ms
bits_whole ms n h e = omega (arith, bits_le ms)

-- ---- the checks of all but the total, and those of the total

module _ (n m : ℕ) (ps ws ms : List ℕ) where
  pub lists_fail : false ≡ framed_lists n ps (length ws) (length ms) → false ≡ word_rules (as_words n m ps ws ms (set_bits ms))
  unfolding word_rules
  lists_fail e = ap (λ (f : Bool). f && row_rules (as_words n m ps ws ms (set_bits ms)) && eqb (set_bits ms) (set_bits ms)) e

  pub rows_decide : true ≡ framed_lists n ps (length ws) (length ms) → (t : ℕ) (r : Bool) → r ≡ row_rules (as_words n m ps ws ms t) → r ≡ word_rules (as_words n m ps ws ms (set_bits ms))
  unfolding word_rules row_rules
  rows_decide e t r h =
      h ∙ sym (and-true (row_rules (as_words n m ps ws ms t)))
      ∙ ap₂ (λ (f q : Bool). f && row_rules (as_words n m ps ws ms t) && q) e (sym (eq-eqb (set_bits ms) (set_bits ms) refl))

  pub lists_refused : (t : ℕ) (v : Result Unit HybitError) (x : HybitError) → told v ≡ word_answer (as_words n m ps ws ms (set_bits ms)) → v ≡ Err x → refused (paper x) ≡ word_answer (as_words n m ps ws ms t)
  unfolding word_answer word_rules row_rules
  lists_refused t v x e h =
      go (word_sizes (as_words n m ps ws ms t)) (framed_lists n ps (length ws) (length ms) && row_rules (as_words n m ps ws ms t)) (eqb t (set_bits ms))
      (sym (refused_by _ v x e h) ∙ ap (λ (q : Bool). demand (word_sizes (as_words n m ps ws ms t)) 1 and_then demand (framed_lists n ps (length ws) (length ms) && row_rules (as_words n m ps ws ms t) && q) 11) (eq-eqb (set_bits ms) (set_bits ms) refl))
    where
      go : (z f q : Bool) → refused (paper x) ≡ (demand z 1 and_then demand (f && true) 11) → refused (paper x) ≡ (demand z 1 and_then demand (f && q) 11)
      go false f q e = e
      go true false q e = e
      go true true q e = cc

  pub lists_then : word_answer (as_words n m ps ws ms (set_bits ms)) ≡ accepted → (t : ℕ) → demand (eqb t (set_bits ms)) 11 ≡ word_answer (as_words n m ps ws ms t)
  unfolding word_answer word_rules row_rules
  lists_then a t = go (word_sizes (as_words n m ps ws ms t)) (framed_lists n ps (length ws) (length ms) && row_rules (as_words n m ps ws ms t)) (eqb (set_bits ms) (set_bits ms)) (eqb t (set_bits ms)) a
    where
      go : (z f o q : Bool) → (demand z 1 and_then demand (f && o) 11) ≡ accepted → demand q 11 ≡ (demand z 1 and_then demand (f && q) 11)
      go false f o q e = cc
      go true false o q e = cc
      go true true o q e = refl

  module _ (a : word_answer (as_words n m ps ws ms (set_bits ms)) ≡ accepted) (t k : ℕ) (e : k ≡ set_bits ms % 2 ^ 64) where
    pub bits_counted : k ≡ set_bits ms
    bits_counted =
        let f : Accepted (as_words n m ps ws ms (set_bits ms)) = accepted_facts (as_words n m ps ws ms (set_bits ms)) a in
        bits_whole ms k (omega (arith, f.words_in, lists_sides n ps (length ws) (length ms) f.lists)) e

    pub total_wrong : (t ≡ k → ⊥) → refused (plain 11) ≡ word_answer (as_words n m ps ws ms t)
    total_wrong h = last_fails (eqb t (set_bits ms)) 11 (is_unequal t (set_bits ms) (λ q. h (q ∙ sym bits_counted))) ∙ lists_then a t

    pub total_right : t ≡ k → accepted ≡ word_answer (as_words n m ps ws ms t)
    total_right h = last_passes (eqb t (set_bits ms)) 11 (is_equal t (set_bits ms) (h ∙ bits_counted)) ∙ lists_then a t

-- ---- a record that `check` accepted

pub checked : (t : Words) (v : Result Unit HybitError) → told v ≡ word_answer t → v ≡ Ok tt → Accepted t
checked t v e a = accepted_facts t (accepted_by (word_answer t) v e a)

-- ---- a row whose question the checks accept

module _ (t : Words) (r : ℕ) where
  pub record RowOk : Type 0 where
    pub facts : Accepted t
    pub here : r < t.rows
    pub left : RowIn t.ptr (length t.word) r
    pub right : RowIn t.ptr (length t.mask) r

  pub row_ok : row_answer t r ≡ accepted → RowOk
  unfolding row_answer
  row_ok e =
      let k : Accepted t = accepted_facts t (then_first (word_answer t) (demand (ltb r t.rows) 7) e) in
      let h : r < t.rows = ltb-true r t.rows (demand_accepted _ _ (then_second (word_answer t) (demand (ltb r t.rows) 7) e)) in
      record {
        facts = k;
        here = h;
        left = row_left t.rows t.ptr (length t.word) (length t.mask) k.lists r h;
        right = row_right t.rows t.ptr (length t.word) (length t.mask) k.lists r h;
      }

  pub row_checked : (v : Result Unit HybitError) → told v ≡ row_answer t r → v ≡ Ok tt → RowOk
  row_checked v e a = row_ok (accepted_by (row_answer t r) v e a)

  -- a rank asks for its column too
  module _ (c : ℕ) (v : Result Unit HybitError) (e : told v ≡ (row_answer t r and_then demand (leb c t.cols) 7)) (a : v ≡ Ok tt) where
    pub rank_checked : RowOk
    rank_checked = row_ok (then_first (row_answer t r) (demand (leb c t.cols) 7) (accepted_by (row_answer t r and_then demand (leb c t.cols) 7) v e a))

    pub rank_low : c ≤ t.cols
    rank_low = leb-true c t.cols (demand_accepted _ _ (then_second (row_answer t r) (demand (leb c t.cols) 7) (accepted_by (row_answer t r and_then demand (leb c t.cols) 7) v e a)))

  module _ (k : RowOk) where
    -- ws and ms are the row's parts
    module _ (ws ms : List ℕ) (a : ws ≡ part t.ptr t.word r) (b : ms ≡ part t.ptr t.mask r) where
      pub sides_lent : length ms ≡ length ws
      sides_lent =
          ap length b ∙ part_lengths t.ptr t.mask t.word r (sym (lists_sides t.rows t.ptr (length t.word) (length t.mask) k.facts.lists)) ∙ sym (ap length a)

      pub rule_lent : row_rule t.cols ws ms ≡ true
      rule_lent = ap₂ (λ (s m : List ℕ). row_rule t.cols s m) a b ∙ k.facts.each_row r k.here

      member_lent : row_member ws ms ≡ member t r
      unfolding member
      member_lent = ap₂ (λ (s m : List ℕ). row_member s m) a b

      -- as the row of its own test, where its masks are words
      module _ (s : small ms ≡ true) where
        same_row : Row (member t r) t.cols ws ms
        same_row = rw (← member_lent) (row_is t.cols ws ms rule_lent (sym sides_lent) s)

        pub nonempty_is : length ws ≡ length (words_of (member t r) t.cols)
        nonempty_is = ap length same_row.words

        pub popcount_is : (n : ℕ) → n ≡ set_bits ms % 2 ^ 64 → n ≡ count (member t r) t.cols
        popcount_is n e =
            let q : set_bits ms ≡ count (member t r) t.cols = ap set_bits same_row.masks ∙ row_bits (member t r) t.cols in
            let l : count (member t r) t.cols ≤ t.cols = length-below-le (member t r) t.cols in
            let c : t.cols ≤ 2 ^ 20 = k.facts.cols_in in
            omega arith

      pub contains_is : (c : ℕ) (x : Bool) → c < t.cols → x ≡ row_member ws ms c → x ≡ within t.cols (member t r) c
      contains_is c x l e = e ∙ ap (λ (f : ℕ → Bool). f c) member_lent ∙ sym (within_in t.cols (member t r) c l)

      pub rank_is : (c n : ℕ) → n ≡ count (row_member ws ms) c → n ≡ count (member t r) c
      rank_is c n e = e ∙ ap (λ (f : ℕ → Bool). count f c) member_lent

      pub select_is : (o : ℕ) (x : Option ℕ) → x ≡ selected (row_member ws ms) t.cols o → x ≡ selected (member t r) t.cols o
      select_is o x e = e ∙ ap (λ (f : ℕ → Bool). selected f t.cols o) member_lent

    pub contains_past : (c : ℕ) → t.cols ≤ c → false ≡ within t.cols (member t r) c
    contains_past c h = sym (ap (λ (x : Bool). x && member t r c) (le-ltb c t.cols h))
