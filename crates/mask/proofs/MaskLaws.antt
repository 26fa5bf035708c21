-- Laws of masks: a valid one is the words of its own membership, and the words of a membership are a valid mask. Assumes nothing.
use Rattle.std.specs.Prelude.{Result, Ok}
use Rattle.hybit_core.specs.declared.HybitError.{HybitError}
use mathlib.Core.Bool.{Bool, true, false, ◌&&◌, true≢false, and-false}
use mathlib.Core.List.{List}
use mathlib.Core.Path.{◌≡◌, refl, sym, ap, ap₂, ◌∙◌}
use Prim.Native.Nat.{ℕ, ◌+◌, ◌-◌, ◌*◌, ◌/◌, ◌%◌, ◌^◌, ◌≤◌, ◌<◌}
use native.Mathlib.Decide.{dec_lt}
use native.Mathlib.Omega.{arith}
use borrow.Author.Tests.{eq-eqb, ne_eqb, eqb-true, lt-ltb, le-ltb, leb-true}
use lib.Count.{count_trailing_zeros}
use lib.Dec.{eqb, ltb}
use lib.ListN.{length, get_or, get_or-eq_default}
use native.Mathlib.Nat.{div-le_self}
use Rattle.hybit_core.specs.Answer.{accepted, demand}
use Rattle.hybit_core.specs.Domain.{few}
use Rattle.hybit_core.specs.Table.{told}
use Rattle.hybit_core.proofs.AnswerLaws.{demand_accepted, then_first, then_second, accepted_by}
use Rattle.hybit_core.proofs.BoolLaws.{and_left, and_right, same_test}
use Rattle.lent.proofs.ListLaws.{length-each, get_or-each, each_is}
use Rattle.word.specs.Bits.{has, from, below, between, within, mask_of, ceil64}
use Rattle.word.proofs.BelowLaws.{below_trim, below_cong, between_none}
use Rattle.word.proofs.HasLaws.{has-past, has-shr, shr_zero}
use Rattle.word.proofs.BitLaws.{has-none, within_in, has-mask-at}
use Rattle.word.proofs.LowestLaws.{lowest_has}
use Rattle.word.proofs.OpLaws.{word_is_lem}
use Rattle.word.proofs.WordLaws.{empty-at}
use Rattle.mask.specs.Mask.{as_mask, bit_at, active, mask_words, all_active, mask_rules, mask_answer}

-- ---- bits of a list of words

pub bit_in : (ws : List ℕ) (w i : ℕ) → i < 64 → bit_at ws (64 * w + i) ≡ has (get_or ws w 0) i
unfolding bit_at
bit_in ws w i h =
    let p : (64 * w + i) / 64 ≡ w = omega arith in
    let q : (64 * w + i) % 64 ≡ i = omega arith in
    ap₂ (λ (v j : ℕ). has (get_or ws v 0) j) p q

pub bit_past : (ws : List ℕ) (c : ℕ) → length ws ≤ c / 64 → bit_at ws c ≡ false
unfolding bit_at
bit_past ws c h = ap (λ (m : ℕ). has m (c % 64)) (get_or-eq_default ws 0 h) ∙ has-none (c % 64)

-- ---- membership, as the code tests it

pub past-length : (n : ℕ) (ws : List ℕ) (c : ℕ) → n ≤ c → false ≡ active (as_mask n ws) c
unfolding active
past-length n ws c h = sym (ap (λ (t : Bool). t && bit_at ws c) (le-ltb c n h))

pub past_words : (n : ℕ) (ws : List ℕ) (c : ℕ) → length ws ≤ c / 64 → false ≡ active (as_mask n ws) c
unfolding active
past_words n ws c h = sym (ap (λ (t : Bool). ltb c n && t) (bit_past ws c h) ∙ and-false (ltb c n))

pub in_words : (n : ℕ) (ws : List ℕ) (c : ℕ) (r : Bool) → c < n → r ≡ has (get_or ws (c / 64) 0) (c % 64) → r ≡ active (as_mask n ws) c
unfolding active bit_at
in_words n ws c r h e = e ∙ sym (ap (λ (t : Bool). t && has (get_or ws (c / 64) 0) (c % 64)) (lt-ltb c n h))

-- ---- the facts of a mask in which 1 and 5 find nothing

pub record Valid (n : ℕ) (ws : List ℕ) : Type 0 where
  pub small : n ≤ 2 ^ 20
  pub counted : length ws ≡ ceil64 n
  pub clean : (c : ℕ) → n ≤ c → bit_at ws c ≡ false

rules_clean : (n : ℕ) (ws : List ℕ) → mask_rules (as_mask n ws) ≡ true → (c : ℕ) → n ≤ c → bit_at ws c ≡ false
unfolding mask_rules between
rules_clean n ws ok c h = go (dec_lt (c / 64) (length ws))
  where
    none : length (from (bit_at ws) n (64 * length ws - n)) ≡ 0
    none = eqb-true (length (from (bit_at ws) n (64 * length ws - n))) 0 (and_right (eqb (length ws) (ceil64 n)) _ ok)

    go : Dec (c / 64 < length ws) → bit_at ws c ≡ false
    go (yes l) = empty-at (bit_at ws) n (64 * length ws - n) c none h (omega arith)
    go (no l) = bit_past ws c (omega arith)

pub rules_valid : (n : ℕ) (ws : List ℕ) → n ≤ 2 ^ 20 → mask_rules (as_mask n ws) ≡ true → Valid n ws
unfolding mask_rules
rules_valid n ws s ok = record { small = s; counted = eqb-true (length ws) (ceil64 n) (and_left (eqb (length ws) (ceil64 n)) _ ok); clean = rules_clean n ws ok }

pub valid : (n : ℕ) (ws : List ℕ) → mask_answer (as_mask n ws) ≡ accepted → Valid n ws
unfolding mask_answer
valid n ws ok =
    rules_valid n ws (leb-true n (2 ^ 20) (demand_accepted (few n) 1 (then_first (demand (few n) 1) (demand (mask_rules (as_mask n ws)) 5) ok)))
    (demand_accepted (mask_rules (as_mask n ws)) 5 (then_second (demand (few n) 1) (demand (mask_rules (as_mask n ws)) 5) ok))

-- the same where `check` gave the verdict v
pub checked : (n : ℕ) (ws : List ℕ) (v : Result Unit HybitError) → told v ≡ mask_answer (as_mask n ws) → v ≡ Ok tt → Valid n ws
checked n ws v e t = valid n ws (accepted_by (mask_answer (as_mask n ws)) v e t)

-- ---- the rules, as the code tests them

module _ (n : ℕ) (ws : List ℕ) where
  pub rules_wrong : (length ws ≡ ceil64 n → ⊥) → false ≡ mask_rules (as_mask n ws)
  unfolding mask_rules
  rules_wrong h = sym (ap (λ (t : Bool). t && eqb (length (between (bit_at ws) n (64 * length ws))) 0) (ne_eqb (length ws) (ceil64 n) h))

  module _ (e : length ws ≡ ceil64 n) where
    from_last : mask_rules (as_mask n ws) ≡ eqb (length (between (bit_at ws) n (64 * length ws))) 0
    unfolding mask_rules
    from_last = ap (λ (t : Bool). t && eqb (length (between (bit_at ws) n (64 * length ws))) 0) (eq-eqb (length ws) (ceil64 n) e)

    clean_is : ((c : ℕ) → n ≤ c → c < 64 * length ws → bit_at ws c ≡ false) → mask_rules (as_mask n ws) ≡ true
    clean_is f = from_last ∙ eq-eqb (length (between (bit_at ws) n (64 * length ws))) 0 (ap length (between_none (bit_at ws) n (64 * length ws) f))

    pub rules_whole : n % 64 ≡ 0 → true ≡ mask_rules (as_mask n ws)
    rules_whole z = sym (clean_is (λ c l u. absurd (omega arith)))

    pub rules_last : (n % 64 ≡ 0 → ⊥) → get_or ws (n / 64) 0 < 2 ^ 64 → eqb (get_or ws (n / 64) 0 / 2 ^ (n % 64)) 0 ≡ mask_rules (as_mask n ws)
    unfolding bit_at
    rules_last z f = same_test (eqb (w / 2 ^ v) 0) (mask_rules (as_mask n ws)) (λ q. clean_is (nothing (eqb-true (w / 2 ^ v) 0 q))) (λ ok. eq-eqb (w / 2 ^ v) 0 (shifted ok (dec_lt 0 (w / 2 ^ v))))
      where
        w : ℕ
        w = get_or ws (n / 64) 0

        v : ℕ
        v = n % 64

        nothing : get_or ws (n / 64) 0 / 2 ^ (n % 64) ≡ 0 → (c : ℕ) → n ≤ c → c < 64 * length ws → bit_at ws c ≡ false
        nothing q c l u =
            let p : c / 64 ≡ n / 64 = omega arith in
            ap (λ (k : ℕ). has (get_or ws k 0) (c % 64)) p ∙ has-past (n % 64) (get_or ws (n / 64) 0) (c % 64) (shr_zero (get_or ws (n / 64) 0) (n % 64) q) (omega arith)

        shifted : mask_rules (as_mask n ws) ≡ true → Dec (0 < get_or ws (n / 64) 0 / 2 ^ (n % 64)) → get_or ws (n / 64) 0 / 2 ^ (n % 64) ≡ 0
        shifted ok (no h) = omega arith
        shifted ok (yes h) = absurd (true≢false (sym high ∙ low))
          where
            i : ℕ
            i = count_trailing_zeros 64 (get_or ws (n / 64) 0 / 2 ^ (n % 64))

            less : get_or ws (n / 64) 0 / 2 ^ (n % 64) < 2 ^ 64
            less = omega (arith, div-le_self (get_or ws (n / 64) 0) (2 ^ (n % 64)), f)

            high : has (get_or ws (n / 64) 0) (n % 64 + i) ≡ true
            high = sym (has-shr (get_or ws (n / 64) 0) (n % 64) i) ∙ lowest_has 64 (get_or ws (n / 64) 0 / 2 ^ (n % 64)) h less

            low : has (get_or ws (n / 64) 0) (n % 64 + i) ≡ false
            low = go (dec_lt (n % 64 + i) 64)
              where
                go : Dec (n % 64 + i < 64) → has (get_or ws (n / 64) 0) (n % 64 + i) ≡ false
                go (no g) = has-past 64 (get_or ws (n / 64) 0) (n % 64 + i) f (omega arith)
                go (yes g) = sym (bit_in ws (n / 64) (n % 64 + i) g) ∙ rules_clean n ws ok (64 * (n / 64) + (n % 64 + i)) (omega arith)

-- ---- a valid mask

module _ (n : ℕ) (ws : List ℕ) (ok : Valid n ws) where
  -- nothing is set past the length, so the length's test says nothing
  pub active_is : (c : ℕ) → active (as_mask n ws) c ≡ bit_at ws c
  unfolding active
  active_is c = go (dec_lt c n)
    where
      go : Dec (c < n) → (ltb c n && bit_at ws c) ≡ bit_at ws c
      go (yes h) = ap (λ (t : Bool). t && bit_at ws c) (lt-ltb c n h)
      go (no h) = ap (λ (t : Bool). t && bit_at ws c) (le-ltb c n (omega arith)) ∙ sym (ok.clean c (omega arith))

  pub word_bit : (w i : ℕ) → i < 64 → has (get_or ws w 0) i ≡ active (as_mask n ws) (64 * w + i)
  word_bit w i h = sym (active_is (64 * w + i) ∙ bit_in ws w i h)

  pub active-within : (c : ℕ) → within n (active (as_mask n ws)) c ≡ active (as_mask n ws) c
  unfolding active
  active-within c = twice (ltb c n) (bit_at ws c)
    where
      twice : (s t : Bool) → (s && (s && t)) ≡ (s && t)
      twice true t = refl
      twice false t = refl

  pub members_are : below (active (as_mask n ws)) n ≡ below (bit_at ws) (64 * length ws)
  members_are = below_cong (active (as_mask n ws)) (bit_at ws) n (λ c l. active_is c) ∙ sym (below_trim (bit_at ws) n (64 * length ws) (omega (arith, ok.counted)) (λ c l u. ok.clean c l))

  pub few_words : length ws ≤ 2 ^ 14
  few_words = omega (arith, ok.small, ok.counted)

  -- it is the words of its own membership
  module _ (fits : (k : ℕ) → get_or ws k 0 < 2 ^ 64) where
    pub word_is_mask : (w : ℕ) → get_or ws w 0 ≡ mask_of (active (as_mask n ws)) n w
    unfolding mask_of
    word_is_mask w = word_is_lem (get_or ws w 0) (λ i. within n (active (as_mask n ws)) (64 * w + i)) (fits w) (λ i h. word_bit w i h ∙ sym (active-within (64 * w + i)))

    pub words_are : ws ≡ mask_words (active (as_mask n ws)) n
    unfolding mask_words
    words_are = each_is 0 (mask_of (active (as_mask n ws)) n) (ceil64 n) ws ok.counted (λ k h. word_is_mask k)

-- ---- the words of a membership

module _ (p : ℕ → Bool) (n : ℕ) where
  pub length-words : length (mask_words p n) ≡ ceil64 n
  unfolding mask_words
  length-words = length-each (mask_of p n) (ceil64 n)

  pub word_of_words : (w : ℕ) → w < ceil64 n → get_or (mask_words p n) w 0 ≡ mask_of p n w
  unfolding mask_words
  word_of_words w h = get_or-each (mask_of p n) (ceil64 n) w 0 h

  pub bit_of_words : (c : ℕ) → bit_at (mask_words p n) c ≡ within n p c
  unfolding bit_at
  bit_of_words c = go (dec_lt (c / 64) (ceil64 n))
    where
      go : Dec (c / 64 < ceil64 n) → has (get_or (mask_words p n) (c / 64) 0) (c % 64) ≡ within n p c
      go (yes h) = ap (λ (m : ℕ). has m (c % 64)) (word_of_words (c / 64) h) ∙ has-mask-at p n c
      go (no h) =
          bit_past (mask_words p n) c (omega (arith, length-words)) ∙ sym (ap (λ (t : Bool). t && p c) (le-ltb c n (omega arith)))

  -- they are a valid mask with that membership
  pub words_valid : n ≤ 2 ^ 20 → Valid n (mask_words p n)
  words_valid s = record { small = s; counted = length-words; clean = λ c h. bit_of_words c ∙ ap (λ (t : Bool). t && p c) (le-ltb c n h) }

  pub words_rules : mask_rules (as_mask n (mask_words p n)) ≡ true
  words_rules = clean_is n (mask_words p n) length-words (λ c l u. bit_of_words c ∙ ap (λ (t : Bool). t && p c) (le-ltb c n l))

  pub active-words : (c : ℕ) → c < n → active (as_mask n (mask_words p n)) c ≡ p c
  unfolding active
  active-words c h = ap₂ (λ (s t : Bool). s && t) (lt-ltb c n h) (bit_of_words c ∙ within_in n p c h)

-- every column active
pub all_valid : (n : ℕ) → mask_rules (all_active n) ≡ true
all_valid n = words_rules (λ c. true) n

pub all-active : (n c : ℕ) → c < n → active (all_active n) c ≡ true
all-active n c h = active-words (λ c. true) n c h
