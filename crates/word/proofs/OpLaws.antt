-- What the machine's operations on a word do to its members: each is the word of a test. Assumes nothing.
use mathlib.Core.Bool.{Bool, false, not, ◌&&◌, ◌||◌, and-true, or-false, beq}
use mathlib.Core.List.{List}
use mathlib.Core.Logic.{◌⊎◌, inl, inr}
use Rattle.std.specs.Prelude.{None, Some}
use mathlib.Core.Path.{◌≡◌, refl, sym, ap, ◌∙◌}
use Prim.Native.Nat.{ℕ, ◌+◌, ◌-◌, ◌*◌, ◌%◌, ◌^◌, ◌≤◌, ◌<◌}
use native.Mathlib.Nat.{eq-zero-or-pos}
use native.Mathlib.Decide.{dec_lt}
use native.Mathlib.Omega.{arith}
use borrow.Author.Tests.{lt-ltb, ne_eqb}
use lib.Bits.{bit_and, bit_or, bit_xor, and_lt, or_lt, xor_lt, and_le_l}
use lib.Count.{count_trailing_zeros, trailing_of_zero}
use lib.Dec.{eqb, ltb}
use lib.ListN.{length, get_or, drop}
use lib.Pow.{pow-lt}
use lib.Seq.{get_or-drop, drop-drop}
use Rattle.word.specs.Bits.{has, count, word_of, members, selected}
use Rattle.word.specs.Word.{combined}
use Rattle.word.specs.declared.Operation.{Operation}
use Rattle.word.specs.declared.Operation.TheVariants.{Union, Intersection, AndNot, Xor}
use Rattle.word.proofs.BelowLaws.{selected-at, selected_nothing}
use Rattle.word.proofs.HasLaws.{has-and, has-or, has-xor, has-and-not, has-past, has-pow, has_low, has_ext, shl_one, low_mask}
use Rattle.word.proofs.BitLaws.{has-number, number_lt}
use Rattle.word.proofs.LowestLaws.{members_walk, members-none}

-- a word is that of a test if they agree at each of its 64 bits
pub word_is_lem : (r : ℕ) (p : ℕ → Bool) → r < 2 ^ 64 → ((i : ℕ) → i < 64 → has r i ≡ p i) → r ≡ word_of p
word_is_lem r p h f = has_ext 64 r (word_of p) h (number_lt p 64) (λ i. go i (dec_lt i 64))
  where
    go : (i : ℕ) → Dec (i < 64) → has r i ≡ has (word_of p) i
    go i (yes l) = f i l ∙ sym (has-number p 64 i ∙ ap (λ (t : Bool). t && p i) (lt-ltb i 64 l))
    go i (no l) = has-past 64 r i h (omega arith) ∙ sym (has-past 64 (word_of p) i (number_lt p 64) (omega arith))

-- bit i of the word of a test
pub has_word : (p : ℕ → Bool) (i : ℕ) → i < 64 → has (word_of p) i ≡ p i
has_word p i l = has-number p 64 i ∙ ap (λ (t : Bool). t && p i) (lt-ltb i 64 l)

pub word_cong : (p q : ℕ → Bool) → ((i : ℕ) → i < 64 → p i ≡ q i) → word_of p ≡ word_of q
word_cong p q f = word_is_lem (word_of p) q (number_lt p 64) (λ i l. has_word p i l ∙ f i l)

module _ (a b : ℕ) (ha : a < 2 ^ 64) (hb : b < 2 ^ 64) where
  pub union_is : bit_or a b ≡ word_of (λ i. has a i || has b i)
  union_is = word_is_lem (bit_or a b) (λ i. has a i || has b i) (or_lt 64 a b ha hb) (λ i l. has-or a b i)

  pub intersection_is : bit_and a b ≡ word_of (λ i. has a i && has b i)
  intersection_is = word_is_lem (bit_and a b) (λ i. has a i && has b i) (and_lt 64 a b ha hb) (λ i l. has-and a b i)

  pub and_not_is : bit_and a ((2 ^ 64 - 1) - b) ≡ word_of (λ i. has a i && not (has b i))
  and_not_is =
      word_is_lem (bit_and a ((2 ^ 64 - 1) - b)) (λ i. has a i && not (has b i)) (omega (arith, and_le_l a ((2 ^ 64 - 1) - b))) (λ i l. has-and-not 64 a b i ha hb)

  pub xor_is : bit_xor a b ≡ word_of (λ i. not (beq (has a i) (has b i)))
  xor_is = word_is_lem (bit_xor a b) (λ i. not (beq (has a i) (has b i))) (xor_lt 64 a b ha hb) (λ i l. has-xor a b i)

module _ (w k : ℕ) (f : w < 2 ^ 64) where
  -- one bit set, one bit cleared, and the bits below k, for a place in the word
  module _ (h : k < 64) where
    pub with_is : bit_or w ((1 * 2 ^ k) % 2 ^ 64) ≡ word_of (λ i. has w i || eqb i k)
    with_is =
        ap (bit_or w) (shl_one k h)
        ∙ word_is_lem (bit_or w (2 ^ k)) (λ i. has w i || eqb i k) (or_lt 64 w (2 ^ k) f (pow-lt h)) (λ i l. has-or w (2 ^ k) i ∙ ap (λ (t : Bool). has w i || t) (has-pow k i))

    pub without_is : bit_and w ((2 ^ 64 - 1) - (1 * 2 ^ k) % 2 ^ 64) ≡ word_of (λ i. has w i && not (eqb i k))
    without_is =
        ap (λ (n : ℕ). bit_and w ((2 ^ 64 - 1) - n)) (shl_one k h)
        ∙ word_is_lem (bit_and w ((2 ^ 64 - 1) - 2 ^ k)) (λ i. has w i && not (eqb i k)) (omega (arith, and_le_l w ((2 ^ 64 - 1) - 2 ^ k)))
        (λ i l. has-and-not 64 w (2 ^ k) i f (pow-lt h) ∙ ap (λ (t : Bool). has w i && not t) (has-pow k i))

    pub trim_is : bit_and w ((1 * 2 ^ k) % 2 ^ 64 - 1) ≡ word_of (λ i. has w i && ltb i k)
    trim_is =
        word_is_lem (bit_and w ((1 * 2 ^ k) % 2 ^ 64 - 1)) (λ i. has w i && ltb i k) (omega (arith, and_le_l w ((1 * 2 ^ k) % 2 ^ 64 - 1)))
        (λ i l. ap (λ (n : ℕ). has n i) (low_mask w k h) ∙ has_low w k i)

  -- and where there is no such place
  module _ (h : 64 ≤ k) where
    pub with_none : w ≡ word_of (λ i. has w i || eqb i k)
    with_none = word_is_lem w (λ i. has w i || eqb i k) f (λ i l. sym (ap (λ (t : Bool). has w i || t) (ne_eqb i k (λ e. absurd (omega arith))) ∙ or-false (has w i)))

    pub without_none : w ≡ word_of (λ i. has w i && not (eqb i k))
    without_none = word_is_lem w (λ i. has w i && not (eqb i k)) f (λ i l. sym (ap (λ (t : Bool). has w i && not t) (ne_eqb i k (λ e. absurd (omega arith))) ∙ and-true (has w i)))

    pub trim_none : w ≡ word_of (λ i. has w i && ltb i k)
    trim_none = word_is_lem w (λ i. has w i && ltb i k) f (λ i l. sym (ap (λ (t : Bool). has w i && t) (lt-ltb i k (omega arith)) ∙ and-true (has w i)))

-- ---- the lowest member, and the others

pub lowest_is : (w : ℕ) → w < 2 ^ 64 → count_trailing_zeros 64 w ≡ get_or (members w) 0 64
lowest_is w h = go (eq-zero-or-pos w)
  where
    go : (w ≡ 0) ⊎ (0 < w) → count_trailing_zeros 64 w ≡ get_or (members w) 0 64
    go (inl e) = ap (count_trailing_zeros 64) e ∙ trailing_of_zero 64 ∙ sym (ap (λ (v : ℕ). get_or (members v) 0 64) e ∙ ap (λ (l : List ℕ). get_or l 0 64) members-none)
    go (inr p) = sym (ap (λ (l : List ℕ). get_or l 0 64) (members_walk w p h))

pub rest_is : (w : ℕ) → w < 2 ^ 64 → (w ≡ 0 → ⊥) → members (bit_and w (w - 1)) ≡ drop 1 (members w)
rest_is w h f = let p : 0 < w = omega arith in ap (drop 1) (sym (members_walk w p h))

pub rest-none : (w : ℕ) → w ≡ 0 → members 0 ≡ drop 1 (members w)
rest-none w e = members-none ∙ sym (ap (λ (v : ℕ). drop 1 (members v)) e ∙ ap (drop 1) members-none)

-- ---- a loop that takes the lowest member off: so many are left of the members of w

pub members-count : (w : ℕ) → length (members w) ≡ count (has w) 64
unfolding members
members-count w = refl

pub left-none : (w : ℕ) → members w ≡ drop 0 (members w)
left-none w = refl

pub left_more : (w b r k : ℕ) → members b ≡ drop k (members w) → members r ≡ drop 1 (members b) → members r ≡ drop (k + 1) (members w)
left_more w b r k e h = h ∙ ap (drop 1) e ∙ drop-drop 1 k (members w)

pub left-selected : (w b n k r : ℕ) → members b ≡ drop k (members w) → k ≤ n → n ≤ k → n < count (has w) 64 → r ≡ get_or (members b) 0 64 → Some r ≡ selected (has w) 64 n
unfolding members
left-selected w b n k r e l u h q =
    let s : k + 0 ≡ n = omega arith in
    ap (λ (i : ℕ). Some i) (q ∙ ap (λ (t : List ℕ). get_or t 0 64) e ∙ get_or-drop k (members w) 0 64 ∙ ap (λ (m : ℕ). get_or (members w) m 64) s) ∙ sym (selected-at (has w) 64 n 64 h)

pub nothing_left : (w n r : ℕ) → r ≤ n → r ≡ count (has w) 64 → None ≡ selected (has w) 64 n
nothing_left w n r l e = sym (selected_nothing (has w) 64 n (omega arith))

-- ---- the operations by their names

pub combined_as : (p o : Operation) (a b r : ℕ) → p ≡ o → r ≡ word_of (λ i. combined o (has a i) (has b i)) → r ≡ word_of (λ i. combined p (has a i) (has b i))
combined_as p o a b r e h = h ∙ sym (ap (λ (q : Operation). word_of (λ i. combined q (has a i) (has b i))) e)

-- no operation makes a member of two that are none
pub combined-none : (op : Operation) → combined op false false ≡ false
combined-none Union = refl
combined-none Intersection = refl
combined-none AndNot = refl
combined-none Xor = refl
