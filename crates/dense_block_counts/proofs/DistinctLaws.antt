-- The distinct columns of a row, counted through a bitmap of those that came before. Assumes nothing.
use mathlib.Core.Bool.{Bool, true, false, not, ◌||◌}
use mathlib.Core.List.{List}
use mathlib.Core.Path.{◌≡◌, refl, sym, ap, ap₂, ◌∙◌}
use mir.Val.{bool_byte}
use Prim.Native.Nat.{ℕ, ◌+◌, ◌/◌, ◌%◌, ◌^◌, ◌≤◌, ◌<◌}
use native.Mathlib.Omega.{arith}
use lib.Dec.{eqb, ltb}
use lib.ListN.{length, get_or, take, set}
use lib.Seq.{take_all}
use Rattle.lent.specs.Lists.{every, some}
use Rattle.word.specs.Bits.{has, below, count, word_of, ceil64}
use Rattle.word.proofs.BelowLaws.{byte_le, length-below-le, none-counted}
use Rattle.word.proofs.BitLaws.{within_in}
use Rattle.mask.specs.Mask.{bit_at, mask_words}
use Rattle.mask.specs.Calls.{listed}
use Rattle.mask.proofs.MaskLaws.{length-words, bit_of_words}
use Rattle.csr32.proofs.CsrLaws.{column_below}
use Rattle.levels.specs.Levels.{zeroed}
use Rattle.levels.proofs.LevelLaws.{mark_is, count_more, listed_more}
use Rattle.levels.proofs.ClearLaws.{forgotten}

-- the first k of the columns are in the bitmap, and `found` of them are distinct
pub record Distinct (n : ℕ) (cs : List ℕ) (k found : ℕ) (bits : List ℕ) : Type 0 where
  pub small : n ≤ 2 ^ 20
  pub all : every (λ c. ltb c n) cs ≡ true
  pub bits_are : bits ≡ mask_words (listed (take k cs)) n
  pub counts : found ≡ count (listed (take k cs)) n

module _ (n : ℕ) (cs : List ℕ) where
  pub distinct_none : (bits : List ℕ) → n ≤ 2 ^ 20 → every (λ c. ltb c n) cs ≡ true → bits ≡ mask_words (λ c. false) n → Distinct n cs 0 0 bits
  unfolding listed some
  distinct_none bits s a e = record { small = s; all = a; bits_are = e; counts = sym (none-counted (λ c. false) n (λ i l. refl)) }

  module _ (k found : ℕ) (bits : List ℕ) (inv : Distinct n cs k found bits) where
    pub distinct_long : length bits ≡ ceil64 n
    distinct_long = ap length inv.bits_are ∙ length-words (listed (take k cs)) n

    pub distinct_fits : (r : ℕ) (t : Bool) → r ≡ bool_byte t → found + r < 2 ^ 64
    distinct_fits r t e = omega (arith, inv.small, inv.counts, length-below-le (listed (take k cs)) n, byte_le t)

    -- c is column k, as the code reads it
    module _ (h : k < length cs) (c : ℕ) (e : c ≡ get_or cs k 0) where
      pub distinct_inside : c < n
      distinct_inside = column_below n cs k c inv.all h e

      pub distinct_place : c / 64 < length bits
      distinct_place = omega (arith, distinct_inside, distinct_long)

      next : (λ d. listed (take k cs) d || eqb d c) ≡ listed (take (k + 1) cs)
      next = λ i d. (ap (λ (a : ℕ). listed (take k cs) d || eqb d a) e ∙ sym (listed_more cs k d h)) i

      known : bit_at bits c ≡ listed (take k cs) c
      known = ap (λ (l : List ℕ). bit_at l c) inv.bits_are ∙ bit_of_words (listed (take k cs)) n c ∙ within_in n (listed (take k cs)) c distinct_inside

      -- t says whether the bitmap has it, and r is 1 if not
      pub distinct_more : (t : Bool) (r : ℕ) (bits' : List ℕ) → t ≡ has (get_or bits (c / 64) 0) (c % 64) → r ≡ bool_byte (not t)
          → bits' ≡ set bits (c / 64) (word_of (λ i. has (get_or bits (c / 64) 0) i || eqb i (c % 64))) → Distinct n cs (k + 1) (found + r) bits'
      unfolding bit_at
      distinct_more t r bits' et er eb = record {
        small = inv.small;
        all = inv.all;
        bits_are = eb ∙ mark_is (listed (take k cs)) n c (word_of (λ i. has (get_or bits (c / 64) 0) i || eqb i (c % 64))) bits inv.bits_are distinct_inside refl ∙ ap (λ (q : ℕ → Bool). mask_words q n) next;
        counts =
            ap₂ (λ (a b : ℕ). a + b) inv.counts (er ∙ ap (λ (u : Bool). bool_byte (not u)) (et ∙ known))
            ∙ sym (count_more (listed (take k cs)) c n distinct_inside) ∙ ap (λ (q : ℕ → Bool). length (below q n)) next;
      }

    module _ (h : length cs ≤ k) where
      pub distinct_done : found ≡ count (listed cs) n
      distinct_done = inv.counts ∙ ap (λ (l : List ℕ). length (below (listed l) n)) (take_all k cs h)

      pub distinct_empty : (bits' : List ℕ) → bits' ≡ zeroed (λ c. c / 64) cs bits → bits' ≡ mask_words (λ c. false) n
      distinct_empty bits' e = forgotten cs n bits bits' (inv.bits_are ∙ ap (λ (l : List ℕ). mask_words (listed l) n) (take_all k cs h)) e
