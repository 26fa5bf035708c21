-- The values of a Dense tile: what the loop over its absent places finds, and what the count of values that are neither NaN nor zero
-- says. Assumes nothing.
use Rattle.std.proofs.Common.{◌≡◌, ℕ, ◌-◌, ◌^◌, ◌<◌, ◌≤◌, Bool, true, false, cond, not, ◌&&◌, length, get_or, drop, sym, refl, ap, ◌∙◌, zero-le, arith}
use mathlib.Core.Bool.{and_comm, and-false}
use lib.Bits.{bit_and}
use Rattle.hybit_core.proofs.BoolLaws.{not-both}
use Rattle.lent.specs.Lists.{every}
use Rattle.word.specs.Bits.{has, below, count, members, word_of}
use Rattle.word.proofs.BelowLaws.{below_cong, length-below-parts, from-none}
use Rattle.word.proofs.BitLaws.{every-below, every-below-at}
use Rattle.word.proofs.HasLaws.{has-ones}
use Rattle.word.proofs.LowestLaws.{members-none}
use Rattle.word.proofs.OpLaws.{has_word, rest_is}
use Rattle.word.proofs.WalkLaws.{walk_step}
use Rattle.word.proofs.WordLaws.{empty-at}

-- ---- places that are tested one after the other: those of `rest` are still to be tested

pub record Walked (z : ℕ → Bool) (places rest : ℕ) : Type 0 where
  pub fits : rest < 2 ^ 64
  pub is : every z (members places) ≡ every z (members rest)

module _ (z : ℕ → Bool) (places : ℕ) where
  pub walked_none : places < 2 ^ 64 → Walked z places places
  walked_none h = record { fits = h; is = refl }

  module _ (rest : ℕ) (inv : Walked z places rest) where
    module _ (some : rest ≡ 0 → ⊥) (low : ℕ) (el : low ≡ get_or (members rest) 0 64) where
      pub walked_fails : false ≡ z low → false ≡ every z (members places)
      unfolding every
      walked_fails f =
          sym (inv.is ∙ ap (every z) (walk_step rest low (bit_and rest (rest - 1)) inv.fits some el (rest_is rest inv.fits some))
          ∙ ap (λ (t : Bool). t && every z (members (bit_and rest (rest - 1)))) (sym f))

      pub walked_more : true ≡ z low → (r : ℕ) → members r ≡ drop 1 (members rest) → r < 2 ^ 64 → Walked z places r
      unfolding every
      walked_more t r e h =
          record {
            fits = h;
            is = inv.is ∙ ap (every z) (walk_step rest low r inv.fits some el e) ∙ ap (λ (s : Bool). s && every z (members r)) (sym t);
          }

    pub walked_done : rest ≡ 0 → true ≡ every z (members places)
    unfolding every
    walked_done e = sym (inv.is ∙ ap (λ (w : ℕ). every z (members w)) e ∙ ap (every z) members-none)

-- ---- the word of a Dense tile's absent places, 0 for another tile

abbrev pub absent_word : ℕ → ℕ
absent_word mask = word_of (λ i. has (2 ^ 64 - 1) i && not (has mask i))

pub absent_tested : (z : ℕ → Bool) (mask : ℕ) → every z (below (λ i. not (has mask i)) 64) ≡ every z (members (absent_word mask))
unfolding members
absent_tested z mask =
    ap (every z)
    (below_cong (λ i. not (has mask i)) (has (absent_word mask)) 64
    (λ i l. sym (has_word (λ i. has (2 ^ 64 - 1) i && not (has mask i)) i l ∙ ap (λ (t : Bool). t && not (has mask i)) (has-ones 64 i l))))

-- ---- h: the place is present; s: its value is neither NaN nor zero; z: its value is +0.0

module _ (h s z : ℕ → Bool) where
  abbrev keeps : ℕ → Bool
  keeps i = cond (h i) (s i) (z i)

  pub of_absent : every keeps (below (λ i. true) 64) ≡ true → every z (below (λ i. not (h i)) 64) ≡ true
  of_absent e = every-below z (λ i. not (h i)) 64 (λ i l a. go i (h i) a (every-below-at keeps (λ i. true) 64 i e l refl))
    where
      go : (i : ℕ) (t : Bool) → not t ≡ true → cond t (s i) (z i) ≡ true → z i ≡ true
      go i true a k = not-both true refl (sym a)
      go i false a k = k

  module _ (apart : (i : ℕ) → z i ≡ true → s i ≡ false) (absent : true ≡ every z (below (λ i. not (h i)) 64)) where
    at_absent : (i : ℕ) → i < 64 → h i ≡ false → z i ≡ true
    at_absent i l e = every-below-at z (λ i. not (h i)) 64 i (sym absent) l (ap not e)

    -- none is counted at an absent place
    none_absent : count (λ i. s i && not (h i)) 64 ≡ 0
    unfolding below
    none_absent = ap length (from-none (λ i. s i && not (h i)) 0 64 (λ i a l. go i (omega arith) (h i) refl))
      where
        go : (i : ℕ) → i < 64 → (t : Bool) → h i ≡ t → (s i && not t) ≡ false
        go i l true e = and-false (s i)
        go i l false e = ap (λ (t : Bool). t && true) (apart i (at_absent i l e))

    pub counts_say : count s 64 ≡ count h 64 → every keeps (below (λ i. true) 64) ≡ true
    unfolding below
    counts_say e =
        every-below keeps (λ i. true) 64 (λ i l t. go i l (h i) refl (s i) refl (empty-at (λ i. h i && not (s i)) 0 64 i lacking zero-le (omega arith)))
      where
        same : count (λ i. s i && h i) 64 ≡ count (λ i. h i && s i) 64
        same = ap length (below_cong (λ i. s i && h i) (λ i. h i && s i) 64 (λ i l. and_comm (s i) (h i)))

        lacking : count (λ i. h i && not (s i)) 64 ≡ 0
        lacking = omega (arith, e, none_absent, same, length-below-parts s h 64, length-below-parts h s 64)

        go : (i : ℕ) → i < 64 → (t : Bool) → h i ≡ t → (u : Bool) → s i ≡ u → (t && not u) ≡ false → cond t u (z i) ≡ true
        go i l true e true f k = refl
        go i l true e false f k = sym k
        go i l false e u f k = at_absent i l e

    pub says_counts : every keeps (below (λ i. true) 64) ≡ true → count s 64 ≡ count h 64
    says_counts e = ap length (below_cong s h 64 (λ i l. go i l (h i) refl (every-below-at keeps (λ i. true) 64 i e l refl)))
      where
        go : (i : ℕ) → i < 64 → (t : Bool) → h i ≡ t → cond t (s i) (z i) ≡ true → s i ≡ t
        go i l true e k = k
        go i l false e k = apart i k

    pub counts_le : count s 64 ≤ count h 64
    counts_le =
        let same : count (λ i. s i && h i) 64 ≡ count (λ i. h i && s i) 64 = ap length (below_cong (λ i. s i && h i) (λ i. h i && s i) 64 (λ i l. and_comm (s i) (h i))) in
        omega (arith, none_absent, same, length-below-parts s h 64, length-below-parts h s 64)
