-- How many elements of a list pass a test, counted one after the other. Assumes nothing.
use mathlib.Core.Bool.{Bool, true, false, ◌&&◌, false≢true}
use mathlib.Core.List.{List, [], ◌∷◌}
use mathlib.Core.Path.{◌≡◌, refl, sym, ap, ◌∙◌}
use mir.Val.{bool_byte}
use Prim.Native.Nat.{ℕ, zero, suc, ◌+◌, ◌-◌, ◌*◌, ◌≤◌, ◌<◌}
use native.Mathlib.Nat.{le_refl}
use native.Mathlib.Numerals.{add-one}
use native.Mathlib.Omega.{arith}
use lib.ListN.{length, get_or, take, drop, length-append}
use lib.Seq.{take-suc, take_all}
use Rattle.hybit_core.proofs.BoolLaws.{and_right}
use Rattle.lent.specs.Lists.{cons_if, only, every}
use Rattle.lent.proofs.ListLaws.{only-append, length-only, drop_apart, drop-rest}
use Rattle.word.specs.Bits.{count}
use Rattle.word.proofs.BelowLaws.{byte_le, below-zero, length-below-suc}

module _ {A : Type 0} (p : A → Bool) where
  pub only_one : (a : A) → length (only p (a ∷ [])) ≡ bool_byte (p a)
  unfolding only
  only_one a = go (p a)
    where
      go : (t : Bool) → length (cons_if t a []) ≡ bool_byte t
      go true = refl
      go false = refl

  pub only_next : (l : List A) (i : ℕ) (d : A) → i < length l → length (only p (take (suc i) l)) ≡ length (only p (take i l)) + bool_byte (p (get_or l i d))
  only_next l i d h =
      ap (λ (s : List A). length (only p s)) (take-suc l i d h)
      ∙ ap length (only-append p (take i l) (get_or l i d ∷ []))
      ∙ length-append (only p (take i l)) (only p (get_or l i d ∷ []))
      ∙ ap (λ (j : ℕ). length (only p (take i l)) + j) (only_one (get_or l i d))

  -- all pass exactly if as many pass as there are
  pub all_pass : (l : List A) → every p l ≡ true → length (only p l) ≡ length l
  unfolding only every
  all_pass [] e = refl
  all_pass (a ∷ l) e = go (p a) e (all_pass l (and_right (p a) (every p l) e))
    where
      go : (t : Bool) → (t && every p l) ≡ true → length (only p l) ≡ length l → length (cons_if t a (only p l)) ≡ suc (length l)
      go true f h = ap suc h
      go false f h = absurd (false≢true f)

  pub pass_all : (l : List A) → length (only p l) ≡ length l → every p l ≡ true
  unfolding only every
  pass_all [] e = refl
  pass_all (a ∷ l) e = go (p a) e (pass_all l)
    where
      go : (t : Bool) → length (cons_if t a (only p l)) ≡ suc (length l) → (length (only p l) ≡ length l → every p l ≡ true) → (t && every p l) ≡ true
      go true f h = h (omega arith)
      go false f h = absurd (omega (arith, length-only p l))

  -- by place
  pub count-only : (l : List A) (d : A) (i : ℕ) → i ≤ length l → count (λ k. p (get_or l k d)) i ≡ length (only p (take i l))
  unfolding only
  count-only l d zero h = ap length (below-zero (λ k. p (get_or l k d)))
  count-only l d (suc i) h =
      length-below-suc (λ k. p (get_or l k d)) i ∙ ap (λ (n : ℕ). n + bool_byte (p (get_or l i d))) (count-only l d i (omega arith)) ∙ sym (only_next l i d (omega arith))

-- ---- of the first i elements, n pass

pub record Passing {A : Type 0} (p : A → Bool) (l : List A) (i n : ℕ) : Type 0 where
  pub few : n ≤ i
  pub is : n ≡ length (only p (take i l))

module _ {A : Type 0} (p : A → Bool) (l : List A) where
  pub passing_none : Passing p l 0 0
  unfolding only
  passing_none = record { few = le_refl 0; is = refl }

  module _ (i n : ℕ) (inv : Passing p l i n) where
    pub passing_more : (d : A) (k : ℕ) → i < length l → k ≡ bool_byte (p (get_or l i d)) → Passing p l (i + 1) (n + k)
    passing_more d k h e =
        let next : length (only p (take (i + 1) l)) ≡ length (only p (take i l)) + bool_byte (p (get_or l i d)) =
        ap (λ (j : ℕ). length (only p (take j l))) (add-one i) ∙ only_next p l i d h in
        record { few = omega (arith, inv.few, byte_le (p (get_or l i d))); is = omega (arith, inv.is) }

    pub passing_done : length l ≤ i → n ≡ length (only p l)
    passing_done h = inv.is ∙ ap (λ (s : List A). length (only p s)) (take_all i l h)

-- ---- four lists of one length side by side

pub record FourPassing {A : Type 0} (p : A → Bool) (l m n o : List A) (i a b c d : ℕ) : Type 0 where
  pub second_long : length m ≡ length l
  pub third_long : length n ≡ length l
  pub fourth_long : length o ≡ length l
  pub inside : i ≤ length l
  pub first : Passing p l i a
  pub second : Passing p m i b
  pub third : Passing p n i c
  pub fourth : Passing p o i d

-- ---- a list in parts: what passes from place a on; four quarters, and the few elements after them

module _ {A : Type 0} (l : List A) (p : A → Bool) where
  pub part_apart : (a b : ℕ) → a ≤ b → length (only p (drop a l)) ≡ length (only p (take (b - a) (drop a l))) + length (only p (drop b l))
  part_apart a b h =
      ap (λ (t : List A). length (only p t)) (drop_apart a b l h)
      ∙ ap length (only-append p (take (b - a) (drop a l)) (drop b l))
      ∙ length-append (only p (take (b - a) (drop a l))) (only p (drop b l))

  pub quarters : (q : ℕ) → 4 * q ≤ length l
      → length (only p l) ≡ length (only p (take (q - 0) (drop 0 l))) + length (only p (take (2 * q - q) (drop q l))) + length (only p (take (3 * q - 2 * q) (drop (2 * q) l))) + length (only p (take (4 * q - 3 * q) (drop (3 * q) l))) + length (only p (take (length l - 4 * q) (drop (4 * q) l)))
  quarters q h =
      omega (
        arith,
        part_apart 0 q (omega arith),
        part_apart q (2 * q) (omega arith),
        part_apart (2 * q) (3 * q) (omega arith),
        part_apart (3 * q) (4 * q) (omega arith),
        ap (λ (t : List A). length (only p t)) (drop-rest (4 * q) l),
      )
