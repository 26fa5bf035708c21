-- Columns by words: what a loop over a row's words, and over the bits of a mask, adds up to. Assumes nothing.
use mathlib.Core.Bool.{Bool, true, false, not, ◌&&◌, true≢false}
use mathlib.Core.List.{List, [], ◌++◌, map, append-nil}
use mathlib.Core.Path.{◌≡◌, refl, sym, ap, ap₂, ◌∙◌}
use Prim.Native.Nat.{ℕ, zero, suc, ◌+◌, ◌*◌, ◌/◌, ◌^◌, ◌≤◌, ◌<◌, zero-le}
use native.Mathlib.Decide.{dec_lt}
use native.Mathlib.Omega.{arith}
use lib.Bits.{bit_and, and_le_l, and_zero_l}
use lib.Count.{count_trailing_zeros}
use lib.Dec.{eqb, ltb}
use lib.ListN.{length}
use borrow.Author.Tests.{le-ltb, eq-eqb, eqb-true, eqb-false, ltb-true, not-true}
use Rattle.word.specs.Bits.{has, from, below, both, within, mask_of, ceil64, words_of}
use Rattle.lent.specs.Lists.{joined, cons_if, only, spread}
use Rattle.lent.proofs.ListLaws.{joined_cong, spread-append, only-append}
use Rattle.word.proofs.BelowLaws.{below_cong, below-zero, below_snoc, below-between, below_trim, between_split, between_block, from-none}
use Rattle.word.proofs.HasLaws.{has_ext, has-past, has-and}
use Rattle.word.proofs.BitLaws.{number_lt, has-mask_of, has-none, within_in}
use Rattle.word.proofs.LowestLaws.{lowest_lt, lowest_has}
use Rattle.hybit_core.proofs.BoolLaws.{and_left, and_right}

-- words that add nothing may be left out
pub joined-spread : {B : Type 0} (f : ℕ → List B) (q : ℕ → Bool) (n : ℕ) → ((w : ℕ) → q w ≡ false → f w ≡ []) → joined f n ≡ spread f (below q n)
unfolding joined spread
joined-spread f q zero h = sym (ap (spread f) (below-zero q))
joined-spread f q (suc n) h =
    ap₂ (λ (s t : List _). s ++ t) (joined-spread f q n h) (last (q n) refl)
    ∙ sym (ap (spread f) (below_snoc q n) ∙ spread-append f (below q n) (cons_if (q n) n []))
  where
    last : (t : Bool) → q n ≡ t → f n ≡ spread f (cons_if t n [])
    last true e = sym (append-nil (f n))
    last false e = h n e

-- both tests: those of the first that pass the second
pub below-only : (p q : ℕ → Bool) (n : ℕ) → below (both p q) n ≡ only q (below p n)
unfolding only
below-only p q zero = below-zero (both p q) ∙ sym (ap (only q) (below-zero p))
below-only p q (suc n) =
    below_snoc (both p q) n ∙ ap₂ (λ (s t : List ℕ). s ++ t) (below-only p q n) (last (p n))
    ∙ sym (ap (only q) (below_snoc p n) ∙ only-append q (below p n) (cons_if (p n) n []))
  where
    last : (s : Bool) → cons_if (s && q n) n [] ≡ only q (cons_if s n [])
    last true = refl
    last false = refl

-- ---- masks

-- the mask of both tests is the two masks' `&`
pub mask-both : (p q : ℕ → Bool) (n w : ℕ) → mask_of (both p q) n w ≡ bit_and (mask_of p n w) (mask_of q n w)
unfolding mask_of
mask-both p q n w = has_ext 64 (mask_of (both p q) n w) (bit_and (mask_of p n w) (mask_of q n w)) (number_lt (λ i. within n (both p q) (64 * w + i)) 64) and-small (λ i. bit i (dec_lt i 64))
  where
    small : mask_of p n w < 2 ^ 64
    small = number_lt (λ i. within n p (64 * w + i)) 64

    and-small : bit_and (mask_of p n w) (mask_of q n w) < 2 ^ 64
    and-small = omega (arith, small, and_le_l (mask_of p n w) (mask_of q n w))

    join : (a b c : Bool) → (a && (b && c)) ≡ ((a && b) && (a && c))
    join true b c = refl
    join false b c = refl

    bit : (i : ℕ) → Dec (i < 64) → has (mask_of (both p q) n w) i ≡ has (bit_and (mask_of p n w) (mask_of q n w)) i
    bit i (yes l) =
        has-mask_of (both p q) n w i l ∙ join (ltb (64 * w + i) n) (p (64 * w + i)) (q (64 * w + i))
        ∙ sym (has-and (mask_of p n w) (mask_of q n w) i ∙ ap₂ (λ (s t : Bool). s && t) (has-mask_of p n w i l) (has-mask_of q n w i l))
    bit i (no l) = has-past 64 (mask_of (both p q) n w) i (number_lt (λ i. within n (both p q) (64 * w + i)) 64) (omega arith) ∙ sym (has-past 64 (bit_and (mask_of p n w) (mask_of q n w)) i and-small (omega arith))

-- nothing listed, nothing there
pub empty-at : (p : ℕ → Bool) (b d i : ℕ) → length (from p b d) ≡ 0 → b ≤ i → i < b + d → p i ≡ false
unfolding from
empty-at p b zero i e l u = absurd (omega arith)
empty-at p b (suc d) i e l u = go (p b) refl e (dec_lt b i) (empty-at p (suc b) d i)
  where
    go : (t : Bool) → p b ≡ t → length (cons_if t b (from p (suc b) d)) ≡ 0 → Dec (b < i) → (length (from p (suc b) d) ≡ 0 → suc b ≤ i → i < suc b + d → p i ≡ false) → p i ≡ false
    go true x e k f = absurd (omega arith)
    go false x e (yes h) f = f e h (omega arith)
    go false x e (no h) f = let q : i ≡ b = omega arith in ap p q ∙ x

-- ---- columns by words

-- the columns of word w whose bits a mask has
abbrev pub columns_in : ℕ → ℕ → List ℕ
columns_in w m = map (λ i. 64 * w + i) (below (has m) 64)

blocks : (p : ℕ → Bool) (n k : ℕ) → below (within n p) (64 * k) ≡ joined (λ w. columns_in w (mask_of p n w)) k
unfolding joined
blocks p n zero = below-zero (within n p)
blocks p n (suc k) =
    let e : 64 * suc k ≡ 64 * k + 64 = omega arith in
    ap (below (within n p)) e ∙ below-between (within n p) (64 * k + 64) ∙ between_split (within n p) 0 (64 * k) (64 * k + 64) zero-le (omega arith)
    ∙ ap₂ (λ (s t : List ℕ). s ++ t) (sym (below-between (within n p) (64 * k)) ∙ blocks p n k)
    (between_block (within n p) (has (mask_of p n k)) (64 * k) 64 (λ i l. sym (has-mask_of p n k i l)))

pub below_blocks : (p : ℕ → Bool) (n : ℕ) → below p n ≡ joined (λ w. columns_in w (mask_of p n w)) (ceil64 n)
below_blocks p n =
    below_cong p (within n p) n (λ c l. sym (within_in n p c l))
    ∙ sym (below_trim (within n p) n (64 * ceil64 n) (omega arith) (λ i l u. ap (λ (b : Bool). b && p i) (le-ltb i n l)))
    ∙ blocks p n (ceil64 n)

no_columns : (w : ℕ) → columns_in w 0 ≡ []
unfolding below
no_columns w = ap (map (λ i. 64 * w + i)) (from-none (has 0) 0 64 (λ i l u. has-none i))

pub mask-none : (p : ℕ → Bool) (n w : ℕ) → not (eqb (mask_of p n w) 0) ≡ false → mask_of p n w ≡ 0
mask-none p n w e = eqb-true (mask_of p n w) 0 (off (eqb (mask_of p n w) 0) e)
  where
    off : (t : Bool) → not t ≡ false → t ≡ true
    off true e = refl
    off false e = absurd (true≢false e)

-- the present columns: over the listed words, the bits of each mask
pub by_words : (p : ℕ → Bool) (n : ℕ) → below p n ≡ spread (λ w. columns_in w (mask_of p n w)) (words_of p n)
unfolding words_of
by_words p n = below_blocks p n ∙ joined-spread (λ w. columns_in w (mask_of p n w)) (λ w. not (eqb (mask_of p n w) 0)) (ceil64 n) (λ w e. ap (columns_in w) (mask-none p n w e) ∙ no_columns w)

-- the present and active columns: over the listed words, the bits of `mask & active`
pub active_by_words : (p a : ℕ → Bool) (n : ℕ) → below (both p a) n ≡ spread (λ w. columns_in w (bit_and (mask_of p n w) (mask_of a n w))) (words_of p n)
unfolding words_of
active_by_words p a n =
    below_blocks (both p a) n
    ∙ joined_cong (λ w. columns_in w (mask_of (both p a) n w)) (λ w. columns_in w (bit_and (mask_of p n w) (mask_of a n w))) (ceil64 n) (λ w l. ap (columns_in w) (mask-both p a n w))
    ∙ joined-spread (λ w. columns_in w (bit_and (mask_of p n w) (mask_of a n w))) (λ w. not (eqb (mask_of p n w) 0)) (ceil64 n)
    (λ w e. ap (λ (m : ℕ). columns_in w (bit_and m (mask_of a n w))) (mask-none p n w e) ∙ ap (columns_in w) (and_zero_l (mask_of a n w)) ∙ no_columns w)

-- the active words: the listed words with `mask & active` not 0
pub active-words : (p a : ℕ → Bool) (n : ℕ) → words_of (both p a) n ≡ only (λ w. not (eqb (bit_and (mask_of p n w) (mask_of a n w)) 0)) (words_of p n)
unfolding words_of
active-words p a n =
    let s : ℕ → Bool = λ w. not (eqb (mask_of p n w) 0) in
    let t : ℕ → Bool = λ w. not (eqb (bit_and (mask_of p n w) (mask_of a n w)) 0) in
    below_cong (λ w. not (eqb (mask_of (both p a) n w) 0)) (both s t) (ceil64 n) (λ w l. ap (λ (m : ℕ). not (eqb m 0)) (mask-both p a n w) ∙ go w (s w) refl)
    ∙ below-only s t (ceil64 n)
  where
    go : (w : ℕ) (b : Bool) → not (eqb (mask_of p n w) 0) ≡ b → not (eqb (bit_and (mask_of p n w) (mask_of a n w)) 0) ≡ (b && not (eqb (bit_and (mask_of p n w) (mask_of a n w)) 0))
    go w true e = refl
    go w false e = ap not (eq-eqb (bit_and (mask_of p n w) (mask_of a n w)) 0 (ap (λ (m : ℕ). bit_and m (mask_of a n w)) (mask-none p n w e) ∙ and_zero_l (mask_of a n w)))

-- a word that is not 0 holds a column of the test
pub hit-member : (q : ℕ → Bool) (n w : ℕ) → not (eqb (mask_of q n w) 0) ≡ true → (c : ℕ) × (c < n) × (q c ≡ true) × (c / 64 ≡ w)
unfolding mask_of
hit-member q n w e =
    let m : ℕ = mask_of q n w in
    let small : mask_of q n w < 2 ^ 64 = number_lt (λ i. within n q (64 * w + i)) 64 in
    let z : mask_of q n w ≡ 0 → ⊥ = eqb-false (mask_of q n w) 0 (not-true (eqb (mask_of q n w) 0) e) in
    let some : 0 < mask_of q n w = omega arith in
    let i : ℕ = count_trailing_zeros 64 m in
    let b : count_trailing_zeros 64 (mask_of q n w) < 64 = lowest_lt 64 64 (mask_of q n w) some small in
    let x : within n q (64 * w + i) ≡ true = sym (has-mask_of q n w i b) ∙ lowest_has 64 m some small in
    (64 * w + i, ltb-true (64 * w + i) n (and_left (ltb (64 * w + i) n) (q (64 * w + i)) x), and_right (ltb (64 * w + i) n) (q (64 * w + i)) x, omega arith)
