-- Laws of words as numbers of a test, and of tests over `below`. Assumes nothing.
use mathlib.Core.Bool.{Bool, true, false, not, cond, ◌&&◌, true≢false}
use mathlib.Core.List.{List, [], ◌∷◌, ◌++◌, map}
use mathlib.Core.Path.{◌≡◌, refl, sym, ap, ap₂, ◌∙◌}
use Prim.Native.Nat.{ℕ, zero, suc, ◌+◌, ◌*◌, ◌/◌, ◌%◌, ◌^◌, ◌≤◌, ◌<◌}
use native.Mathlib.Nat.{le_refl, pow-suc}
use native.Mathlib.Decide.{dec_lt}
use native.Mathlib.Omega.{arith}
use lib.Dec.{leb, eqb, ltb, lit<, leb-suc-suc}
use lib.ListN.{length}
use lib.Pow.{pow_pos}
use mir.Val.{bool_byte}
use borrow.Author.Tests.{lt-ltb, le-ltb, eq-eqb, ne_eqb, ltb-true, le-leb, leb-true}
use Rattle.std.specs.Int.{div_ceil}
use Rattle.word.specs.Bits.{has, from, below, within, number, members, mask_of, ceil64, words_of}
use Rattle.lent.specs.Lists.{cons_if, first, every, some, climbs}
use Rattle.word.proofs.BelowLaws.{byte_le, below_cong, below-zero, below_snoc, below-at-rank, below_trim, rank_lt, length-below-suc, length_block}
use Rattle.word.proofs.HasLaws.{has-zero, has-suc, has-past, has_ext}
use Rattle.hybit_core.proofs.BoolLaws.{and_left, and_right, and_both, same_test}
use Rattle.lent.proofs.ListLaws.{every_append, every-get_or, some-get_or}

byte_odd : (t : Bool) (n : ℕ) → eqb ((bool_byte t + 2 * n) % 2) 1 ≡ t
byte_odd true n = eq-eqb ((1 + 2 * n) % 2) 1 (omega arith)
byte_odd false n = ne_eqb ((0 + 2 * n) % 2) 1 (λ e. absurd (omega arith))

-- bit i of the number of a test
pub has-number : (f : ℕ → Bool) (k i : ℕ) → has (number f k) i ≡ (ltb i k && f i)
unfolding number
has-number f zero i = has-past 0 0 i (lit< tt) (omega arith) ∙ sym (ap (λ (t : Bool). t && f i) (le-ltb i 0 (omega arith)))
has-number f (suc k) zero = has-zero (bool_byte (f 0) + 2 * number (λ i. f (suc i)) k) ∙ byte_odd (f 0) (number (λ i. f (suc i)) k) ∙ sym (ap (λ (t : Bool). t && f 0) (lt-ltb 0 (suc k) (omega arith)))
has-number f (suc k) (suc i) =
    let n : ℕ = number (λ i. f (suc i)) k in
    let h : (bool_byte (f 0) + 2 * n) / 2 ≡ n = omega (arith, byte_le (f 0)) in
    has-suc (bool_byte (f 0) + 2 * n) i ∙ ap (λ (m : ℕ). has m i) h ∙ has-number (λ i. f (suc i)) k i ∙ ap (λ (t : Bool). t && f (suc i)) (sym (leb-suc-suc (suc i) k))

pub number_lt : (f : ℕ → Bool) (k : ℕ) → number f k < 2 ^ k
unfolding number
number_lt f zero = lit< tt
number_lt f (suc k) = omega (arith, pow-suc 2 k, number_lt (λ i. f (suc i)) k, byte_le (f 0))

-- the test inside the frame is all that counts
pub within_cong : (n : ℕ) (p q : ℕ → Bool) → ((c : ℕ) → c < n → p c ≡ q c) → within n p ≡ within n q
within_cong n p q h = λ k c. at c (ltb c n) refl k
  where
    at : (c : ℕ) (t : Bool) → ltb c n ≡ t → (t && p c) ≡ (t && q c)
    at c true e = h c (ltb-true c n e)
    at c false e = refl

pub words_of_cong : (n : ℕ) (p q : ℕ → Bool) → ((c : ℕ) → c < n → p c ≡ q c) → words_of p n ≡ words_of q n
unfolding words_of mask_of
words_of_cong n p q h = ap (λ (f : ℕ → Bool). below (λ w. not (eqb (number (λ i. f (64 * w + i)) 64) 0)) (ceil64 n)) (within_cong n p q h)

pub count_cong : (n : ℕ) (p q : ℕ → Bool) → ((c : ℕ) → c < n → p c ≡ q c) → length (below p n) ≡ length (below q n)
count_cong n p q h = ap length (below_cong p q n h)

-- inside the frame the frame's test says nothing
pub within_in : (n : ℕ) (p : ℕ → Bool) (c : ℕ) → c < n → within n p c ≡ p c
within_in n p c h = ap (λ (t : Bool). t && p c) (lt-ltb c n h)

-- bit i of word w
pub has-mask_of : (p : ℕ → Bool) (n w i : ℕ) → i < 64 → has (mask_of p n w) i ≡ within n p (64 * w + i)
unfolding mask_of
has-mask_of p n w i h = has-number (λ i. within n p (64 * w + i)) 64 i ∙ ap (λ (t : Bool). t && within n p (64 * w + i)) (lt-ltb i 64 h)

pub has-mask-at : (p : ℕ → Bool) (n c : ℕ) → has (mask_of p n (c / 64)) (c % 64) ≡ within n p c
has-mask-at p n c =
    let e : 64 * (c / 64) + c % 64 ≡ c = omega arith in
    has-mask_of p n (c / 64) (c % 64) (omega arith) ∙ ap (within n p) e

pub has-none : (i : ℕ) → has 0 i ≡ false
has-none i = has-past 0 0 i (lit< tt) (omega arith)

-- a word with a bit is listed
pub has_listed : (p : ℕ → Bool) (n c : ℕ) → within n p c ≡ true → (ltb (c / 64) (ceil64 n) && not (eqb (mask_of p n (c / 64)) 0)) ≡ true
has_listed p n c e =
    let h : c < n = ltb-true c n (and_left (ltb c n) (p c) e) in
    and_both (ltb (c / 64) (ceil64 n)) (not (eqb (mask_of p n (c / 64)) 0)) (lt-ltb (c / 64) (ceil64 n) (omega arith)) (ap not (ne_eqb (mask_of p n (c / 64)) 0 some_bit))
  where
    some_bit : mask_of p n (c / 64) ≡ 0 → ⊥
    some_bit z = true≢false (sym e ∙ sym (has-mask-at p n c) ∙ ap (λ (m : ℕ). has m (c % 64)) z ∙ has-none (c % 64))

-- ---- the first of the listed numbers that passes

module _ {A : Type 0} where
  first-append : (d : A) (q : A → Bool) (l m : List A) → first d q (l ++ m) ≡ first (first d q m) q l
  unfolding first
  first-append d q [] m = refl
  first-append d q (a ∷ l) m = ap (cond (q a) a) (first-append d q l m)

  map-append : (f : ℕ → A) (l m : List ℕ) → map f (l ++ m) ≡ map f l ++ map f m
  map-append f [] m = refl
  map-append f (a ∷ l) m = ap (λ (t : List A). f a ∷ t) (map-append f l m)

  module _ (q : A → Bool) (f : ℕ → A) (listed : ℕ → Bool) (w : ℕ) where
    pub first_below : (d : A) (n : ℕ) → ((k : ℕ) → k < n → q (f k) ≡ eqb k w) → first d q (map f (below listed n)) ≡ cond (ltb w n && listed w) (f w) d
    unfolding first below from
    first_below d zero h = sym (ap (λ (t : Bool). cond (t && listed w) (f w) d) (le-ltb w 0 (omega arith)))
    first_below d (suc n) h =
        ap (λ (l : List ℕ). first d q (map f l)) (below_snoc listed n)
        ∙ ap (first d q) (map-append f (below listed n) (cons_if (listed n) n []))
        ∙ first-append d q (map f (below listed n)) (map f (cons_if (listed n) n []))
        ∙ first_below (first d q (map f (cons_if (listed n) n []))) n (λ k l. h k (omega arith))
        ∙ go (dec_lt w n) (dec_lt n w)
      where
        tail : Bool → A
        tail t = first d q (map f (cons_if t n []))

        miss : (t : Bool) → (n ≡ w → ⊥) → tail t ≡ d
        miss true g = ap (λ (b : Bool). cond b (f n) d) (h n (omega arith) ∙ ne_eqb n w g)
        miss false g = refl

        hit : (t : Bool) → n ≡ w → tail t ≡ cond t (f n) d
        hit true g = ap (λ (b : Bool). cond b (f n) d) (h n (omega arith) ∙ eq-eqb n w g)
        hit false g = refl

        go : Dec (w < n) → Dec (n < w) → cond (ltb w n && listed w) (f w) (tail (listed n)) ≡ cond (ltb w (suc n) && listed w) (f w) d
        go (yes l) g =
            ap₂ (λ (t : Bool) (a : A). cond (t && listed w) (f w) a) (lt-ltb w n l ∙ sym (lt-ltb w (suc n) (omega arith))) (miss (listed n) (λ e. omega arith))
        go (no l) (yes g) =
            ap₂ (λ (t : Bool) (a : A). cond (t && listed w) (f w) a) (le-ltb w n (omega arith) ∙ sym (le-ltb w (suc n) (omega arith))) (miss (listed n) (λ e. omega arith))
        go (no l) (no g) =
            let e : n ≡ w = omega arith in
            ap (λ (t : Bool). cond (t && listed w) (f w) (tail (listed n))) (le-ltb w n (omega arith))
            ∙ hit (listed n) e ∙ ap (λ (k : ℕ). cond (listed k) (f k) d) e
            ∙ sym (ap (λ (t : Bool). cond (t && listed w) (f w) d) (lt-ltb w (suc n) (omega arith)))

-- ---- a test of every listed number

pub every-below : (t q : ℕ → Bool) (n : ℕ) → ((c : ℕ) → c < n → q c ≡ true → t c ≡ true) → every t (below q n) ≡ true
unfolding every
every-below t q zero h = ap (every t) (below-zero q)
every-below t q (suc n) h =
    ap (every t) (below_snoc q n) ∙ every_append t (below q n) (cons_if (q n) n []) (every-below t q n (λ c l. h c (omega arith))) (last (q n) (h n (omega arith)))
  where
    last : (b : Bool) → (b ≡ true → t n ≡ true) → every t (cons_if b n []) ≡ true
    last true f = and_both (t n) true (f refl) refl
    last false f = refl

pub every-below-at : (t q : ℕ → Bool) (n c : ℕ) → every t (below q n) ≡ true → c < n → q c ≡ true → t c ≡ true
unfolding every
every-below-at t q n c e h l = ap t (sym (below-at-rank q n c h l)) ∙ every-get_or t (below q n) (length (below q c)) 0 e (rank_lt q c n h l)

-- equal lists, equal tests
pub below_fixes : (p q : ℕ → Bool) (n : ℕ) → below p n ≡ below q n → (i : ℕ) → i < n → p i ≡ q i
below_fixes p q n e i h = same_test (p i) (q i) (one p q e) (one q p (sym e))
  where
    one : (s t : ℕ → Bool) → below s n ≡ below t n → s i ≡ true → t i ≡ true
    one s t e x = every-below-at t s n i (ap (every t) e ∙ every-below t t n (λ c l y. y)) h x

-- a word is fixed by its members
pub members_fix : (a b : ℕ) → a < 2 ^ 64 → b < 2 ^ 64 → members a ≡ members b → a ≡ b
unfolding members
members_fix a b ha hb e = has_ext 64 a b ha hb (λ i. go i (dec_lt i 64))
  where
    go : (i : ℕ) → Dec (i < 64) → has a i ≡ has b i
    go i (yes l) = below_fixes (has a) (has b) 64 e i l
    go i (no l) = has-past 64 a i ha (omega arith) ∙ sym (has-past 64 b i hb (omega arith))

-- ascending lists climb

climbs_down : (b : ℕ) (l : List ℕ) → climbs (suc b) l ≡ true → climbs b l ≡ true
unfolding climbs
climbs_down b [] e = refl
climbs_down b (a ∷ l) e =
    and_both (leb b a) (climbs (suc a) l) (le-leb b a (omega (arith, leb-true (suc b) a (and_left (leb (suc b) a) (climbs (suc a) l) e)))) (and_right (leb (suc b) a) (climbs (suc a) l) e)

climbs-from : (p : ℕ → Bool) (b d : ℕ) → climbs b (from p b d) ≡ true
unfolding climbs from
climbs-from p b zero = refl
climbs-from p b (suc d) = go (p b) (climbs-from p (suc b) d)
  where
    go : (t : Bool) → climbs (suc b) (from p (suc b) d) ≡ true → climbs b (cons_if t b (from p (suc b) d)) ≡ true
    go true h = and_both (leb b b) (climbs (suc b) (from p (suc b) d)) (le-leb b b (le_refl b)) h
    go false h = climbs_down b (from p (suc b) d) h

pub climbs-below : (p : ℕ → Bool) (n : ℕ) → climbs 0 (below p n) ≡ true
unfolding below
climbs-below p n = climbs-from p 0 n

-- ---- no more words than columns

word_count : (p : ℕ → Bool) (n w : ℕ) → bool_byte (not (eqb (mask_of p n w) 0)) ≤ length (below (λ i. within n p (64 * w + i)) 64)
unfolding mask_of
word_count p n w = go (λ i. within n p (64 * w + i)) 64
  where
    zeros : (f : ℕ → Bool) (k : ℕ) → length (below f k) ≡ 0 → number f k ≡ 0
    zeros f k e = has_ext k (number f k) 0 (number_lt f k) (pow_pos k) (λ i. has-number f k i ∙ none i (ltb i k && f i) refl ∙ sym (has-none i))
      where
        none : (i : ℕ) (b : Bool) → (ltb i k && f i) ≡ b → b ≡ false
        none i true x = absurd (omega (arith, rank_lt f i k (ltb-true i k (and_left (ltb i k) (f i) x)) (and_right (ltb i k) (f i) x)))
        none i false x = refl

    go : (f : ℕ → Bool) (k : ℕ) → bool_byte (not (eqb (number f k) 0)) ≤ length (below f k)
    go f k = pick (dec_lt 0 (length (below f k)))
      where
        pick : Dec (0 < length (below f k)) → bool_byte (not (eqb (number f k) 0)) ≤ length (below f k)
        pick (yes h) = omega (arith, byte_le (not (eqb (number f k) 0)))
        pick (no h) = omega (arith, ap (λ (t : Bool). bool_byte (not t)) (eq-eqb (number f k) 0 (zeros f k (omega arith))))

words_blocks : (p : ℕ → Bool) (n k : ℕ) → length (below (λ w. not (eqb (mask_of p n w) 0)) k) ≤ length (below (within n p) (64 * k))
words_blocks p n zero = omega (arith, ap length (below-zero (λ w. not (eqb (mask_of p n w) 0))))
words_blocks p n (suc k) =
    let e : 64 * suc k ≡ 64 * k + 64 = omega arith in
    omega (
      arith,
      ap (λ (m : ℕ). length (below (within n p) m)) e,
      length-below-suc (λ w. not (eqb (mask_of p n w) 0)) k,
      words_blocks p n k,
      word_count p n k,
      length_block (within n p) (64 * k) 64,
    )

pub words-le : (p : ℕ → Bool) (n : ℕ) → length (words_of p n) ≤ length (below p n)
unfolding words_of
words-le p n =
    let t : below (within n p) (64 * ceil64 n) ≡ below (within n p) n = below_trim (within n p) n (64 * ceil64 n) (omega arith) (λ i l u. ap (λ (b : Bool). b && p i) (le-ltb i n l)) in
    omega (arith, words_blocks p n (ceil64 n), ap length t, count_cong n (within n p) p (within_in n p))

-- some listed number passes
pub some_below : (t q : ℕ → Bool) (n c : ℕ) → c < n → q c ≡ true → t c ≡ true → some t (below q n) ≡ true
some_below t q n c h l e = some-get_or t (below q n) (length (below q c)) 0 (rank_lt q c n h l) (ap t (below-at-rank q n c h l) ∙ e)

-- the words that n bits take, as the library rounds up
pub ceil64_is : (n : ℕ) → div_ceil n 64 ≡ ceil64 n
ceil64_is n = omega arith
