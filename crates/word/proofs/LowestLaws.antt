-- The lowest set bit, and the word without it: `trailing_zeros(w)` and `w & (w - 1)` take the first member off the list. Assumes nothing.
use mathlib.Core.Bool.{Bool, true}
use mathlib.Core.List.{List, [], ◌∷◌, map}
use mathlib.Core.Path.{◌≡◌, refl, sym, ap, ap₂, ◌∙◌}
use mathlib.Core.Logic.{◌⊎◌, inl, inr}
use Prim.Native.Nat.{ℕ, zero, suc, ◌+◌, ◌-◌, ◌*◌, ◌/◌, ◌%◌, ◌^◌, ◌<◌, min}
use native.Mathlib.Nat.{add-zero, pow-suc, eq-zero-or-pos}
use native.Mathlib.Omega.{arith}
use lib.Dec.{eqb}
use lib.ListN.{length}
use lib.Bits.{bit_and, and_step, and_self, and_le_r}
use lib.Count.{count_trailing_zeros, under}
use Rattle.lent.specs.Lists.{cons_if}
use Rattle.word.specs.Bits.{has, below, members}
use Rattle.word.proofs.BelowLaws.{below-zero, below-cons, below_same}
use Rattle.word.proofs.HasLaws.{has-zero, has-suc}

-- the members by the lowest digit: those of w / 2, one up, after 0 where w is odd
members_step : (w n : ℕ) → below (has w) (suc n) ≡ cons_if (eqb (w % 2) 1) 0 (map suc (below (has (w / 2)) n))
members_step w n =
    below-cons (has w) n
    ∙ ap₂ (λ (t : Bool) (l : List ℕ). cons_if t 0 (map suc l)) (has-zero w) (below_same (λ (i : ℕ). has w (suc i)) (has (w / 2)) n (has-suc w))

odd_step : (w n : ℕ) → w % 2 ≡ 1 → below (has w) (suc n) ≡ 0 ∷ map suc (below (has (w / 2)) n)
odd_step w n e = members_step w n ∙ ap (λ (x : ℕ). cons_if (eqb x 1) 0 (map suc (below (has (w / 2)) n))) e

even_step : (w u n : ℕ) → w ≡ u * 2 → below (has w) (suc n) ≡ map suc (below (has u) n)
even_step w u n e =
    let h : w / 2 ≡ u = omega arith in
    let z : w % 2 ≡ 0 = omega arith in
    members_step w n ∙ ap₂ (λ (x y : ℕ). cons_if (eqb x 1) 0 (map suc (below (has y) n))) z h

clear_odd : (w : ℕ) → w % 2 ≡ 1 → bit_and w (w - 1) ≡ w / 2 * 2
clear_odd w e =
    let h : (w - 1) / 2 ≡ w / 2 = omega arith in
    let z : (w - 1) % 2 ≡ 0 = omega arith in
    and_step w (w - 1) ∙ ap₂ (λ (x y : ℕ). bit_and (w / 2) x * 2 + min (w % 2) y) h z ∙ ap₂ (λ (x y : ℕ). x * 2 + min y 0) (and_self (w / 2)) e ∙ add-zero (w / 2 * 2)

clear_even : (w : ℕ) → 0 < w → w % 2 ≡ 0 → bit_and w (w - 1) ≡ bit_and (w / 2) (w / 2 - 1) * 2
clear_even w p e =
    let h : (w - 1) / 2 ≡ w / 2 - 1 = omega arith in
    let z : (w - 1) % 2 ≡ 1 = omega arith in
    and_step w (w - 1) ∙ ap₂ (λ (x y : ℕ). bit_and (w / 2) x * 2 + min (w % 2) y) h z
    ∙ ap (λ (x : ℕ). bit_and (w / 2) (w / 2 - 1) * 2 + min x 1) e ∙ add-zero (bit_and (w / 2) (w / 2 - 1) * 2)

parity : (w : ℕ) → (w % 2 ≡ 0) ⊎ (w % 2 ≡ 1)
parity w = go (w % 2) (omega arith)
  where
    go : (r : ℕ) → r < 2 → (r ≡ 0) ⊎ (r ≡ 1)
    go zero h = inl refl
    go (suc zero) h = inr refl
    go (suc (suc r)) h = absurd (omega arith)

pub walk : (n w : ℕ) → 0 < w → w < 2 ^ n → below (has w) n ≡ count_trailing_zeros n w ∷ below (has (bit_and w (w - 1))) n
unfolding count_trailing_zeros
walk zero w p h = absurd (omega arith)
walk (suc n) w p h = go (parity w) (walk n (w / 2))
  where
    v : ℕ
    v = bit_and w (w - 1)

    bound : w / 2 < 2 ^ n
    bound = omega (arith, pow-suc 2 n)

    go : (w % 2 ≡ 0) ⊎ (w % 2 ≡ 1)
        → (0 < w / 2 → w / 2 < 2 ^ n → below (has (w / 2)) n ≡ count_trailing_zeros n (w / 2) ∷ below (has (bit_and (w / 2) (w / 2 - 1))) n)
        → below (has w) (suc n) ≡ under (w % 2) (count_trailing_zeros n (w / 2)) ∷ below (has (bit_and w (w - 1))) (suc n)
    go (inl e) ih =
        even_step w (w / 2) n (omega arith)
        ∙ ap (map suc) (ih (omega arith) bound)
        ∙ ap₂ (λ (x : ℕ) (l : List ℕ). under x (count_trailing_zeros n (w / 2)) ∷ l) (sym e)
        (sym (even_step (bit_and w (w - 1)) (bit_and (w / 2) (w / 2 - 1)) n (clear_even w p e)))
    go (inr e) ih =
        odd_step w n e
        ∙ ap₂ (λ (x : ℕ) (l : List ℕ). under x (count_trailing_zeros n (w / 2)) ∷ l) (sym e)
        (sym (even_step (bit_and w (w - 1)) (w / 2) n (clear_odd w e)))

-- nothing set, nothing listed
pub none : (n : ℕ) → below (has 0) n ≡ []
none zero = below-zero (has 0)
none (suc n) = even_step 0 0 n refl ∙ ap (map suc) (none n)

-- the word without its lowest bit is less
pub clear_lt : (w : ℕ) → 0 < w → bit_and w (w - 1) < w
clear_lt w p = omega (arith, and_le_r w (w - 1))

-- the lowest set bit of a number below 2 ^ j is below j
pub lowest_lt : (k j w : ℕ) → 0 < w → w < 2 ^ j → count_trailing_zeros k w < j
unfolding count_trailing_zeros
lowest_lt k zero w p h = absurd (omega arith)
lowest_lt zero (suc j) w p h = omega arith
lowest_lt (suc k) (suc j) w p h = go (parity w) (lowest_lt k j (w / 2))
  where
    go : (w % 2 ≡ 0) ⊎ (w % 2 ≡ 1) → (0 < w / 2 → w / 2 < 2 ^ j → count_trailing_zeros k (w / 2) < j) → under (w % 2) (count_trailing_zeros k (w / 2)) < suc j
    go (inl e) ih = rw e (omega (arith, ih (omega arith) (omega (arith, pow-suc 2 j))))
    go (inr e) ih = rw e (omega arith)

-- the lowest set bit is set
pub lowest_has : (k w : ℕ) → 0 < w → w < 2 ^ k → has w (count_trailing_zeros k w) ≡ true
unfolding count_trailing_zeros
lowest_has zero w p h = absurd (omega arith)
lowest_has (suc k) w p h = go (parity w) (lowest_has k (w / 2))
  where
    go : (w % 2 ≡ 0) ⊎ (w % 2 ≡ 1) → (0 < w / 2 → w / 2 < 2 ^ k → has (w / 2) (count_trailing_zeros k (w / 2)) ≡ true) → has w (under (w % 2) (count_trailing_zeros k (w / 2))) ≡ true
    go (inl e) ih = ap (λ (x : ℕ). has w (under x (count_trailing_zeros k (w / 2)))) e ∙ has-suc w (count_trailing_zeros k (w / 2)) ∙ ih (omega arith) (omega (arith, pow-suc 2 k))
    go (inr e) ih = ap (λ (x : ℕ). has w (under x (count_trailing_zeros k (w / 2)))) e ∙ has-zero w ∙ ap (λ (x : ℕ). eqb x 1) e

-- ---- at 64 bits

pub members-none : members 0 ≡ []
unfolding members
members-none = none 64

pub members_walk : (w : ℕ) → 0 < w → w < 2 ^ 64 → members w ≡ count_trailing_zeros 64 w ∷ members (bit_and w (w - 1))
unfolding members
members_walk w p h = walk 64 w p h

-- a word with a member is not 0
pub members_pos : (w : ℕ) → 0 < length (members w) → 0 < w
members_pos w h = go (eq-zero-or-pos w)
  where
    go : (w ≡ 0) ⊎ (0 < w) → 0 < w
    go (inl e) = absurd (omega (arith, ap (λ (v : ℕ). length (members v)) e, ap length members-none))
    go (inr p) = p

-- the count falls by one
pub members-length : (w : ℕ) → 0 < w → w < 2 ^ 64 → length (members w) ≡ suc (length (members (bit_and w (w - 1))))
members-length w p h = ap length (members_walk w p h)
