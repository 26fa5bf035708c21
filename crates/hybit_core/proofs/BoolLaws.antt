-- Laws of tests. Assumes nothing.
use Rattle.std.proofs.Common.{◌≡◌, ℕ, ◌<◌, ◌≤◌, Bool, true, false, not, ◌&&◌, eqb, ltb, leb, sym, refl, ap, ◌∙◌, true≢false, le-ltb, lt-ltb, eq-eqb, ne_eqb, eqb-true, le-leb}
use mathlib.Core.Bool.{and-false, false≢true}
use borrow.Author.Tests.{lt-leb, not-true, not-false}

pub and_left : (s t : Bool) → (s && t) ≡ true → s ≡ true
and_left true t e = refl
and_left false t e = e

pub and_right : (s t : Bool) → (s && t) ≡ true → t ≡ true
and_right true t e = e
and_right false t e = absurd (false≢true e)

pub and_both : (s t : Bool) → s ≡ true → t ≡ true → (s && t) ≡ true
and_both true t p q = q
and_both false t p q = p

pub and-four : (a b c d : Bool) → a ≡ true → b ≡ true → c ≡ true → d ≡ true → (a && b && c && d) ≡ true
and-four a b c d p q r s = and_both (a && b && c) d (and_both (a && b) c (and_both a b p q) r) s

-- two tests agree if each implies the other
pub same_test : (s t : Bool) → (s ≡ true → t ≡ true) → (t ≡ true → s ≡ true) → s ≡ t
same_test true t f g = sym (f refl)
same_test false true f g = g refl
same_test false false f g = refl

pub eqb_turned : (m n : ℕ) → eqb m n ≡ eqb n m
eqb_turned m n = same_test (eqb m n) (eqb n m) (λ e. eq-eqb n m (sym (eqb-true m n e))) (λ e. eq-eqb m n (sym (eqb-true n m e)))

pub not-both : (t : Bool) {A : Type 0} → t ≡ true → t ≡ false → A
not-both t p q = absurd (true≢false (sym p ∙ q))

-- ---- what a test gives at a return of the code that makes it

-- r is the flag that a callee returned for b, tested as `!r`
pub flag_off : (b r : Bool) → r ≡ b → not r ≡ true → false ≡ b
flag_off b r e h = sym (not-true r h) ∙ e

pub flag_on : (b r : Bool) → r ≡ b → not r ≡ false → true ≡ b
flag_on b r e h = sym (not-false r h) ∙ e

-- tests joined by &&, made one after the other
pub and_first : (a b : Bool) → false ≡ a → false ≡ (a && b)
and_first true b e = cc
and_first false b e = refl

pub and_second : (a b : Bool) → false ≡ b → false ≡ (a && b)
and_second a b e = sym (ap (λ (t : Bool). a && t) (sym e) ∙ and-false a)

pub and-next : (a b c : Bool) → true ≡ a → c ≡ b → c ≡ (a && b)
and-next true b c e k = k
and-next false b c e k = cc

pub is_equal : (m n : ℕ) → m ≡ n → true ≡ eqb m n
is_equal m n e = sym (eq-eqb m n e)

pub is_unequal : (m n : ℕ) → (m ≡ n → ⊥) → false ≡ eqb m n
is_unequal m n h = sym (ne_eqb m n h)

pub is_below : (m n : ℕ) → m < n → true ≡ ltb m n
is_below m n h = sym (lt-ltb m n h)

pub is_not_below : (m n : ℕ) → n ≤ m → false ≡ ltb m n
is_not_below m n h = sym (le-ltb m n h)

pub is_within : (m n : ℕ) → m ≤ n → true ≡ leb m n
is_within m n h = sym (le-leb m n h)

pub is_above : (m n : ℕ) → n < m → false ≡ leb m n
is_above m n h = sym (lt-leb m n h)

pub ruleset tests = (flag_off, flag_on, and_first, and-next, is_equal, is_unequal, is_below, is_not_below, is_within, is_above)
