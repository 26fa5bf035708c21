-- A running sum with and without terms that are zeros: the two differ at most in the sign of a zero. So a merged value is finite
-- exactly where the merged value of the nonzero entries is. Assumes nothing.
use mathlib.Core.Path.{◌≡◌, refl, sym, ap, ap₂, ◌∙◌, subst}
use mathlib.Core.Bool.{Bool, true, false, not, cond, false≢true}
use mathlib.Core.List.{List, [], ◌∷◌, foldl}
use mathlib.Core.Logic.{◌⊎◌, inl, inr}
use Prim.Native.Nat.{ℕ, zero, suc, ◌-◌, ◌*◌, ◌<◌}
use native.Mathlib.Nat.{zero-lt-suc, zero-mul, add-zero, zero-add, sub-zero, mul-pos, mul_comm, mul_assoc}
use lib.IntN.{ℤ, pos}
use lib.Dec.{T, ltb, lt→ltb, leb-suc-zero}
use lib.Ieee.{Float, nan, inf, fin, Format, binary64, up, down, round, sum, add, fits, of_bits}
use lib.Ieee.Bits.{is_true}
use lib.Ieee.Fits.{up_pos, down_pos, add-fits}
use lib.Ieee.Scale.{round_same}
use borrow.Author.Tests.{eqb-true}
use Rattle.hybit_core.specs.Floats.{zero64, finite}
use Rattle.lent.specs.Lists.{cons_if, only}
use Rattle.csr32.specs.Csr.{Entry, of_column, merged}
use Rattle.abtm_values.specs.Values.{is_zero, merged_nonzero}
use Rattle.demand.proofs.OnlyLaws.{only_turned, nonzero}
use Rattle.demand.proofs.HeldLaws.{zero_exp, round_zero, round_self}

-- one float, or two zeros
abbrev SameValue : Float → Float → Type 0
SameValue x y = (x ≡ y) ⊎ ((is_zero x ≡ true) × (is_zero y ≡ true))

turned : (x y : Float) → SameValue x y → SameValue y x
turned x y (inl e) = inl (sym e)
turned x y (inr z) = inr (z.1, z.0)

chained : (x y z : Float) → SameValue x y → SameValue y z → SameValue x z
chained x y z (inl e) (inl g) = inl (e ∙ g)
chained x y z (inl e) (inr g) = inr (ap is_zero e ∙ g.0, g.1)
chained x y z (inr e) (inl g) = inr (e.0, sym (ap is_zero g) ∙ e.1)
chained x y z (inr e) (inr g) = inr (e.0, g.1)

-- ---- sums with a zero

none-summed : (f : Format) (s t : Bool) (c : ℕ) → 0 < c → is_zero (sum f s 0 t 0 c) ≡ true
unfolding sum
none-summed f false false c h = ap is_zero (round_zero f false c h)
none-summed f false true c h = ap is_zero (round_zero f false c h)
none-summed f true false c h = ap is_zero (round_zero f false c h)
none-summed f true true c h = ap is_zero (round_zero f true c h)

zero_second : (f : Format) (s : Bool) (a : ℕ) (t : Bool) (c : ℕ) → 0 < a → sum f s a t 0 c ≡ round f s a c
unfolding sum
zero_second f false a false c h = ap (λ (n : ℕ). round f false n c) (add-zero a)
zero_second f true a true c h = ap (λ (n : ℕ). round f true n c) (add-zero a)
zero_second f false a true c h = λ i. cond (leb-suc-zero a i) (round f true (0 - a) c) (round f false (sub-zero a i) c)
zero_second f true a false c h = λ i. cond (leb-suc-zero a i) (round f false (0 - a) c) (round f (is_true (ltb 0 a) (lt→ltb 0 a h) i) (sub-zero a i) c)

zero-first : (f : Format) (s t : Bool) (b c : ℕ) → 0 < b → sum f s 0 t b c ≡ round f t b c
unfolding sum
zero-first f false false b c h = ap (λ (n : ℕ). round f false n c) (zero-add b)
zero-first f true true b c h = ap (λ (n : ℕ). round f true n c) (zero-add b)
zero-first f false true b c h = λ i. cond (is_true (ltb 0 b) (lt→ltb 0 b h) i) (round f true (sub-zero b i) c) (round f false (0 - b) c)
zero-first f true false b c h = λ i. cond (is_true (ltb 0 b) (lt→ltb 0 b h) i) (round f false (sub-zero b i) c) (round f (ltb b 0) (0 - b) c)

none_times : (a b : ℕ) → 0 * a * b ≡ 0
none_times a b = ap (λ (n : ℕ). n * b) (zero-mul a) ∙ zero-mul b

-- ---- floats: a zero added, and two zeros to which one float is added

both_zeros : (f : Format) (s : Bool) (e : ℤ) (t : Bool) (d : ℤ) → is_zero (add f (fin s 0 e) (fin t 0 d)) ≡ true
unfolding add
both_zeros f s e t d = ap₂ (λ (a b : ℕ). is_zero (sum f s a t b (down e * down d))) (none_times (up e) (down d)) (none_times (up d) (down e)) ∙ none-summed f s t (down e * down d) (mul-pos (down_pos e) (down_pos d))

zero-added : (f : Format) (x y : Float) → T (fits f x) → is_zero y ≡ true → SameValue (add f x y) x
unfolding add
zero-added f nan y h z = inl refl
zero-added f (inf s) nan h z = absurd (false≢true z)
zero-added f (inf s) (inf t) h z = absurd (false≢true z)
zero-added f (inf s) (fin t n d) h z = inl refl
zero-added f (fin s m e) nan h z = absurd (false≢true z)
zero-added f (fin s m e) (inf t) h z = absurd (false≢true z)
zero-added f (fin s zero e) (fin t n d) h z = inr (ap (λ (k : ℕ). is_zero (add f (fin s 0 e) (fin t k d))) (eqb-true n 0 z) ∙ both_zeros f s e t d, refl)
zero-added f (fin s (suc m) e) (fin t n d) h z =
    let a : ℕ = suc m * up e in
    let p : 0 < a * down d = mul-pos (mul-pos (zero-lt-suc m) (up_pos e)) (down_pos d) in
    inl (
    ap (λ (k : ℕ). sum f s (a * down d) t k (down e * down d)) (ap (λ (k : ℕ). k * up d * down e) (eqb-true n 0 z) ∙ none_times (up d) (down e))
    ∙ zero_second f s (a * down d) t (down e * down d) p
    ∙ round_same f s (a * down d) (down e * down d) a (down e) (mul-pos (down_pos e) (down_pos d)) (down_pos e) (mul_assoc a (down d) (down e) ∙ ap (λ (k : ℕ). a * k) (mul_comm (down d) (down e)))
    ∙ round_self f s (suc m) e h
    )

-- a zero that the format holds is written in one way for each sign
one-zero : (f : Format) (x : Float) → T (fits f x) → is_zero x ≡ true → (s : Bool) × (x ≡ fin s 0 (pos 0))
one-zero f nan h z = absurd (false≢true z)
one-zero f (inf s) h z = absurd (false≢true z)
one-zero f (fin s m e) h z =
    let k : m ≡ 0 = eqb-true m 0 z in
    (s, ap (λ (n : ℕ). fin s n e) k ∙ ap (fin s 0) (zero_exp f s e (subst (λ (n : ℕ). T (fits f (fin s n e))) k h)))

to_zeros : (f : Format) (s t : Bool) (y : Float) → SameValue (add f (fin s 0 (pos 0)) y) (add f (fin t 0 (pos 0)) y)
unfolding add
to_zeros f s t nan = inl refl
to_zeros f s t (inf u) = inl refl
to_zeros f s t (fin u zero d) = inr (both_zeros f s (pos 0) u d, both_zeros f t (pos 0) u d)
to_zeros f s t (fin u (suc n) d) = inl (one s ∙ sym (one t))
  where
    b : ℕ
    b = suc n * up d * 1

    one : (s : Bool) → add f (fin s 0 (pos 0)) (fin u (suc n) d) ≡ round f u b (1 * down d)
    one s = ap (λ (a : ℕ). sum f s a u b (1 * down d)) (none_times 1 (down d)) ∙ zero-first f s u b (1 * down d) (mul-pos (mul-pos (zero-lt-suc n) (up_pos d)) (zero-lt-suc 0))

same_added : (f : Format) (x y z : Float) → T (fits f x) → T (fits f y) → SameValue x y → SameValue (add f x z) (add f y z)
same_added f x y z h k (inl e) = inl (ap (λ (v : Float). add f v z) e)
same_added f x y z h k (inr e) =
    let p = one-zero f x h e.0 in
    let q = one-zero f y k e.1 in
    subst (λ (v : Float). SameValue v (add f y z)) (sym (ap (λ (v : Float). add f v z) p.1)) (
    subst (λ (v : Float). SameValue (add f (fin p.0 0 (pos 0)) z) v) (sym (ap (λ (v : Float). add f v z) q.1)) (to_zeros f p.0 q.0 z)
    )

-- ---- running sums

abbrev summed : Float → List Entry → Float
summed s es = foldl (λ (s : Float) (e : Entry). add binary64 s e.1) s es

zeros_left_out : (es : List Entry) (s t : Float) → T (fits binary64 s) → T (fits binary64 t) → SameValue s t → SameValue (summed s (only nonzero es)) (summed t es)
unfolding only
zeros_left_out [] s t h k e = e
zeros_left_out (a ∷ es) s t h k e = go (is_zero a.1) refl (zeros_left_out es)
  where
    t2 : Float
    t2 = add binary64 t a.1

    go : (b : Bool) → is_zero a.1 ≡ b → ((s t : Float) → T (fits binary64 s) → T (fits binary64 t) → SameValue s t → SameValue (summed s (only nonzero es)) (summed t es))
        → SameValue (summed s (cons_if (not b) a (only nonzero es))) (summed t2 es)
    go true z rest = rest s t2 h (add-fits binary64 t a.1) (chained s t t2 e (turned t2 t (zero-added binary64 t a.1 k z)))
    go false z rest = rest (add binary64 s a.1) t2 (add-fits binary64 s a.1) (add-fits binary64 t a.1) (same_added binary64 s t a.1 h k e)

zero_fits : T (fits binary64 zero64)
unfolding fits of_bits
zero_fits = tt

same_finite : (x y : Float) → SameValue x y → finite x ≡ finite y
same_finite x y (inl e) = ap finite e
same_finite x y (inr z) = zero-finite x z.0 ∙ sym (zero-finite y z.1)
  where
    zero-finite : (x : Float) → is_zero x ≡ true → finite x ≡ true
    zero-finite nan z = z
    zero-finite (inf s) z = z
    zero-finite (fin s m e) z = refl

-- ---- merged values

pub finite-nonzero : (es : List Entry) (c : ℕ) → finite (merged_nonzero es c) ≡ finite (merged es c)
unfolding merged_nonzero merged
finite-nonzero es c =
    ap (λ (l : List Entry). finite (summed zero64 l)) (only_turned (of_column c) nonzero es)
    ∙ same_finite (summed zero64 (only nonzero (only (of_column c) es))) (summed zero64 (only (of_column c) es)) (zeros_left_out (only (of_column c) es) zero64 zero64 zero_fits zero_fits (inl refl))
