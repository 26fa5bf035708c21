-- A merged value of finite entries is no NaN. Assumes nothing.
use mathlib.Core.Bool.{Bool, true, false, not, cond, ◌&&◌, beq, true≢false, false≢true}
use mathlib.Core.List.{List, [], ◌∷◌, foldl}
use mathlib.Core.Path.{◌≡◌, refl}
use Prim.Native.Nat.{ℕ, zero, suc, ◌+◌, ◌-◌, ◌*◌, ◌/◌, ◌%◌, ◌^◌, compare}
use lib.Dec.{ltb}
use lib.Ieee.{Float, nan, inf, fin, Format, prec, emax, low, binary64, up, down, odd, units, round, sum, add, size, nearest, of_bits}
use Rattle.hybit_core.specs.Floats.{zero64, finite}
use Rattle.hybit_core.proofs.BoolLaws.{and_left, and_right}
use Rattle.lent.specs.Lists.{only, every}
use Rattle.lent.proofs.ListLaws.{every-only}
use Rattle.csr32.specs.Csr.{Entry, of_column, merged}
use Rattle.abtm_values.specs.Values.{is_zero, solid, merged_nonzero}

abbrev is_nan : Float → Bool
is_nan nan = true
is_nan (inf s) = false
is_nan (fin s m e) = false

odd_number : (d : ℕ) (s : Bool) (q k l : ℕ) → is_nan (odd d s q k l) ≡ false
unfolding odd
odd_number d s zero k l = refl
odd_number d s (suc q) k l = refl

round_number : (f : Format) (s : Bool) (a b : ℕ) → is_nan (round f s a b) ≡ false
unfolding round units
round_number f s a b =
    let n = a * 2 ^ low f in
    let k = size (n / b) - prec f in
    let u = b * 2 ^ k in
    let q = nearest (n / u) (compare (n % u * 2) u) in
    go (ltb (q * 2 ^ k) (2 ^ (low f + suc (emax f)))) (odd (suc (prec f)) s q k (low f)) (odd_number (suc (prec f)) s q k (low f))
  where
    go : (t : Bool) (v : Float) → is_nan v ≡ false → is_nan (cond t v (inf s)) ≡ false
    go true v e = e
    go false v e = refl

add-number : (f : Format) (a b : Float) → is_nan a ≡ false → finite b ≡ true → is_nan (add f a b) ≡ false
unfolding add sum
add-number f nan b e g = e
add-number f (inf s) nan e g = absurd (false≢true g)
add-number f (inf s) (inf t) e g = absurd (false≢true g)
add-number f (inf s) (fin t n d) e g = refl
add-number f (fin s m k) nan e g = absurd (false≢true g)
add-number f (fin s m k) (inf t) e g = absurd (false≢true g)
add-number f (fin s m k) (fin t n d) e g =
    pick (beq s t) (ltb A B) (round f s (A + B) C) (round f t (B - A) C) (round f (s && ltb B A) (A - B) C) (round_number f s (A + B) C) (round_number f t (B - A) C) (round_number f (s && ltb B A) (A - B) C)
  where
    A : ℕ
    A = m * up k * down d

    B : ℕ
    B = n * up d * down k

    C : ℕ
    C = down k * down d

    pick : (x y : Bool) (u v w : Float) → is_nan u ≡ false → is_nan v ≡ false → is_nan w ≡ false → is_nan (cond x u (cond y v w)) ≡ false
    pick true y u v w a b c = a
    pick false true u v w a b c = b
    pick false false u v w a b c = c

fold_number : (es : List Entry) (s : Float) → is_nan s ≡ false → every (λ (e : Entry). finite e.1) es ≡ true → is_nan (foldl (λ (s : Float) (e : Entry). add binary64 s e.1) s es) ≡ false
unfolding every
fold_number [] s h e = h
fold_number (a ∷ es) s h e =
    fold_number es (add binary64 s a.1) (add-number binary64 s a.1 h (and_left (finite a.1) (every (λ (e : Entry). finite e.1) es) e)) (and_right (finite a.1) (every (λ (e : Entry). finite e.1) es) e)

zero_number : is_nan zero64 ≡ false
unfolding of_bits
zero_number = refl

solid_by : (v : Float) → is_nan v ≡ false → not (is_zero v) ≡ true → solid v ≡ true
solid_by nan a b = absurd (true≢false a)
solid_by (inf s) a b = refl
solid_by (fin s m e) a b = b

-- one that is not zero may stand in a tile
pub merged-solid : (es : List Entry) (c : ℕ) → every (λ (e : Entry). finite e.1) es ≡ true → not (is_zero (merged_nonzero es c)) ≡ true → solid (merged_nonzero es c) ≡ true
unfolding merged_nonzero merged
merged-solid es c e z =
    let kept : List Entry = only (λ (e : Entry). not (is_zero e.1)) es in
    solid_by (merged_nonzero es c)
    (fold_number (only (of_column c) kept) zero64 zero_number (every-only (λ (e : Entry). finite e.1) (of_column c) kept (every-only (λ (e : Entry). finite e.1) (λ (e : Entry). not (is_zero e.1)) es e))) z
