-- A float that its format holds is known by its sign and its fraction: so rounding its own fraction gives it back. Assumes nothing.
use mathlib.Core.Path.{◌≡◌, refl, sym, ap, ◌∙◌, subst}
use Prim.Native.Nat.{ℕ, zero, suc, ◌+◌, ◌-◌, ◌*◌, ◌%◌, ◌^◌, ◌≤◌, ◌<◌}
use native.Mathlib.Nat.{lt_of_not-le, le_of_suc-le-suc, not-le_of_lt, zero-lt-suc, zero-mul, lt_irrefl, mul-one, one-mul, mul-pos, mul_comm, mul_assoc, mul_left_comm, mul_right_comm, mul-lt-mul_of_pos_right, lt_of_mul-lt-mul_right, eq_of_mul-eq-mul_right, pow-suc, pow-succ'}
use native.Mathlib.Omega.{arith}
use mathlib.Core.Bool.{Bool, ◌&&◌}
use lib.IntN.{ℤ, pos, negsuc}
use lib.Dec.{T, leb, ltb, eqb, ltb→lt, leb→le, eqb→eq}
use lib.Pow.{pow-add, pow_pos, pow-lt}
use lib.Ieee.{Float, nan, inf, fin, Format, prec, emax, low, up, down, round, fits}
use lib.Ieee.Digits.{back}
use lib.Ieee.Fits.{up_pos, down_pos, and_l, and_r, round-fits}
use lib.Ieee.Exact.{HasValue, round_exact}

-- ---- an odd number times a power of two, in one way only
even_odd : (m t : ℕ) → m % 2 ≡ 1 → m ≡ 2 * t → ⊥
even_odd m t o h = omega arith

odd_pow : (m n a b : ℕ) → m % 2 ≡ 1 → n % 2 ≡ 1 → m * 2 ^ a ≡ n * 2 ^ b → (m ≡ n) × (a ≡ b)
odd_pow m n zero zero o p h = (sym (mul-one m) ∙ h ∙ mul-one n, refl)
odd_pow m n zero (suc b) o p h = absurd (even_odd m (n * 2 ^ b) o (sym (mul-one m) ∙ h ∙ ap (λ (x : ℕ). n * x) (pow-succ' 2 b) ∙ mul_left_comm n 2 (2 ^ b)))
odd_pow m n (suc a) zero o p h = absurd (even_odd n (m * 2 ^ a) p (sym (mul-one n) ∙ sym h ∙ ap (λ (x : ℕ). m * x) (pow-succ' 2 a) ∙ mul_left_comm m 2 (2 ^ a)))
odd_pow m n (suc a) (suc b) o p h =
    let r = odd_pow m n a b o p (eq_of_mul-eq-mul_right 2 (zero-lt-suc 1) (m * 2 ^ a) (n * 2 ^ b)
    (mul_assoc m (2 ^ a) 2 ∙ ap (λ (x : ℕ). m * x) (sym (pow-suc 2 a)) ∙ h ∙ ap (λ (x : ℕ). n * x) (pow-suc 2 b) ∙ sym (mul_assoc n (2 ^ b) 2))) in
    (r.0, ap suc r.1)

-- ---- what `fits` says of a value that is not zero, and of a zero
record Held (f : Format) (m : ℕ) (e : ℤ) : Type 0 where
  pub is_odd : m % 2 ≡ 1
  pub few : m < 2 ^ prec f
  pub fine : down e ≤ 2 ^ low f
  pub under : m * up e < 2 ^ suc (emax f) * down e

held : (f : Format) (s : Bool) (m : ℕ) (e : ℤ) → T (fits f (fin s (suc m) e)) → Held f (suc m) e
unfolding fits
held f s m e t =
    let a = eqb (suc m % 2) 1 in
    let b = ltb (suc m) (2 ^ prec f) in
    let c = leb (down e) (2 ^ low f) in
    let d = ltb (suc m * up e) (2 ^ suc (emax f) * down e) in
    record {
      is_odd = eqb→eq (suc m % 2) 1 (and_l a b (and_l (a && b) c (and_l (a && b && c) d t)));
      few = ltb→lt (suc m) (2 ^ prec f) (and_r a b (and_l (a && b) c (and_l (a && b && c) d t)));
      fine = leb→le (down e) (2 ^ low f) (and_r (a && b) c (and_l (a && b && c) d t));
      under = ltb→lt (suc m * up e) (2 ^ suc (emax f) * down e) (and_r (a && b && c) d t);
    }

two_up : (p : ℕ) → 0 < p → 2 * p ≡ 1 → ⊥
two_up p h e = omega arith

flat : (e : ℤ) → up e * down e ≡ 1 → e ≡ pos 0
flat (pos zero) h = refl
flat (pos (suc k)) h = absurd (two_up (2 ^ k) (pow_pos k) (sym (pow-succ' 2 k) ∙ sym (mul-one (2 ^ suc k)) ∙ h))
flat (negsuc k) h = absurd (two_up (2 ^ k) (pow_pos k) (sym (pow-succ' 2 k) ∙ sym (one-mul (2 ^ suc k)) ∙ h))

pub zero_exp : (f : Format) (s : Bool) (e : ℤ) → T (fits f (fin s zero e)) → e ≡ pos 0
unfolding fits
zero_exp f s e t = flat e (eqb→eq (up e * down e) 1 t)

-- ---- one sign and one fraction: one float
no_sum : (a b : ℕ) → a + suc b ≡ 0 → ⊥
no_sum a b h = omega arith

same_exp : (m n : ℕ) (e g : ℤ) → m % 2 ≡ 1 → n % 2 ≡ 1 → m * up e * down g ≡ n * up g * down e → (m ≡ n) × (e ≡ g)
same_exp m n (pos a) (pos b) o p h =
    let r = odd_pow m n a b o p (sym (mul-one (m * 2 ^ a)) ∙ h ∙ mul-one (n * 2 ^ b)) in (r.0, ap pos r.1)
same_exp m n (pos a) (negsuc b) o p h =
    let r = odd_pow m n (a + suc b) 0 o p (ap (λ (x : ℕ). m * x) (pow-add 2 a (suc b)) ∙ sym (mul_assoc m (2 ^ a) (2 ^ suc b)) ∙ h ∙ mul-one (n * 1)) in absurd (no_sum a b r.1)
same_exp m n (negsuc a) (pos b) o p h =
    let r = odd_pow n m (b + suc a) 0 p o (ap (λ (x : ℕ). n * x) (pow-add 2 b (suc a)) ∙ sym (mul_assoc n (2 ^ b) (2 ^ suc a)) ∙ sym h ∙ mul-one (m * 1)) in absurd (no_sum b a r.1)
same_exp m n (negsuc a) (negsuc b) o p h =
    let r = odd_pow m n (suc b) (suc a) o p (ap (λ (x : ℕ). x * 2 ^ suc b) (sym (mul-one m)) ∙ h ∙ ap (λ (x : ℕ). x * 2 ^ suc a) (mul-one n)) in
    (r.0, ap negsuc (drop-suc b a r.1))
  where
    drop-suc : (i j : ℕ) → suc i ≡ suc j → j ≡ i
    drop-suc i j h = omega arith

cross : (x y de dg a c : ℕ) → 0 < c → x * c ≡ a * de → y * c ≡ a * dg → x * dg ≡ y * de
cross x y de dg a c C p q =
    eq_of_mul-eq-mul_right c C (x * dg) (y * de)
    (mul_right_comm x dg c ∙ ap (λ (z : ℕ). z * dg) p ∙ mul_right_comm a de dg ∙ ap (λ (z : ℕ). z * de) (sym q) ∙ mul_right_comm y c de)

no_zero : (n u d : ℕ) → 0 < u → 0 < d → 0 ≡ suc n * u * d → ⊥
no_zero n u d U D h = lt_irrefl 0 (subst (λ (x : ℕ). 0 < x) (sym h) (mul-pos (mul-pos (zero-lt-suc n) U) D))

unique : (f : Format) (x y : Float) (s : Bool) (a c : ℕ) → 0 < c → T (fits f x) → T (fits f y) → HasValue x s a c → HasValue y s a c → x ≡ y
unique f (fin t zero e) (fin u zero g) s a c C p q v w = λ i. fin ((v.0 ∙ sym w.0) i) zero ((zero_exp f t e p ∙ sym (zero_exp f u g q)) i)
unique f (fin t zero e) (fin u (suc n) g) s a c C p q v w =
    absurd (no_zero n (up g) (down e) (up_pos g) (down_pos e) (sym (ap (λ (z : ℕ). z * down g) (zero-mul (up e)) ∙ zero-mul (down g)) ∙ cross (zero * up e) (suc n * up g) (down e) (down g) a c C v.1 w.1))
unique f (fin t (suc m) e) (fin u zero g) s a c C p q v w =
    absurd (no_zero m (up e) (down g) (up_pos e) (down_pos g) (sym (ap (λ (z : ℕ). z * down e) (zero-mul (up g)) ∙ zero-mul (down e)) ∙ cross (zero * up g) (suc m * up e) (down g) (down e) a c C w.1 v.1))
unique f (fin t (suc m) e) (fin u (suc n) g) s a c C p q v w =
    let r = same_exp (suc m) (suc n) e g (held f t m e p).is_odd (held f u n g q).is_odd (cross (suc m * up e) (suc n * up g) (down e) (down g) a c C v.1 w.1) in
    λ i. fin ((v.0 ∙ sym w.0) i) (r.0 i) (r.1 i)
unique f nan y s a c C p q v w = elim v [ ]
unique f (inf _) y s a c C p q v w = elim v [ ]
unique f (fin t zero e) nan s a c C p q v w = elim w [ ]
unique f (fin t zero e) (inf _) s a c C p q v w = elim w [ ]
unique f (fin t (suc m) e) nan s a c C p q v w = elim w [ ]
unique f (fin t (suc m) e) (inf _) s a c C p q v w = elim w [ ]

-- ---- a value that the format holds is a whole number of the format's smallest values
pow-le : (i j : ℕ) → 2 ^ i ≤ 2 ^ j → i ≤ j
pow-le i j h = le_of_suc-le-suc (lt_of_not-le (λ (g : suc j ≤ i). not-le_of_lt (pow-lt g) h))

-- 2 ^ (e + low), the number of units in 2 ^ e
shift : (l : ℕ) (e : ℤ) → down e ≤ 2 ^ l → (j : ℕ) × (up e * 2 ^ l ≡ 2 ^ j * down e)
shift l (pos k) h = (k + l, sym (pow-add 2 k l) ∙ sym (mul-one (2 ^ (k + l))))
shift l (negsuc k) h = (l - suc k, one-mul (2 ^ l) ∙ ap (λ (x : ℕ). 2 ^ x) (sym (back l (suc k) (pow-le (suc k) l h))) ∙ pow-add 2 (l - suc k) (suc k))

-- ---- what the format holds, it keeps
zero_left : (a b : ℕ) → 0 * a ≡ 0 * b
zero_left a b = zero-mul a ∙ sym (zero-mul b)

round_zero_val : (f : Format) (s : Bool) (d : ℕ) → 0 < d → HasValue (round f s 0 d) s 0 d
round_zero_val f s d D =
    round_exact f s 0 d 0 0 D (pow_pos (prec f)) (subst (λ (x : ℕ). x < 2 ^ (low f + suc (emax f))) (sym (zero-mul (2 ^ 0))) (pow_pos (low f + suc (emax f))))
    (zero-mul (2 ^ low f) ∙ sym (ap (λ (x : ℕ). x * d) (zero-mul (2 ^ 0)) ∙ zero-mul d))

zero_held : (f : Format) (s : Bool) → T (fits f (fin s 0 (pos 0)))
unfolding fits
zero_held f s = tt

pub round_zero : (f : Format) (s : Bool) (d : ℕ) → 0 < d → round f s 0 d ≡ fin s 0 (pos 0)
round_zero f s d D =
    unique f (round f s 0 d) (fin s 0 (pos 0)) s 0 d D (round-fits f s 0 d) (zero_held f s) (round_zero_val f s d D) (refl, ap (λ (x : ℕ). x * d) (zero-mul 1) ∙ zero_left d (down (pos 0)))

own_val : (f : Format) (s : Bool) (m : ℕ) (e : ℤ) → Held f m e → HasValue (round f s (m * up e) (down e)) s (m * up e) (down e)
own_val f s m e h =
    let l = low f in
    let j = shift l e h.fine in
    let k : m * up e * 2 ^ l ≡ m * 2 ^ j.0 * down e = mul_assoc m (up e) (2 ^ l) ∙ ap (λ (x : ℕ). m * x) j.1 ∙ sym (mul_assoc m (2 ^ j.0) (down e)) in
    let u : m * 2 ^ j.0 * down e < 2 ^ (l + suc (emax f)) * down e =
    subst (λ (x : ℕ). x < 2 ^ (l + suc (emax f)) * down e) k
    (subst (λ (x : ℕ). m * up e * 2 ^ l < x) (mul_right_comm (2 ^ suc (emax f)) (down e) (2 ^ l) ∙ ap (λ (x : ℕ). x * down e) (mul_comm (2 ^ suc (emax f)) (2 ^ l) ∙ sym (pow-add 2 l (suc (emax f)))))
    (mul-lt-mul_of_pos_right h.under (pow_pos l))) in
    round_exact f s (m * up e) (down e) m j.0 (down_pos e) h.few (lt_of_mul-lt-mul_right (down e) u) k

pub round_self : (f : Format) (s : Bool) (m : ℕ) (e : ℤ) → T (fits f (fin s m e)) → round f s (m * up e) (down e) ≡ fin s m e
round_self f s zero e t =
    ap (λ (x : ℕ). round f s x (down e)) (zero-mul (up e)) ∙ round_zero f s (down e) (down_pos e) ∙ ap (λ (x : ℤ). fin s zero x) (sym (zero_exp f s e t))
round_self f s (suc m) e t =
    unique f (round f s (suc m * up e) (down e)) (fin s (suc m) e) s (suc m * up e) (down e) (down_pos e) (round-fits f s (suc m * up e) (down e)) t (own_val f s (suc m) e (held f s m e t)) (refl, refl)
