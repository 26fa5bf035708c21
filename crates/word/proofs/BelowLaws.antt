-- Laws of `below p n`, the ascending list of the positions below n at which p holds, for any test p. Assumes nothing.
use Rattle.std.proofs.lemmas.Option.{slice_get-get_or, slice_get_past, same_Some}
use mathlib.Core.Bool.{Bool, true, false, not, ◌&&◌, ◌||◌}
use mathlib.Core.List.{List, [], ◌∷◌, ◌++◌, map, foldl, foldl-append, append-nil}
use mathlib.Core.Path.{◌≡◌, refl, sym, ap, ap₂, ◌∙◌, subst}
use Prim.Native.Nat.{ℕ, zero, suc, ◌+◌, ◌-◌, ◌≤◌, ◌<◌, zero-le}
use native.Mathlib.Nat.{add-zero, add-suc, suc-add, zero-add, sub-zero, le_refl}
use native.Mathlib.Decide.{le_ind, dec_lt}
use native.Mathlib.Omega.{arith}
use Rattle.std.specs.Prelude.{Option, None, Some}
use lib.ListN.{length, get_or, set, length-set, length-append, length-map, get_or-append}
use lib.Seq.{ext_get_or, get_or-set_same, get_or-set_other, get_or_at, get_or-append_seam}
use mir.Val.{bool_byte}
use Rattle.lent.specs.Lists.{cons_if}
use Rattle.lent.proofs.ListLaws.{get_or-map-lt}
use Rattle.word.specs.Bits.{from, below, between, count, selected}

cons_if-append : (t : Bool) (i : ℕ) (l r : List ℕ) → cons_if t i (l ++ r) ≡ cons_if t i l ++ r
cons_if-append true i l r = refl
cons_if-append false i l r = refl

map-cons_if : (t : Bool) (i : ℕ) (l : List ℕ) → cons_if t (suc i) (map suc l) ≡ map suc (cons_if t i l)
map-cons_if true i l = refl
map-cons_if false i l = refl

pub byte_le : (t : Bool) → bool_byte t ≤ 1
byte_le true = omega arith
byte_le false = omega arith

-- ---- one position more, at the end

from_snoc : (p : ℕ → Bool) (b d : ℕ) → from p b (suc d) ≡ from p b d ++ cons_if (p (b + d)) (b + d) []
unfolding from
from_snoc p b zero = ap (λ (n : ℕ). cons_if (p n) n []) (sym (add-zero b))
from_snoc p b (suc d) =
    ap (cons_if (p b) b) (from_snoc p (suc b) d)
    ∙ cons_if-append (p b) b (from p (suc b) d) (cons_if (p (suc b + d)) (suc b + d) [])
    ∙ ap (λ (n : ℕ). cons_if (p b) b (from p (suc b) d) ++ cons_if (p n) n []) (suc-add b d ∙ sym (add-suc b d))

pub below_snoc : (p : ℕ → Bool) (n : ℕ) → below p (suc n) ≡ below p n ++ cons_if (p n) n []
unfolding below
below_snoc p n = from_snoc p 0 n ∙ ap (λ (m : ℕ). from p 0 n ++ cons_if (p m) m []) (zero-add n)

pub length-below-suc : (p : ℕ → Bool) (n : ℕ) → length (below p (suc n)) ≡ length (below p n) + bool_byte (p n)
length-below-suc p n = ap length (below_snoc p n) ∙ length-append (below p n) (cons_if (p n) n []) ∙ ap (λ (k : ℕ). length (below p n) + k) (one (p n))
  where
    one : (t : Bool) → length (cons_if t n []) ≡ bool_byte t
    one true = refl
    one false = refl

pub below-zero : (p : ℕ → Bool) → below p 0 ≡ []
unfolding below from
below-zero p = refl

-- ---- one position more, at the front: the others are one up

from_shift : (p : ℕ → Bool) (b d : ℕ) → from p (suc b) d ≡ map suc (from (λ (i : ℕ). p (suc i)) b d)
unfolding from
from_shift p b zero = refl
from_shift p b (suc d) =
    ap (cons_if (p (suc b)) (suc b)) (from_shift p (suc b) d) ∙ map-cons_if (p (suc b)) b (from (λ (i : ℕ). p (suc i)) (suc b) d)

pub below-cons : (p : ℕ → Bool) (n : ℕ) → below p (suc n) ≡ cons_if (p 0) 0 (map suc (below (λ (i : ℕ). p (suc i)) n))
unfolding below from
below-cons p n = ap (cons_if (p 0) 0) (from_shift p 0 n)

-- ---- the test counts only below n

pub below_cong : (p q : ℕ → Bool) (n : ℕ) → ((i : ℕ) → i < n → p i ≡ q i) → below p n ≡ below q n
below_cong p q zero h = below-zero p ∙ sym (below-zero q)
below_cong p q (suc n) h =
    below_snoc p n ∙ ap (λ (t : Bool). below p n ++ cons_if t n []) (h n (omega arith))
    ∙ ap (λ (l : List ℕ). l ++ cons_if (q n) n []) (below_cong p q n (λ i k. h i (omega arith)))
    ∙ sym (below_snoc q n)

pub below_same : (p q : ℕ → Bool) (n : ℕ) → ((i : ℕ) → p i ≡ q i) → below p n ≡ below q n
below_same p q n h = ap (λ (r : ℕ → Bool). below r n) (λ k i. h i k)

-- ---- no more members than positions

pub length-below-le : (p : ℕ → Bool) (n : ℕ) → length (below p n) ≤ n
length-below-le p zero = omega (arith, ap length (below-zero p))
length-below-le p (suc n) = omega (arith, length-below-suc p n, length-below-le p n, byte_le (p n))

-- ---- ranks: the count below i grows with i, and a member's rank is below the count

pub length_below_mono : (p : ℕ → Bool) (m n : ℕ) → m ≤ n → length (below p m) ≤ length (below p n)
length_below_mono p m n h = le_ind (λ (k : ℕ). length (below p m) ≤ length (below p k)) (le_refl (length (below p m))) (λ k l e. omega (arith, length-below-suc p k)) n h

pub rank_lt : (p : ℕ → Bool) (i n : ℕ) → i < n → p i ≡ true → length (below p i) < length (below p n)
rank_lt p i n h e = omega (arith, length-below-suc p i, ap bool_byte e, length_below_mono p (suc i) n h)

-- ---- a run of positions in parts

pub from-append : (p : ℕ → Bool) (b d e : ℕ) → from p b (d + e) ≡ from p b d ++ from p (b + d) e
unfolding from
from-append p b zero e = ap (from p b) (zero-add e) ∙ ap (λ (n : ℕ). from p n e) (sym (add-zero b))
from-append p b (suc d) e =
    ap (from p b) (suc-add d e) ∙ ap (cons_if (p b) b) (from-append p (suc b) d e)
    ∙ cons_if-append (p b) b (from p (suc b) d) (from p (suc b + d) e)
    ∙ ap (λ (n : ℕ). cons_if (p b) b (from p (suc b) d) ++ from p n e) (suc-add b d ∙ sym (add-suc b d))

pub from_cong : (p q : ℕ → Bool) (b d : ℕ) → ((i : ℕ) → b ≤ i → i < b + d → p i ≡ q i) → from p b d ≡ from q b d
unfolding from
from_cong p q b zero h = refl
from_cong p q b (suc d) h =
    ap₂ (λ (t : Bool) (l : List ℕ). cons_if t b l) (h b (le_refl b) (omega arith)) (from_cong p q (suc b) d (λ i l u. h i (omega arith) (omega arith)))

pub from-none : (p : ℕ → Bool) (b d : ℕ) → ((i : ℕ) → b ≤ i → i < b + d → p i ≡ false) → from p b d ≡ []
unfolding from
from-none p b zero h = refl
from-none p b (suc d) h = ap₂ (λ (t : Bool) (l : List ℕ). cons_if t b l) (h b (le_refl b) (omega arith)) (from-none p (suc b) d (λ i l u. h i (omega arith) (omega arith)))

map-cons_if-add : (k : ℕ) (t : Bool) (i : ℕ) (l : List ℕ) → cons_if t (k + i) (map (λ (n : ℕ). k + n) l) ≡ map (λ (n : ℕ). k + n) (cons_if t i l)
map-cons_if-add k true i l = refl
map-cons_if-add k false i l = refl

-- the run from k + b on is the run from b on of the test moved by k
pub from_move : (p : ℕ → Bool) (k b d : ℕ) → from p (k + b) d ≡ map (λ (n : ℕ). k + n) (from (λ (i : ℕ). p (k + i)) b d)
unfolding from
from_move p k b zero = refl
from_move p k b (suc d) =
    ap (λ (n : ℕ). cons_if (p (k + b)) (k + b) (from p n d)) (sym (add-suc k b))
    ∙ ap (cons_if (p (k + b)) (k + b)) (from_move p k (suc b) d)
    ∙ map-cons_if-add k (p (k + b)) b (from (λ (i : ℕ). p (k + i)) (suc b) d)

-- ---- `between p b e`: the positions from b up to e at which p holds

pub below-between : (p : ℕ → Bool) (n : ℕ) → below p n ≡ between p 0 n
unfolding below between
below-between p n = ap (from p 0) (sym (sub-zero n))

pub between_split : (p : ℕ → Bool) (b m e : ℕ) → b ≤ m → m ≤ e → between p b e ≡ between p b m ++ between p m e
unfolding between
between_split p b m e h l =
    let s : e - b ≡ (m - b) + (e - m) = omega arith in
    let t : b + (m - b) ≡ m = omega arith in
    ap (from p b) s ∙ from-append p b (m - b) (e - m) ∙ ap (λ (n : ℕ). from p b (m - b) ++ from p n (e - m)) t

pub between_none : (p : ℕ → Bool) (b e : ℕ) → ((i : ℕ) → b ≤ i → i < e → p i ≡ false) → between p b e ≡ []
unfolding between
between_none p b e h = from-none p b (e - b) (λ i l u. h i l (omega arith))

pub between_cong : (p q : ℕ → Bool) (b e : ℕ) → ((i : ℕ) → b ≤ i → i < e → p i ≡ q i) → between p b e ≡ between q b e
unfolding between
between_cong p q b e h = from_cong p q b (e - b) (λ i l u. h i l (omega arith))

pub between_cons : (p : ℕ → Bool) (b e : ℕ) → b < e → between p b e ≡ cons_if (p b) b (between p (suc b) e)
unfolding between from
between_cons p b e h =
    let s : e - b ≡ suc (e - suc b) = omega arith in
    ap (from p b) s

-- a block of d positions from k on, of a test that is q there
pub between_block : (p q : ℕ → Bool) (k d : ℕ) → ((i : ℕ) → i < d → p (k + i) ≡ q i) → between p k (k + d) ≡ map (λ (n : ℕ). k + n) (below q d)
unfolding between below
between_block p q k d h =
    let s : (k + d) - k ≡ d = omega arith in
    ap (from p k) s ∙ ap (λ (n : ℕ). from p n d) (sym (add-zero k)) ∙ from_move p k 0 d
    ∙ ap (map (λ (n : ℕ). k + n)) (from_cong (λ (i : ℕ). p (k + i)) q 0 d (λ i l u. h i (omega arith)))

-- ---- nothing at or past n: a longer run lists the same
pub below_trim : (p : ℕ → Bool) (n m : ℕ) → n ≤ m → ((i : ℕ) → n ≤ i → i < m → p i ≡ false) → below p m ≡ below p n
below_trim p n m h f =
    below-between p m ∙ between_split p 0 n m zero-le h
    ∙ ap₂ (λ (s t : List ℕ). s ++ t) (sym (below-between p n)) (between_none p n m f) ∙ append-nil (below p n)

pub none-counted : (p : ℕ → Bool) (n : ℕ) → ((i : ℕ) → i < n → p i ≡ false) → length (below p n) ≡ 0
none-counted p n h = ap length (below_trim p 0 n zero-le (λ i l u. h i u) ∙ below-zero p)

pub all-places : length (below (λ i. true) 64) ≡ 64
unfolding below from
all-places = refl

-- ---- counts add: those of p with q, and those of p without q
pub length-below-parts : (p q : ℕ → Bool) (n : ℕ) → length (below p n) ≡ length (below (λ (i : ℕ). p i && q i) n) + length (below (λ (i : ℕ). p i && not (q i)) n)
length-below-parts p q zero = omega (arith, ap length (below-zero p), ap length (below-zero (λ (i : ℕ). p i && q i)), ap length (below-zero (λ (i : ℕ). p i && not (q i))))
length-below-parts p q (suc n) =
    omega (arith, length-below-parts p q n, length-below-suc p n, length-below-suc (λ (i : ℕ). p i && q i) n, length-below-suc (λ (i : ℕ). p i && not (q i)) n, one (p n) (q n))
  where
    one : (s t : Bool) → bool_byte s ≡ bool_byte (s && t) + bool_byte (s && not t)
    one true true = refl
    one true false = refl
    one false t = refl

pub length-below-or : (p q : ℕ → Bool) (n : ℕ)
    → length (below (λ (i : ℕ). p i || q i) n) + length (below (λ (i : ℕ). p i && q i) n) ≡ length (below p n) + length (below q n)
length-below-or p q zero =
    omega (arith, ap length (below-zero p), ap length (below-zero q), ap length (below-zero (λ (i : ℕ). p i || q i)), ap length (below-zero (λ (i : ℕ). p i && q i)))
length-below-or p q (suc n) =
    omega (arith, length-below-or p q n, length-below-suc p n, length-below-suc q n, length-below-suc (λ (i : ℕ). p i || q i) n, length-below-suc (λ (i : ℕ). p i && q i) n, one (p n) (q n))
  where
    one : (s t : Bool) → bool_byte (s || t) + bool_byte (s && t) ≡ bool_byte s + bool_byte t
    one true true = refl
    one true false = refl
    one false true = refl
    one false false = refl

-- ---- the element with k before it: below n, a member, and of rank k

pub record Selects (p : ℕ → Bool) (n k i : ℕ) : Type 0 where
  pub bound : i < n
  pub member : p i ≡ true
  pub ranked : length (below p i) ≡ k

pub selects : (p : ℕ → Bool) (n k : ℕ) → k < length (below p n) → Selects p n k (get_or (below p n) k 0)
selects p zero k h = absurd (omega (arith, ap length (below-zero p)))
selects p (suc n) k h = pick (dec_lt k (length (below p n))) (selects p n k)
  where
    here : (t : Bool) → p n ≡ t → k ≡ length (below p n) → k < length (below p n) + bool_byte t → Selects p (suc n) k (get_or (below p n ++ cons_if t n []) k 0)
    here true e q l =
        subst (λ (i : ℕ). Selects p (suc n) k i) (sym (get_or_at (below p n) n [] 0 k (sym q))) (record { bound = omega arith; member = e; ranked = sym q })
    here false e q l = absurd (omega arith)

    pick : Dec (k < length (below p n)) → (k < length (below p n) → Selects p n k (get_or (below p n) k 0)) → Selects p (suc n) k (get_or (below p (suc n)) k 0)
    pick (yes l) ih =
        let r = ih l in
        subst (λ (i : ℕ). Selects p (suc n) k i) (sym (ap (λ (s : List ℕ). get_or s k 0) (below_snoc p n) ∙ get_or-append (below p n) (cons_if (p n) n []) 0 k l))
        (record { bound = omega (arith, r.bound); member = r.member; ranked = r.ranked })
    pick (no f) ih =
        let c : length (below p (suc n)) ≡ length (below p n) + bool_byte (p n) = length-below-suc p n in
        let b : bool_byte (p n) ≤ 1 = byte_le (p n) in
        subst (λ (s : List ℕ). Selects p (suc n) k (get_or s k 0)) (sym (below_snoc p n)) (here (p n) refl (omega arith) (omega arith))

-- the list rises
pub below_rising : (p : ℕ → Bool) (n j k : ℕ) → j < k → k < length (below p n) → get_or (below p n) j 0 < get_or (below p n) k 0
below_rising p n j k l h = go (dec_lt (get_or (below p n) j 0) (get_or (below p n) k 0))
  where
    go : Dec (get_or (below p n) j 0 < get_or (below p n) k 0) → get_or (below p n) j 0 < get_or (below p n) k 0
    go (yes a) = a
    go (no f) =
        absurd (omega (arith, (selects p n j (omega arith)).ranked, (selects p n k h).ranked, length_below_mono p (get_or (below p n) k 0) (get_or (below p n) j 0) (omega arith)))

-- a member stands at its rank
pub below-at-rank : (p : ℕ → Bool) (n i : ℕ) → i < n → p i ≡ true → get_or (below p n) (length (below p i)) 0 ≡ i
below-at-rank p n i h e =
    ap (λ (s : List ℕ). get_or s (length (below p i)) 0)
    (below-between p n ∙ between_split p 0 i n zero-le (omega arith) ∙ ap₂ (λ (s t : List ℕ). s ++ t) (sym (below-between p i)) (first p i n h e))
    ∙ get_or-append_seam (below p i) i (between p (suc i) n) 0
  where
    first : (p : ℕ → Bool) (i n : ℕ) → i < n → p i ≡ true → between p i n ≡ i ∷ between p (suc i) n
    first p i n h e = between_cons p i n h ∙ ap (λ (t : Bool). cons_if t i (between p (suc i) n)) e

-- ---- the numbers below k, and then a block of d from k on, of a test that is q there
pub below_block : (p q : ℕ → Bool) (k d : ℕ) → ((i : ℕ) → i < d → p (k + i) ≡ q i) → below p (k + d) ≡ below p k ++ map (λ (n : ℕ). k + n) (below q d)
below_block p q k d h =
    below-between p (k + d) ∙ between_split p 0 k (k + d) zero-le (omega arith)
    ∙ ap₂ (λ (s t : List ℕ). s ++ t) (sym (below-between p k)) (between_block p q k d h)

-- ---- the count of a block of d positions from k on
pub length_block : (p : ℕ → Bool) (k d : ℕ) → length (below p (k + d)) ≡ length (below p k) + length (below (λ i. p (k + i)) d)
length_block p k d =
    ap length (below-between p (k + d) ∙ between_split p 0 k (k + d) zero-le (omega arith))
    ∙ length-append (between p 0 k) (between p k (k + d))
    ∙ ap₂ (λ (a b : ℕ). a + b) (ap length (sym (below-between p k)))
    (ap length (between_block p (λ i. p (k + i)) k d (λ i l. refl)) ∙ length-map (below (λ i. p (k + i)) d) (λ (n : ℕ). k + n))

-- ---- select: the number with k of them below it, whenever there is one

pub selected-at : (p : ℕ → Bool) (n k d : ℕ) → k < count p n → selected p n k ≡ Some (get_or (below p n) k d)
unfolding selected
selected-at p n k d h = slice_get-get_or (below p n) k d h

pub selected_finds : (p : ℕ → Bool) (n k : ℕ) → k < count p n → (c : ℕ) × (selected p n k ≡ Some c) × Selects p n k c
selected_finds p n k h = (get_or (below p n) k 0, selected-at p n k 0 h, selects p n k h)

pub selected_nothing : (p : ℕ → Bool) (n k : ℕ) → count p n ≤ k → selected p n k ≡ None
unfolding selected
selected_nothing p n k h = slice_get_past (below p n) k h

pub selected_of_rank : (p : ℕ → Bool) (n c : ℕ) → c < n → p c ≡ true → selected p n (count p c) ≡ Some c
selected_of_rank p n c h e = selected-at p n (count p c) 0 (rank_lt p c n h e) ∙ ap (λ (i : ℕ). Some i) (below-at-rank p n c h e)

-- what is selected lies below n
pub selected-small : (p : ℕ → Bool) (n k c : ℕ) → Some c ≡ selected p n k → c < n
unfolding selected
selected-small p n k c e = go (dec_lt k (count p n))
  where
    value : Option ℕ → ℕ
    value None = 0
    value (Some a) = suc a

    go : Dec (k < count p n) → c < n
    go (yes h) = omega (arith, same_Some c (get_or (below p n) k 0) (e ∙ selected-at p n k 0 h), (selects p n k h).bound)
    go (no h) = let z : suc c ≡ 0 = ap value (e ∙ selected_nothing p n k (omega arith)) in absurd (omega arith)

-- two steps that agree at the numbers that pass give one fold
pub fold_below : {B : Type 0} (f g : B → ℕ → B) (p : ℕ → Bool) (n : ℕ) (s : B) → ((t : B) (i : ℕ) → i < n → p i ≡ true → f t i ≡ g t i) → foldl f s (below p n) ≡ foldl g s (below p n)
fold_below f g p zero s h = ap (foldl f s) (below-zero p) ∙ sym (ap (foldl g s) (below-zero p))
fold_below {B} f g p (suc n) s h =
    ap (foldl f s) (below_snoc p n) ∙ foldl-append f s (below p n) (cons_if (p n) n [])
    ∙ ap (λ (t : B). foldl f t (cons_if (p n) n [])) (fold_below f g p n s (λ t i l. h t i (omega arith)))
    ∙ last (p n) refl (foldl g s (below p n))
    ∙ sym (ap (foldl g s) (below_snoc p n) ∙ foldl-append g s (below p n) (cons_if (p n) n []))
  where
    last : (b : Bool) → p n ≡ b → (t : B) → foldl f t (cons_if b n []) ≡ foldl g t (cons_if b n [])
    last true e t = h t n (omega arith) e
    last false e t = refl

-- ---- two functions that agree at the numbers that pass

map-cons : {A : Type 0} (f g : ℕ → A) (b : ℕ) (l : List ℕ) (t : Bool) → (t ≡ true → f b ≡ g b) → map f l ≡ map g l → map f (cons_if t b l) ≡ map g (cons_if t b l)
map-cons {A} f g b l true e r = ap₂ (λ (x : A) (m : List A). x ∷ m) (e refl) r
map-cons {A} f g b l false e r = r

map-from : {A : Type 0} (f g : ℕ → A) (p : ℕ → Bool) (b d : ℕ) → ((i : ℕ) → b ≤ i → i < b + d → p i ≡ true → f i ≡ g i) → map f (from p b d) ≡ map g (from p b d)
unfolding from
map-from f g p b zero h = refl
map-from f g p b (suc d) h = map-cons f g b (from p (suc b) d) (p b) (h b (omega arith) (omega arith)) (map-from f g p (suc b) d (λ i l u. h i (omega arith) (omega arith)))

pub map-between : {A : Type 0} (f g : ℕ → A) (p : ℕ → Bool) (b e : ℕ) → b ≤ e → ((i : ℕ) → b ≤ i → i < e → f i ≡ g i) → map f (between p b e) ≡ map g (between p b e)
unfolding between
map-between f g p b e o h = map-from f g p b (e - b) (λ i l u k. h i l (omega arith))

pub map_below : {A : Type 0} (f g : ℕ → A) (p : ℕ → Bool) (n : ℕ) → ((i : ℕ) → i < n → p i ≡ true → f i ≡ g i) → map f (below p n) ≡ map g (below p n)
unfolding below
map_below f g p n h = map-from f g p 0 n (λ i l u. h i (omega arith))

-- ---- a function over the numbers that pass

module _ {A : Type 0} (f : ℕ → A) (p : ℕ → Bool) (n c : ℕ) (d : A) (h : c < n) (e : p c ≡ true) where
  pub at-rank : get_or (map f (below p n)) (count p c) d ≡ f c
  at-rank = get_or-map-lt f (below p n) (count p c) 0 d (rank_lt p c n h e) ∙ ap f (below-at-rank p n c h e)

  -- where it changes at c alone, the list changes at the rank of c
  pub set-rank : (g : ℕ → A) → ((i : ℕ) → (i ≡ c → ⊥) → g i ≡ f i) → set (map f (below p n)) (count p c) (g c) ≡ map g (below p n)
  set-rank g s = ext_get_or d (set (map f (below p n)) (count p c) (g c)) (map g (below p n)) (length-set (map f (below p n)) (count p c) (g c) ∙ length-map (below p n) f ∙ sym (length-map (below p n) g)) places
    where
      places : (j : ℕ) → j < length (set (map f (below p n)) (count p c) (g c)) → get_or (set (map f (below p n)) (count p c) (g c)) j d ≡ get_or (map g (below p n)) j d
      places j b = go (dec_lt j (count p c)) (dec_lt (count p c) j)
        where
          inside : j < count p n
          inside = omega (arith, length-set (map f (below p n)) (count p c) (g c), length-map (below p n) f)

          other : (j ≡ count p c → ⊥) → get_or (set (map f (below p n)) (count p c) (g c)) j d ≡ get_or (map g (below p n)) j d
          other q =
              get_or-set_other (map f (below p n)) (count p c) j (g c) d q ∙ get_or-map-lt f (below p n) j 0 d inside
              ∙ sym (s (get_or (below p n) j 0) (λ k. q (sym (selects p n j inside).ranked ∙ ap (count p) k))) ∙ sym (get_or-map-lt g (below p n) j 0 d inside)

          go : Dec (j < count p c) → Dec (count p c < j) → get_or (set (map f (below p n)) (count p c) (g c)) j d ≡ get_or (map g (below p n)) j d
          go (yes x) y = other (λ q. omega arith)
          go (no x) (yes y) = other (λ q. omega arith)
          go (no x) (no y) =
              let q : j ≡ count p c = omega arith in
              ap (λ (i : ℕ). get_or (set (map f (below p n)) (count p c) (g c)) i d) q ∙ get_or-set_same (map f (below p n)) (count p c) (g c) d (omega (arith, length-map (below p n) f, rank_lt p c n h e))
              ∙ sym (ap (λ (i : ℕ). get_or (map g (below p n)) i d) q ∙ get_or-map-lt g (below p n) (count p c) 0 d (rank_lt p c n h e) ∙ ap g (below-at-rank p n c h e))
