-- Rows of one length, one after the other; a row of a block copied in and out. Assumes nothing.
use mathlib.Core.List.{List, [], ◌∷◌, ◌++◌}
use mathlib.Core.Path.{◌≡◌, refl, sym, ap, ap₂, ◌∙◌}
use Prim.Native.Nat.{ℕ, zero, suc, ◌+◌, ◌*◌, ◌/◌, ◌%◌, ◌≤◌, ◌<◌}
use native.Mathlib.Nat.{mul-zero, mul-suc, mod-lt, div-add-mod, div-lt_iff_lt-mul}
use native.Mathlib.Numerals.{add-one}
use native.Mathlib.Omega.{arith}
use lib.ListN.{length, get_or, take, set, length-set, length-append, get_or-append}
use lib.Seq.{take-suc, take_all, length-take-le, get_or-take, get_or-set_same, get_or-set_other}
use lib.Ieee.{Float, nan}
use Rattle.lent.specs.Lists.{joined, each}
use Rattle.lent.proofs.ListLaws.{get_or-joined, joined_cong, each_is}

-- ---- rows of one length, one after the other

module _ {A : Type 0} (f : ℕ → List A) (w : ℕ) (even : (i : ℕ) → length (f i) ≡ w) where
  pub even_length : (n : ℕ) → length (joined f n) ≡ w * n
  unfolding joined
  even_length zero = sym (mul-zero w)
  even_length (suc n) = length-append (joined f n) (f n) ∙ ap₂ (λ (a b : ℕ). a + b) (even_length n) (even n) ∙ sym (mul-suc w n)

  pub even_at : (n q : ℕ) (d : A) → 0 < w → q < n * w → get_or (joined f n) q d ≡ get_or (f (q / w)) (q % w) d
  even_at n q d pos h =
      let e : length (joined f (q / w)) + q % w ≡ q = ap (λ (m : ℕ). m + q % w) (even_length (q / w)) ∙ div-add-mod q w in
      let r : q / w < n = (div-lt_iff_lt-mul {k = w} {x = q} {y = n} pos).1 h in
      ap (λ (m : ℕ). get_or (joined f n) m d) (sym e) ∙ get_or-joined f (q / w) n (q % w) d r (rw even (mod-lt q pos))

-- one more element of a list is stored: what is made of the elements, one after the other
joined-set : {A B : Type 0} (g : A → List B) (l : List A) (n : ℕ) (x d : A) → n < length l → joined (λ i. g (get_or (set l n x) i d)) (suc n) ≡ joined (λ i. g (get_or l i d)) n ++ g x
unfolding joined
joined-set g l n x d h =
    ap₂ (λ (s t : List _). s ++ t) (joined_cong (λ i. g (get_or (set l n x) i d)) (λ i. g (get_or l i d)) n (λ i b. ap g (get_or-set_other l n i x d (λ q. omega arith))))
    (ap g (get_or-set_same l n x d h))

-- ---- a row of a block is copied in, number by number

pub record LineIn (values line : List Float) (j : ℕ) : Type 0 where
  pub room : length line ≡ 6
  pub is : each (λ i. get_or line i nan) j ≡ take j values

module _ (values : List Float) where
  pub line_none : (line : List Float) → length line ≡ 6 → LineIn values line 0
  unfolding each joined
  line_none line e = record { room = e; is = refl }

  module _ (line : List Float) (j : ℕ) (inv : LineIn values line j) where
    pub line_more : (v : Float) → v ≡ get_or values j nan → j < 6 → j < length values → LineIn values (set line j v) (j + 1)
    unfolding each
    line_more v e h l = record {
      room = length-set line j v ∙ inv.room;
      is =
          ap (each (λ i. get_or (set line j v) i nan)) (add-one j) ∙ joined-set (λ (x : Float). x ∷ []) line j v nan (omega (arith, inv.room))
          ∙ ap₂ (λ (s : List Float) (x : Float). s ++ x ∷ []) inv.is e ∙ sym (ap (λ (k : ℕ). take k values) (add-one j) ∙ take-suc values j nan l);
    }

    pub line_done : (w : ℕ) → j ≤ w → w ≤ j → length values ≡ w → each (λ i. get_or line i nan) w ≡ values
    line_done w a b l =
        let q : w ≡ j = omega arith in
        ap (each (λ i. get_or line i nan)) q ∙ inv.is ∙ take_all j values (omega arith)

-- ---- a row of a block is copied in and out

pub line_loaded : (values new rest : List Float) (w : ℕ) → length values ≡ w → new ≡ values → each (λ j. get_or (new ++ rest) j nan) w ≡ values
line_loaded values new rest w e h = sym (each_is nan (λ j. get_or (new ++ rest) j nan) w values e (λ k b. sym (ap (λ (l : List Float). get_or (l ++ rest) k nan) h ∙ get_or-append values rest nan k (omega (arith, e)))))

pub line_stored : (line : List Float) (w : ℕ) → w ≤ length line → take w line ≡ each (λ j. get_or line j nan) w
line_stored line w h = each_is nan (λ j. get_or line j nan) w (take w line) (length-take-le w line h) (λ k b. get_or-take w line k nan b)
