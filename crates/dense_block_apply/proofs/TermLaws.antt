-- The terms of one row of a block, as one number and one after the other, and the numbers of a block's rows. Assumes nothing.
use mathlib.Core.List.{List, [], ◌∷◌, ◌++◌, foldl-append}
use mathlib.Core.Path.{◌≡◌, refl, sym, ap, ap₂, ◌∙◌}
use Prim.Native.Nat.{ℕ, zero, suc, ◌+◌, ◌-◌, ◌*◌, ◌<◌}
use native.Mathlib.Nat.{add-zero}
use native.Mathlib.Numerals.{add-one}
use native.Mathlib.Omega.{arith}
use lib.ListN.{get_or, set, replicate, length-replicate}
use lib.Ieee.{Float, nan, binary64, add, mul}
use Rattle.lent.specs.Lists.{joined, each}
use Rattle.lent.proofs.LentLaws.{Filled, filled_more}
use Rattle.csr32.specs.Csr.{at}
use Rattle.dense_block_apply.specs.Product.{Width, three, six, products, term_by_term, as_one}

module _ (vals x : List Float) (v c : ℕ) where
  -- the product at place j
  abbrev term : ℕ → Float
  term j = mul binary64 (get_or vals (v + j) nan) (at x (c + j))

  products_more : (j : ℕ) → products vals x v c (j + 1) ≡ products vals x v c j ++ (term j ∷ [])
  unfolding products each joined
  products_more j = ap (products vals x v c) (add-one j)

  -- the first j terms are added to `start`, which gives s
  pub record Adding (start : Float) (j : ℕ) (s : Float) : Type 0 where
    pub is : s ≡ term_by_term start (products vals x v c j)

  pub adding_none : (start : Float) → Adding start 0 start
  unfolding products each joined term_by_term
  adding_none start = record { is = refl }

  module _ (start : Float) (j : ℕ) (s : Float) (inv : Adding start j s) where
    pub adding_more : Adding start (j + 1) (add binary64 s (term j))
    unfolding term_by_term
    adding_more = record {
      is =
          ap (λ (t : Float). add binary64 t (term j)) inv.is
          ∙ sym (ap (term_by_term start) (products_more j) ∙ foldl-append (add binary64) start (products vals x v c j) (term j ∷ []));
    }

  -- the first term
  abbrev first : Float
  first = mul binary64 (get_or vals v nan) (at x c)

  -- three and six terms as one number, written out
  pub three_terms : (a b d : Float) → a ≡ first → b ≡ term 1 → d ≡ term 2 → add binary64 (add binary64 a b) d ≡ as_one (products vals x v c 3)
  unfolding products each joined term_by_term
  three_terms a b d p q r = rw (p, q, r, add-zero v, add-zero c)

  pub six_terms : (a b d e f g : Float) → a ≡ first → b ≡ term 1 → d ≡ term 2 → e ≡ term 3 → f ≡ term 4 → g ≡ term 5
      → add binary64 (add binary64 (add binary64 (add binary64 (add binary64 a b) d) e) f) g ≡ as_one (products vals x v c 6)
  unfolding products each joined term_by_term
  six_terms a b d e f g p q r t u z = rw (p, q, r, t, u, z, add-zero v, add-zero c)

module _ (vals x : List Float) where
  -- the first product, and those after it
  products_first : (v c n : ℕ) → products vals x v c (suc n) ≡ first vals x v c ∷ products vals x (v + 1) (c + 1) n
  unfolding products each joined
  products_first v c zero = rw (add-zero v, add-zero c) refl
  products_first v c (suc n) =
      let i : v + suc n ≡ v + 1 + n = omega arith in
      let j : c + suc n ≡ c + 1 + n = omega arith in
      ap (λ (l : List Float). l ++ (term vals x v c (suc n) ∷ [])) (products_first v c n)
      ∙ ap₂ (λ (k m : ℕ). first vals x v c ∷ (products vals x (v + 1) (c + 1) n ++ (mul binary64 (get_or vals k nan) (at x m) ∷ []))) i j

  -- w terms as one number: the later ones are added to the first
  pub full_is : {w : ℕ} → Width w → (v c : ℕ) (s : Float) → s ≡ term_by_term (first vals x v c) (products vals x (v + 1) (c + 1) (w - 1)) → s ≡ as_one (products vals x v c w)
  full_is three v c s e = e ∙ sym (ap as_one (products_first v c 2))
  full_is six v c s e = e ∙ sym (ap as_one (products_first v c 5))

-- the first column of a full block by its block column, which the code has as k
pub full_column : (w : ℕ) (vals x sums : List Float) (v k C : ℕ) → k ≡ C
    → each (λ i. add binary64 (get_or sums i nan) (as_one (products vals x (v + w * i) (w * k) w))) w ≡ each (λ i. add binary64 (get_or sums i nan) (as_one (products vals x (v + w * i) (w * C) w))) w
full_column w vals x sums v k C e = ap (λ (n : ℕ). each (λ i. add binary64 (get_or sums i nan) (as_one (products vals x (v + w * i) (w * n) w))) w) e

-- ---- the rows of a block, made one after the other

module _ (f : ℕ → Float) (w i : ℕ) (z : Float) (l : List Float) (inv : Filled f (replicate w z) i l) where
  pub rows_more : (v : Float) → v ≡ f i → i < w → Filled f (replicate w z) (i + 1) (set l i v)
  rows_more v e h = filled_more f (replicate w z) i l inv v e (omega (arith, length-replicate w z))
