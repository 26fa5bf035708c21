-- Entries of one block merged into a row of it, in stored order. Assumes nothing.
use mathlib.Core.Bool.{Bool, true, false, cond}
use mathlib.Core.List.{List, [], ◌∷◌, ◌++◌, zip, zip_with, foldl-append}
use mathlib.Core.Path.{◌≡◌, refl, sym, ap, ap₂, ◌∙◌}
use Prim.Native.Nat.{ℕ, ◌+◌, ◌%◌, ◌≤◌, ◌<◌, zero-le}
use native.Mathlib.Nat.{mod-lt}
use native.Mathlib.Decide.{dec_lt}
use native.Mathlib.Omega.{arith}
use lib.Dec.{eqb}
use lib.ListN.{length, get_or, take, drop, set, length-set}
use lib.Seq.{take-add, get_or-set_same, get_or-set_other}
use lib.Ieee.{Float, nan, binary64, add}
use borrow.Author.Tests.{eq-eqb, ne_eqb}
use Rattle.lent.specs.Lists.{each, only, cons_if}
use Rattle.lent.proofs.ListLaws.{each_cong, only-append}
use Rattle.lent.proofs.PartLaws.{take-zip, drop-zip}
use Rattle.csr32.specs.Csr.{Entry}
use Rattle.csr32.proofs.MergedLaws.{firsts_all, zip_snoc}
use Rattle.dense_block_build.specs.Making.{add_values, in_line}

-- ---- two lists side by side, in two parts

pub zip_split : (cs : List ℕ) (vs : List Float) (k d : ℕ) → zip (take (k + d) cs) (take (k + d) vs) ≡ zip (take k cs) (take k vs) ++ zip (take d (drop k cs)) (take d (drop k vs))
zip_split cs vs k d =
    sym (take-zip (k + d) cs vs) ∙ take-add k d (zip cs vs) ∙ ap₂ (λ (s t : List Entry). s ++ t) (take-zip k cs vs) (ap (take d) (drop-zip k cs vs) ∙ take-zip d (drop k cs) (drop k vs))

-- ---- values added in stored order

pub add_none : (s : Float) → add_values s [] ≡ s
unfolding add_values
add_none s = refl

pub add-append : (s : Float) (es fs : List Entry) → add_values s (es ++ fs) ≡ add_values (add_values s es) fs
unfolding add_values
add-append s es fs = foldl-append (λ (t : Float) (e : Entry). add binary64 t e.1) s es fs

-- those that pass, of two lists
pub add-only : (p : Entry → Bool) (s : Float) (es fs : List Entry) → add_values s (only p (es ++ fs)) ≡ add_values (add_values s (only p es)) (only p fs)
add-only p s es fs = ap (add_values s) (only-append p es fs) ∙ add-append s (only p es) (only p fs)

add_snoc : (p : Entry → Bool) (s : Float) (es : List Entry) (c : ℕ) (v : Float) (t : Bool) → p (c, v) ≡ t → add_values s (only p (es ++ ((c, v) ∷ []))) ≡ cond t (add binary64 (add_values s (only p es)) v) (add_values s (only p es))
unfolding only add_values
add_snoc p s es c v t e = add-only p s es ((c, v) ∷ []) ∙ ap (λ (b : Bool). add_values (add_values s (only p es)) (cons_if b (c, v) [])) e ∙ go t
  where
    go : (b : Bool) → add_values (add_values s (only p es)) (cons_if b (c, v) []) ≡ cond b (add binary64 (add_values s (only p es)) v) (add_values s (only p es))
    go true = refl
    go false = refl

-- ---- the first k entries are merged into a row of a block of width w

-- an entry at place j of its block's columns
abbrev pub at_place : ℕ → ℕ → Entry → Bool
at_place w j e = eqb (e.0 % w) j

module _ (w : ℕ) (cs : List ℕ) (vs old : List Float) where
  pub record Merging (k : ℕ) (line : List Float) : Type 0 where
    pub room : length line ≡ 6
    pub inside : k ≤ length cs
    pub is : (j : ℕ) → j < w → get_or line j nan ≡ add_values (get_or old j nan) (only (at_place w j) (zip (take k cs) (take k vs)))

  pub merging_none : length old ≡ 6 → Merging 0 old
  unfolding zip zip_with only add_values
  merging_none e = record { room = e; inside = zero-le; is = λ j h. refl }

  module _ (k : ℕ) (line : List Float) (inv : Merging k line) (same : length vs ≡ length cs) where
    pub merging_more : (j : ℕ) → k < length cs → w ≤ 6 → 0 < w → j ≡ get_or cs k 0 % w → Merging (k + 1) (set line j (add binary64 (get_or line j nan) (get_or vs k nan)))
    merging_more j h six pos e = record { room = length-set line j (add binary64 (get_or line j nan) (get_or vs k nan)) ∙ inv.room; inside = omega arith; is = places }
      where
        new : Float
        new = add binary64 (get_or line j nan) (get_or vs k nan)

        small : j < w
        small = rw e (mod-lt (get_or cs k 0) pos)

        es : List Entry
        es = zip (take k cs) (take k vs)

        next : (i : ℕ) (t : Bool) → eqb j i ≡ t
            → add_values (get_or old i nan) (only (at_place w i) (zip (take (k + 1) cs) (take (k + 1) vs))) ≡ cond t (add binary64 (add_values (get_or old i nan) (only (at_place w i) es)) (get_or vs k nan)) (add_values (get_or old i nan) (only (at_place w i) es))
        next i t q =
            ap (λ (l : List Entry). add_values (get_or old i nan) (only (at_place w i) l)) (zip_snoc cs vs k h (omega arith))
            ∙ add_snoc (at_place w i) (get_or old i nan) es (get_or cs k 0) (get_or vs k nan) t (ap (λ (n : ℕ). eqb n i) (sym e) ∙ q)

        places : (i : ℕ) → i < w → get_or (set line j new) i nan ≡ add_values (get_or old i nan) (only (at_place w i) (zip (take (k + 1) cs) (take (k + 1) vs)))
        places i b = go (dec_lt i j) (dec_lt j i)
          where
            other : (j ≡ i → ⊥) → get_or (set line j new) i nan ≡ add_values (get_or old i nan) (only (at_place w i) (zip (take (k + 1) cs) (take (k + 1) vs)))
            other q = get_or-set_other line j i new nan (λ r. q (sym r)) ∙ inv.is i b ∙ sym (next i false (ne_eqb j i q))

            go : Dec (i < j) → Dec (j < i) → get_or (set line j new) i nan ≡ add_values (get_or old i nan) (only (at_place w i) (zip (take (k + 1) cs) (take (k + 1) vs)))
            go (yes x) y = other (λ q. omega arith)
            go (no x) (yes y) = other (λ q. omega arith)
            go (no x) (no y) =
                let q : j ≡ i = omega arith in
                ap (λ (n : ℕ). get_or (set line j new) n nan) (sym q) ∙ get_or-set_same line j new nan (omega (arith, inv.room, small))
                ∙ ap (λ (x : Float). add binary64 x (get_or vs k nan)) (ap (λ (n : ℕ). get_or line n nan) q ∙ inv.is i b) ∙ sym (next i true (eq-eqb j i q))

    pub merging_done : length cs ≤ k → each (λ j. get_or line j nan) w ≡ in_line w (zip cs vs) old
    unfolding in_line
    merging_done h =
        each_cong (λ j. get_or line j nan) (λ j. add_values (get_or old j nan) (only (at_place w j) (zip cs vs))) w
        (λ j b. inv.is j b ∙ ap (λ (l : List Entry). add_values (get_or old j nan) (only (at_place w j) l)) (firsts_all cs vs k h same))
