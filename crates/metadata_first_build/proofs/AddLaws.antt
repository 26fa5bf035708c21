-- Entries added at the ranks of their columns, in stored order. Assumes nothing.
use mathlib.Core.Bool.{Bool, true}
use mathlib.Core.List.{List, [], ◌∷◌, map, zip, zip_with}
use mathlib.Core.Path.{◌≡◌, refl, sym, ap, ap₂, ◌∙◌}
use Prim.Native.Nat.{ℕ, ◌+◌, ◌/◌, ◌%◌, ◌≤◌, ◌<◌, zero-le}
use native.Mathlib.Omega.{arith}
use lib.Dec.{eqb, ltb}
use lib.ListN.{length, get_or, take, set, replicate, length-map, length-replicate}
use lib.Ieee.{Float, nan, binary64, add}
use borrow.Author.Tests.{eq-eqb, ne_eqb}
use Rattle.hybit_core.specs.Floats.{zero64}
use Rattle.lent.specs.Lists.{every}
use Rattle.lent.proofs.ListLaws.{some-get_or}
use Rattle.word.specs.Bits.{has, below, count}
use Rattle.word.proofs.BelowLaws.{length-below-le, rank_lt, at-rank, set-rank}
use Rattle.csr32.specs.Csr.{present, merged}
use Rattle.csr32.proofs.CsrLaws.{present_columns, column_below}
use Rattle.metadata_first_merge.specs.Merge.{row_values}
use Rattle.csr32.proofs.MergedLaws.{add_if, merged-none, merged_more, firsts_all}
use Rattle.levels.specs.Ranks.{Ranks}

-- ---- the first k entries are added

module _ (n : ℕ) (cs : List ℕ) (vs : List Float) where
  pub record Adding (k : ℕ) (out : List Float) : Type 0 where
    pub inside : k ≤ length cs
    pub is : out ≡ map (merged (zip (take k cs) (take k vs))) (below (present (zip cs vs)) n)

  pub adding_none : (out : List Float) → out ≡ replicate (count (present (zip cs vs)) n) zero64 → Adding 0 out
  unfolding zip zip_with
  adding_none out e = record { inside = zero-le; is = e ∙ sym (zeros (below (present (zip cs vs)) n)) }
    where
      zeros : (l : List ℕ) → map (merged []) l ≡ replicate (length l) zero64
      zeros [] = refl
      zeros (c ∷ l) = ap₂ (λ (x : Float) (t : List Float). x ∷ t) (merged-none c) (zeros l)

  module _ (k : ℕ) (out : List Float) (inv : Adding k out) where
    long : length out ≡ count (present (zip cs vs)) n
    long = ap length inv.is ∙ length-map (below (present (zip cs vs)) n) (merged (zip (take k cs) (take k vs)))

    pub adding_same : (old : List Float) → old ≡ replicate (count (present (zip cs vs)) n) zero64 → length out ≡ length old
    adding_same old e = long ∙ sym (ap length e ∙ length-replicate (count (present (zip cs vs)) n) zero64)

    pub adding_done : length cs ≤ k → length vs ≡ length cs → out ≡ row_values n (zip cs vs)
    unfolding row_values
    adding_done h l = inv.is ∙ ap (λ (es : List (ℕ × Float)). map (merged es) (below (present (zip cs vs)) n)) (firsts_all cs vs k h l)

    -- c is the next column, and a + b the place that is read for it
    module _ (bits starts : List ℕ) (ranks : Ranks (present (zip cs vs)) n bits starts) (same : length vs ≡ length cs) (all : every (λ c. ltb c n) cs ≡ true) (h : k < length cs) (c : ℕ) (e : c ≡ get_or cs k 0) where
      pub adding_column : c < n
      adding_column = column_below n cs k c all h e

      pub adding_bits : c / 64 < length bits
      adding_bits = omega (arith, adding_column, ranks.bits_room)

      pub adding_starts : c / 64 < length starts
      adding_starts = omega (arith, adding_column, ranks.starts_room)

      there : present (zip cs vs) c ≡ true
      there = present_columns cs vs c (sym same) ∙ some-get_or (λ d. eqb d c) cs k 0 h (eq-eqb (get_or cs k 0) c (sym e))

      module _ (a b : ℕ) (ea : a ≡ get_or starts (c / 64) 0) (eb : b ≡ count (has (get_or bits (c / 64) 0)) (c % 64)) where
        ranked : a + b ≡ count (present (zip cs vs)) c
        ranked = ap₂ (λ (i j : ℕ). i + j) ea eb ∙ ranks.rank_is c adding_column there

        pub adding_fits : a + b ≤ n
        adding_fits = omega (arith, ranked, length-below-le (present (zip cs vs)) c, adding_column)

        pub adding_place : a + b < length out
        adding_place = omega (arith, ranked, long, rank_lt (present (zip cs vs)) c n adding_column there)

        pub adding_more : Adding (k + 1) (set out (a + b) (add binary64 (get_or out (a + b) nan) (get_or vs k nan)))
        adding_more =
            let p : ℕ → Bool = present (zip cs vs) in
            let f : ℕ → Float = merged (zip (take k cs) (take k vs)) in
            let g : ℕ → Float = merged (zip (take (k + 1) cs) (take (k + 1) vs)) in
            let was : get_or out (a + b) nan ≡ f c = ap₂ (λ (l : List Float) (i : ℕ). get_or l i nan) inv.is ranked ∙ at-rank f p n c nan adding_column there in
            let now : add binary64 (get_or out (a + b) nan) (get_or vs k nan) ≡ g c =
            ap (λ (x : Float). add binary64 x (get_or vs k nan)) was ∙ sym (merged_more cs vs k c c h same e ∙ ap (λ (t : Bool). add_if t (f c) (get_or vs k nan)) (eq-eqb c c refl)) in
            record {
              inside = omega arith;
              is =
                  ap (set out (a + b)) now ∙ ap₂ (λ (l : List Float) (i : ℕ). set l i (g c)) inv.is ranked
                  ∙ set-rank f p n c nan adding_column there g (λ i q. merged_more cs vs k c i h same e ∙ ap (λ (t : Bool). add_if t (f i) (get_or vs k nan)) (ne_eqb c i (λ r. q (sym r))));
            }
