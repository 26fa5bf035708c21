-- Laws of merged values: one entry more, columns without an entry, and finite merged values by columns and row after row. Assumes nothing.
use mathlib.Core.Bool.{Bool, true, false, not}
use mathlib.Core.List.{List, ◌++◌, zip}
use mathlib.Core.Path.{◌≡◌, refl, sym, ap, ◌∙◌}
use Prim.Native.Nat.{ℕ, ◌+◌, ◌≤◌, ◌<◌}
use native.Mathlib.Numerals.{add-one}
use native.Mathlib.Omega.{arith}
use lib.Dec.{ltb}
use lib.ListN.{length}
use lib.Ieee.{Float}
use borrow.Author.Tests.{ltb-true}
use Rattle.hybit_core.specs.Answer.{accepted}
use Rattle.hybit_core.specs.Floats.{finite}
use Rattle.hybit_core.proofs.BoolLaws.{same_test, not-both, flag_on, flag_off}
use Rattle.lent.specs.Lists.{joined, part, every}
use Rattle.lent.proofs.ListLaws.{every_append, every_front, every_back, every_map, joined_at, every-at, every-listed}
use Rattle.word.specs.Bits.{below}
use Rattle.word.proofs.BitLaws.{every-below, every-below-at}
use Rattle.csr32.specs.Csr.{Csr, csr_answer, entries, present, merged}
use Rattle.csr32.proofs.CsrLaws.{present_columns}
use Rattle.metadata_first_merge.specs.Merge.{row_values, merged_finite}

-- accepted for packing, apart from the lent lists
pub record Packable (m : Csr) : Type 0 where
  pub list : csr_answer m ≡ accepted
  pub finites : merged_finite m ≡ true

-- ---- the merged values of a row's columns are its row values

module _ (n : ℕ) (cs : List ℕ) (vs : List Float) (same : length vs ≡ length cs) (inside : every (λ c. ltb c n) cs ≡ true) where
  pub row_finite : every (λ c. finite (merged (zip cs vs) c)) cs ≡ every finite (row_values n (zip cs vs))
  unfolding row_values
  row_finite =
      same_test _ _
      (λ e. every_map finite (merged (zip cs vs)) (below (present (zip cs vs)) n)
      ∙ every-below (λ c. finite (merged (zip cs vs) c)) (present (zip cs vs)) n (λ c h s. every-at (λ c. finite (merged (zip cs vs) c)) cs c e (sym (present_columns cs vs c (sym same)) ∙ s)))
      (λ e. every-listed (λ c. finite (merged (zip cs vs) c)) cs
      (λ c s. every-below-at (λ c. finite (merged (zip cs vs) c)) (present (zip cs vs)) n c (sym (every_map finite (merged (zip cs vs)) (below (present (zip cs vs)) n)) ∙ e)
      (ltb-true c n (every-at (λ c. ltb c n) cs c inside s)) (present_columns cs vs c (sym same) ∙ s)))

-- ---- row after row

-- the rows before r have finite merged values
pub record RowsFinite (m : Csr) (r : ℕ) : Type 0 where
  pub is : every finite (joined (λ i. row_values m.cols (entries m i)) r) ≡ true

module _ (m : Csr) where
  pub rows_none : RowsFinite m 0
  unfolding joined every
  rows_none = record { is = refl }

  pub rows_done : (r : ℕ) → RowsFinite m r → r ≤ m.rows → m.rows ≤ r → true ≡ merged_finite m
  unfolding merged_finite
  rows_done r inv h k = let e : r ≡ m.rows = omega arith in sym (ap (λ (n : ℕ). every finite (joined (λ i. row_values m.cols (entries m i)) n)) (sym e) ∙ inv.is)

  -- one row of finite merged values
  pub merged_row : (r : ℕ) → merged_finite m ≡ true → r < m.rows → every finite (row_values m.cols (entries m r)) ≡ true
  unfolding merged_finite
  merged_row r e h =
      let f : ℕ → List Float = λ i. row_values m.cols (entries m i) in
      let w = joined_at f r m.rows h in
      every_back finite (joined f r) (f r) (every_front finite (joined f r ++ f r) w.0 (sym (ap (every finite) w.1) ∙ e))

  -- t is the answer for row r, whose columns and values are cs and vs
  module _ (r n : ℕ) (cs : List ℕ) (vs : List Float) (o : n ≡ m.cols) (p : cs ≡ part m.ptr m.col r) (q : vs ≡ part m.ptr m.val r) (t : Bool) (e : t ≡ every finite (row_values n (zip cs vs))) where
    row_answer_lem : t ≡ every finite (row_values m.cols (entries m r))
    unfolding entries
    row_answer_lem = rw (← o, ← p, ← q) e

    pub rows_more : RowsFinite m r → not t ≡ false → RowsFinite m (r + 1)
    unfolding joined
    rows_more inv f =
        record {
          is = ap (λ (n : ℕ). every finite (joined (λ i. row_values m.cols (entries m i)) n)) (add-one r)
              ∙ every_append finite (joined (λ i. row_values m.cols (entries m i)) r) (row_values m.cols (entries m r)) inv.is (sym (flag_on (every finite (row_values m.cols (entries m r))) t row_answer_lem f));
        }

    pub rows_fails : r < m.rows → not t ≡ true → false ≡ merged_finite m
    rows_fails h f = go (merged_finite m) refl
      where
        go : (s : Bool) → merged_finite m ≡ s → false ≡ s
        go true x = not-both (every finite (row_values m.cols (entries m r))) (merged_row r x h) (sym (flag_off (every finite (row_values m.cols (entries m r))) t row_answer_lem f))
        go false x = refl
