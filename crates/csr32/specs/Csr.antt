-- The plot list, CSR (document 01, "Plot list"): its rules, the entries of a row and what they add up to.
use Rattle.std.specs.Prelude.{ℕ, suc, ◌+◌, ◌*◌, Bool, ◌&&◌, eqb, ltb, length, get_or, Float}
use mathlib.Core.List.{List, foldl, zip}
use Rattle.std.specs.Float.{nan, binary64}
use Rattle.std.specs.Float.Ieee.{add, mul}
use Rattle.hybit_core.specs.Answer.{Answer, demand, length_is, ◌and_then◌}
use Rattle.hybit_core.specs.Domain.{sizes_fit}
use Rattle.hybit_core.specs.Floats.{zero64, finite}
use Rattle.lent.specs.Lists.{each, part, only, every, some, rises}

pub record Csr : Type 0 where
  pub rows : ℕ
  pub cols : ℕ
  pub ptr : List ℕ
  pub col : List ℕ
  pub val : List Float

-- lent lists, as a plot list
abbrev pub as_csr : ℕ → ℕ → List ℕ → List ℕ → List Float → Csr
as_csr n m ps cs vs = record { rows = n; cols = m; ptr = ps; col = cs; val = vs }

-- ---- its rules

-- pointers of so many rows into n places: rows + 1 of them, the first 0, the last n, no fall
unfoldable pub framed : ℕ → List ℕ → ℕ → Bool
framed rows ptr n = eqb (length ptr) (suc rows) && eqb (get_or ptr 0 0) 0 && eqb (get_or ptr rows 0) n && rises 0 ptr

-- the same with two lists side by side, of a and b places
unfoldable pub framed_lists : ℕ → List ℕ → ℕ → ℕ → Bool
framed_lists rows ptr a b = eqb a b && framed rows ptr b

-- 1 finds nothing
abbrev pub csr_sizes : Csr → Bool
csr_sizes m = sizes_fit m.rows m.cols (length m.col) (length m.val)

-- 2, 3, 4
unfoldable pub csr_rules : Csr → Answer
csr_rules m =
    demand (framed_lists m.rows m.ptr (length m.col) (length m.val)) 2
    and_then demand (every (λ c. ltb c m.cols) m.col) 3
    and_then demand (every finite m.val) 4

-- the checks of a plot list: 1; 2, 3, 4
unfoldable pub csr_answer : Csr → Answer
csr_answer m = demand (csr_sizes m) 1 and_then csr_rules m

-- ---- its rows

-- a stored entry: column and value
abbrev pub Entry : Type 0
Entry = ℕ × Float

-- the row's entries in stored order
unfoldable pub entries : Csr → ℕ → List Entry
entries m r = zip (part m.ptr m.col r) (part m.ptr m.val r)

-- an entry of column c
abbrev pub of_column : ℕ → Entry → Bool
of_column c e = eqb e.0 c

-- some entry has column c
unfoldable pub present : List Entry → ℕ → Bool
present es c = some (of_column c) es

-- a merged value: from 0.0, the values of column c's entries added in stored order
unfoldable pub merged : List Entry → ℕ → Float
merged es c = foldl (λ (s : Float) (e : Entry). add binary64 s e.1) zero64 (only (of_column c) es)

-- a vector at a column
abbrev pub at : List Float → ℕ → Float
at x c = get_or x c nan

-- the row product: from 0.0, value × x in stored order, each product and sum rounded once
unfoldable pub row_product : List Entry → List Float → Float
row_product es x = foldl (λ (s : Float) (e : Entry). add binary64 s (mul binary64 e.1 (at x e.0))) zero64 es

-- ---- its calls

-- apply: 1; 2, 3, 4; 6 for x; 6 for y, which is ny long
unfoldable pub apply_answer : Csr → List Float → ℕ → Answer
apply_answer m x ny = csr_answer m and_then length_is m.cols (length x) and_then length_is m.rows ny

unfoldable pub product : Csr → List Float → List Float
product m x = each (λ r. row_product (entries m r) x) m.rows

-- a pointer and a column take 4 bytes, a value 8
unfoldable pub csr_metadata_bytes : Csr → ℕ
csr_metadata_bytes m = 4 * length m.ptr + 4 * length m.col

unfoldable pub csr_storage_bytes : Csr → ℕ
csr_storage_bytes m = csr_metadata_bytes m + 8 * length m.val
