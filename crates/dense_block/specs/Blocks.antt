-- Blocks (document 01, "Blocks"): the record of a plot list, and the rules of a record. One definition over the width w, which is
-- 3 or 6, serves both.
use Rattle.std.specs.Prelude.{ℕ, ◌+◌, ◌-◌, ◌*◌, ◌/◌, min, Bool, true, cond, ◌&&◌, ltb, eqb, length, Float}
use mathlib.Core.List.{List, foldl, map}
use Rattle.hybit_core.specs.Answer.{Answer, demand, ◌and_then◌}
use Rattle.hybit_core.specs.Domain.{sizes_fit}
use Rattle.hybit_core.specs.Floats.{zero64}
use Rattle.lent.specs.Lists.{joined, each, starts, part, every, some, climbs, spread}
use Rattle.word.specs.Bits.{below}
use Rattle.csr32.specs.Csr.{Csr, Entry, framed, entries, present, merged}
use Rattle.dense_block.specs.declared.DenseBlockSize.{DenseBlockSize}
use Rattle.dense_block.specs.declared.DenseBlockSize.TheVariants.{B3, B6}

abbrev pub width_of : DenseBlockSize → ℕ
width_of B3 = 3
width_of B6 = 6

-- how many blocks cover n rows or columns
abbrev pub blocks_for : ℕ → ℕ → ℕ
blocks_for w n = (n + (w - 1)) / w

-- how many of block k's w rows or columns lie inside a frame of n
abbrev pub inside : ℕ → ℕ → ℕ → ℕ
inside w n k = min w (n - w * k)

-- ---- the record of a plot list

pub record Blocks : Type 0 where
  pub rows : ℕ
  pub cols : ℕ
  pub width : ℕ
  pub ptr : List ℕ
  pub col : List ℕ
  pub vals : List Float

-- lent lists, as blocks
abbrev pub as_blocks : ℕ → ℕ → ℕ → List ℕ → List ℕ → List Float → Blocks
as_blocks n m w ps cs vs = record { rows = n; cols = m; width = w; ptr = ps; col = cs; vals = vs }

-- the entries of block row R, row after row
unfoldable pub band : Csr → ℕ → ℕ → List Entry
band m w R = joined (λ i. entries m (w * R + i)) (inside w m.rows R)

-- block place (R, C) has an entry
unfoldable pub block_has : Csr → ℕ → ℕ → ℕ → Bool
block_has m w R C = some (λ (e : Entry). eqb (e.0 / w) C) (band m w R)

-- the block columns of block row R, ascending
unfoldable pub row_blocks : Csr → ℕ → ℕ → List ℕ
row_blocks m w R = below (block_has m w R) (blocks_for w m.cols)

-- the merged value of a place, 0.0 below the last row
unfoldable pub place_value : Csr → ℕ → ℕ → Float
place_value m r c = cond (ltb r m.rows) (merged (entries m r) c) zero64

-- the values of block (R, C), row after row
unfoldable pub block_of : Csr → ℕ → ℕ → ℕ → List Float
block_of m w R C = joined (λ i. each (λ j. place_value m (w * R + i) (w * C + j)) w) w

-- one block for each block place that has an entry
unfoldable pub blocks_of : Csr → ℕ → Blocks
blocks_of m w = record {
  rows = m.rows;
  cols = m.cols;
  width = w;
  ptr = starts (row_blocks m w) (blocks_for w m.rows);
  col = joined (row_blocks m w) (blocks_for w m.rows);
  vals = joined (λ R. spread (block_of m w R) (row_blocks m w R)) (blocks_for w m.rows);
}

-- `structural_slots`: the distinct places with an entry
unfoldable pub structural_slots : Csr → ℕ
structural_slots m = length (joined (λ r. below (present (entries m r)) m.cols) m.rows)

abbrev pub sum_of : List ℕ → ℕ
sum_of l = foldl ◌+◌ 0 l

-- the places of block row R's stored blocks inside the frame
unfoldable pub row_slots : Csr → ℕ → ℕ → List ℕ
row_slots m w R = map (λ C. inside w m.rows R * inside w m.cols C) (row_blocks m w R)

-- `valid_dense_slots`: the places of the stored blocks inside the frame
unfoldable pub valid_slots : Csr → ℕ → ℕ
valid_slots m w = sum_of (joined (row_slots m w) (blocks_for w m.rows))

-- ---- the rules of a record

-- 1 finds nothing
abbrev pub block_sizes : Blocks → Bool
block_sizes b = sizes_fit b.rows b.cols (length b.col) (length b.col)

-- the block columns rise in each block row
unfoldable pub rows_climb : Blocks → Bool
rows_climb b = every (λ R. climbs 0 (part b.ptr b.col R)) (below (λ R. true) (blocks_for b.width b.rows))

-- 12 finds nothing: pointers, block columns rising in a row and inside the frame, width × width values for each block
unfoldable pub blocks_rules : Blocks → Bool
blocks_rules b =
    framed (blocks_for b.width b.rows) b.ptr (length b.col)
    && eqb (length b.vals) (length b.col * (b.width * b.width))
    && every (λ C. ltb C (blocks_for b.width b.cols)) b.col
    && rows_climb b

-- the checks of blocks: 1, 12
unfoldable pub blocks_answer : Blocks → Answer
blocks_answer b = demand (block_sizes b) 1 and_then demand (blocks_rules b) 12
