-- What holds of the blocks of an accepted plot list: the check of blocks accepts them, and each block row lists exactly the block
-- columns that have an entry. Assumes nothing.
use mathlib.Core.Bool.{Bool, true}
use mathlib.Core.Path.{◌≡◌, refl, ap, ap₂, ◌∙◌}
use Prim.Native.Nat.{ℕ, ◌*◌, ◌^◌, ◌≤◌, ◌<◌}
use native.Mathlib.Nat.{le_refl}
use native.Mathlib.Omega.{arith}
use lib.Dec.{eqb, ltb}
use lib.ListN.{length}
use borrow.Author.Tests.{eq-eqb, le-leb, lt-ltb}
use Rattle.hybit_core.specs.Answer.{accepted, demand, ◌and_then◌}
use Rattle.hybit_core.specs.Domain.{few, many, sizes_fit}
use Rattle.hybit_core.proofs.BoolLaws.{and-four}
use Rattle.lent.specs.Lists.{joined, part, every, climbs}
use Rattle.lent.proofs.ListLaws.{part-joined, every-joined}
use Rattle.word.proofs.BitLaws.{every-below, climbs-below}
use Rattle.csr32.specs.Csr.{Csr, csr_answer, framed}
use Rattle.csr32.proofs.FrameLaws.{framed-starts}
use Rattle.csr32.proofs.CsrLaws.{Valid, valid}
use Rattle.dense_block.specs.Blocks.{Blocks, width_of, blocks_for, block_has, row_blocks, blocks_of, block_sizes, rows_climb, blocks_rules, blocks_answer}
use Rattle.dense_block.specs.declared.DenseBlockSize.{DenseBlockSize}
use Rattle.dense_block_columns.proofs.BandLaws.{blocks_most}
use Rattle.dense_block_build.proofs.FillLaws.{vals-count}

-- ---- blocks of any width

module _ (m : Csr) (w : ℕ) where
  -- the block columns of block row R, by the pointers
  pub built_blocks : (R : ℕ) → R < blocks_for w m.rows → part (blocks_of m w).ptr (blocks_of m w).col R ≡ row_blocks m w R
  unfolding blocks_of
  built_blocks R h = part-joined (row_blocks m w) (row_blocks m w) (blocks_for w m.rows) R (λ r. refl) h

  pointers_hold_lem : framed (blocks_for w m.rows) (blocks_of m w).ptr (length (blocks_of m w).col) ≡ true
  unfolding blocks_of
  pointers_hold_lem = framed-starts (row_blocks m w) (blocks_for w m.rows) (length (joined (row_blocks m w) (blocks_for w m.rows))) refl

  columns_hold_lem : every (λ C. ltb C (blocks_for w m.cols)) (blocks_of m w).col ≡ true
  unfolding blocks_of row_blocks
  columns_hold_lem =
      every-joined (λ C. ltb C (blocks_for w m.cols)) (row_blocks m w) (blocks_for w m.rows)
      (λ R l. every-below (λ C. ltb C (blocks_for w m.cols)) (block_has m w R) (blocks_for w m.cols) (λ C k e. lt-ltb C (blocks_for w m.cols) k))

  row_climbs : (R : ℕ) → climbs 0 (row_blocks m w R) ≡ true
  unfolding row_blocks
  row_climbs R = climbs-below (block_has m w R) (blocks_for w m.cols)

  rows-climb : rows_climb (blocks_of m w) ≡ true
  unfolding rows_climb blocks_of
  rows-climb =
      every-below (λ R. climbs 0 (part (blocks_of m w).ptr (blocks_of m w).col R)) (λ R. true) (blocks_for w m.rows) (λ R l e. ap (climbs 0) (built_blocks R l) ∙ row_climbs R)

-- ---- blocks of width 3 or 6

module _ (s : DenseBlockSize) (m : Csr) where
  abbrev made : Blocks
  made = blocks_of m (width_of s)

  rules_hold : blocks_rules (blocks_of m (width_of s)) ≡ true
  unfolding blocks_rules blocks_of
  rules_hold =
      and-four (framed (blocks_for (width_of s) m.rows) made.ptr (length made.col)) (eqb (length made.vals) (length made.col * (width_of s * width_of s)))
      (every (λ C. ltb C (blocks_for (width_of s) m.cols)) made.col) (rows_climb made) (pointers_hold_lem m (width_of s))
      (eq-eqb (length made.vals) (length made.col * (width_of s * width_of s)) (vals-count m s)) (columns_hold_lem m (width_of s)) (rows-climb m (width_of s))

  module _ (e : csr_answer m ≡ accepted) where
    ok : Valid m
    ok = valid m e

    blocks_in : length (blocks_of m (width_of s)).col ≤ 2 ^ 24
    unfolding blocks_of
    blocks_in = omega (arith, blocks_most ok s (blocks_for (width_of s) m.rows) (le_refl (blocks_for (width_of s) m.rows)), ok.entries_in)

    sizes_hold : block_sizes (blocks_of m (width_of s)) ≡ true
    unfolding sizes_fit blocks_of
    sizes_hold =
        let n : ℕ = length made.col in
        let b : many n ≡ true = le-leb n (2 ^ 24) blocks_in in
        and-four (few m.rows) (few m.cols) (many n) (many n) (le-leb m.rows (2 ^ 20) ok.rows_in) (le-leb m.cols (2 ^ 20) ok.cols_in) b b

    -- the check of blocks accepts them
    pub built_accepted : blocks_answer (blocks_of m (width_of s)) ≡ accepted
    unfolding blocks_answer
    built_accepted = ap₂ (λ (x y : Bool). demand x 1 and_then demand y 12) sizes_hold rules_hold
