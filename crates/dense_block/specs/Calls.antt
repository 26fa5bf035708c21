-- The figures of blocks (document 01, "Blocks"), and what a build of them answers.
use Rattle.std.specs.Prelude.{ℕ, ◌+◌, ◌*◌, ◌/◌, Bool, ◌&&◌, leb, length, Float}
use Rattle.hybit_core.specs.Answer.{Answer, Given, demand, answers, ◌and_then◌}
use Rattle.hybit_core.specs.Domain.{saturated}
use Rattle.hybit_core.specs.Floats.{ratio_of}
use Rattle.lent.specs.Lists.{joined, part, only}
use Rattle.csr32.specs.Csr.{Csr, csr_answer}
use Rattle.csr32.specs.Made.{CsrRoom}
use Rattle.dense_block.specs.Blocks.{Blocks, blocks_for, blocks_of, structural_slots, valid_slots, blocks_answer}
use Rattle.dense_block.specs.declared.DenseBlocks.{DenseBlocks}

-- ---- a build's answer

-- the numbers of a plot list's blocks
unfoldable pub figures_of : Csr → ℕ → DenseBlocks
figures_of m w = record {
  nrows = m.rows;
  ncols = m.cols;
  block_rows = blocks_for w m.rows;
  unique_blocks = length (blocks_of m w).col;
  dense_value_slots = length (blocks_of m w).vals;
  structural_slots = structural_slots m;
  valid_dense_slots = valid_slots m w;
}

-- where the blocks stand: 1; 2, 3, 4; 13, with np places for pointers and nc for block columns
unfoldable pub columns_answer : Csr → ℕ → ℕ → ℕ → Answer
columns_answer m w np nc = csr_answer m and_then demand (leb (length (blocks_of m w).ptr) np && leb (length (blocks_of m w).col) nc) 13

-- 13 finds nothing
unfoldable pub fits_blocks : Blocks → CsrRoom → Bool
fits_blocks b room = leb (length b.ptr) room.ptr && leb (length b.col) room.col && leb (length b.vals) room.val

-- from_csr32: 1; 2, 3, 4; 13
unfoldable pub build_blocks_answer : Csr → ℕ → CsrRoom → Answer
build_blocks_answer m w room = csr_answer m and_then demand (fits_blocks (blocks_of m w) room) 13

-- ---- figures

-- distinct places with an entry ÷ places of the stored blocks inside the frame, 0.0 without any
abbrev pub block_fill : DenseBlocks → Float
block_fill s = ratio_of s.structural_slots s.valid_dense_slots

-- stored values ÷ distinct places with an entry, 0.0 without any
abbrev pub value_padding : DenseBlocks → Float
value_padding s = ratio_of s.dense_value_slots s.structural_slots

-- a pointer and a block column take 4 bytes, a value 8
abbrev pub block_metadata_bytes : DenseBlocks → ℕ
block_metadata_bytes s = saturated (4 * (s.block_rows + 1) + 4 * s.unique_blocks)

abbrev pub block_storage_bytes : DenseBlocks → ℕ
block_storage_bytes s = saturated (4 * (s.block_rows + 1) + 4 * s.unique_blocks + 8 * s.dense_value_slots)

-- the blocks wholly inside the frame
unfoldable pub fast_blocks : Blocks → ℕ
fast_blocks b = length (joined (λ R. only (λ C. leb (b.width * C + b.width) b.cols) (part b.ptr b.col R)) (b.rows / b.width))

-- `fast_block_fraction`: those ÷ all blocks, 0.0 without blocks
abbrev pub fast_fraction : Blocks → Float
fast_fraction b = ratio_of (fast_blocks b) (length b.col)

abbrev pub fast_answer : Blocks → Given Float
fast_answer b = answers (blocks_answer b) (fast_fraction b)
