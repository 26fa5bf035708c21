-- Restricted lists (document 01, "Restricted and local lists"): a plot list cut to the active columns, numbered as before.
use Rattle.std.specs.Prelude.{ℕ, ◌+◌, ◌*◌, ◌&&◌, length, Float}
use Rattle.hybit_core.specs.Answer.{Answer, demand, length_is, ◌and_then◌}
use Rattle.hybit_core.specs.Domain.{few, many, saturated}
use Rattle.hybit_core.specs.Floats.{finite, ratio_of}
use Rattle.lent.specs.Lists.{every}
use Rattle.word.specs.Bits.{ceil64}
use Rattle.mask.specs.Mask.{Mask, active, mask_rules}
use Rattle.csr32.specs.Csr.{Csr, csr_sizes, csr_rules, entries}
use Rattle.csr32.specs.Made.{entries_in, csr_of, CsrRoom, fits_csr, csr_left}
use Rattle.abtm.specs.Tiles.{Tiles, tile_sizes, tiles_rules, tile_entries}
use Rattle.restricted.specs.declared.ColumnRestriction.{ColumnRestriction}

-- ---- from CSR

-- the entries in active columns, in stored order
unfoldable pub restricted : Csr → Mask → Csr
restricted m a = csr_of m.rows m.cols (λ r. entries_in (active a) (entries m r))

-- from_csr32: 1; 2, 3, 4; 5; 6; 13
unfoldable pub restrict_answer : Csr → Mask → CsrRoom → Answer
restrict_answer m a room =
    demand (few a.size && csr_sizes m) 1
    and_then csr_rules m
    and_then demand (mask_rules a) 5
    and_then length_is m.cols a.size
    and_then demand (fits_csr (restricted m a) room) 13

-- the list that the build leaves, handed on by its used part
abbrev pub restricted_left : Csr → Mask → CsrRoom → Csr
restricted_left m a room = csr_left (restrict_answer m a room) (restricted m a) room

-- ---- from tiles

-- the present active columns with their values, ascending
unfoldable pub restricted_tiles : Tiles → Mask → Csr
restricted_tiles t a = csr_of t.rows t.cols (λ r. entries_in (active a) (tile_entries t r))

-- from_abtm: 1; 12; 5; 6; 4 for an infinite active value; 1 for more than 2^24 entries kept; 13
unfoldable pub restrict_tiles_answer : Tiles → Mask → CsrRoom → Answer
restrict_tiles_answer t a room =
    demand (few a.size && tile_sizes t) 1
    and_then demand (tiles_rules t) 12
    and_then demand (mask_rules a) 5
    and_then length_is t.cols a.size
    and_then demand (every finite (restricted_tiles t a).val) 4
    and_then demand (many (length (restricted_tiles t a).val)) 1
    and_then demand (fits_csr (restricted_tiles t a) room) 13

abbrev pub restricted_tiles_left : Tiles → Mask → CsrRoom → Csr
restricted_tiles_left t a room = csr_left (restrict_tiles_answer t a room) (restricted_tiles t a) room

-- ---- its numbers

-- the source count: the source's stored entries, or `matrix_nnz` from tiles; beside it the entries kept
unfoldable pub restriction_of : Csr → Mask → ColumnRestriction
restriction_of m a = record { nrows = m.rows; ncols = m.cols; source_nnz = length m.val; retained_nnz = length (restricted m a).val }

unfoldable pub tile_restriction_of : Tiles → Mask → ColumnRestriction
tile_restriction_of t a = record { nrows = t.rows; ncols = t.cols; source_nnz = t.nnz; retained_nnz = length (restricted_tiles t a).val }

-- kept ÷ source in f64, 0.0 without a source entry
abbrev pub retained_fraction : ColumnRestriction → Float
retained_fraction s = ratio_of s.retained_nnz s.source_nnz

-- a pointer and a column take 4 bytes, a value and a word of the mask 8
abbrev pub restriction_bytes : ColumnRestriction → ℕ
restriction_bytes s = saturated (4 * (s.nrows + 1) + 12 * s.retained_nnz + 8 * ceil64 s.ncols)
