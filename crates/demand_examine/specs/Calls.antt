-- What the calls of the three routes ask, in document 01's order, and what they answer, from the matrix itself.
use Rattle.std.specs.Prelude.{ℕ, ◌&&◌, List, leb, ltb, length, get_or, Float}
use Rattle.std.specs.Float.{nan}
use Rattle.hybit_core.specs.Answer.{Answer, demand, length_is, ◌and_then◌}
use Rattle.hybit_core.specs.Domain.{few}
use Rattle.word.specs.Bits.{ceil64}
use Rattle.mask.specs.Mask.{Mask, active, mask_rules, all_active}
use Rattle.csr32.specs.Csr.{Csr, csr_sizes, csr_rules, entries, present, merged, at, product}
use Rattle.csr32.specs.Made.{CsrRoom, fits_csr}
use Rattle.metadata_first.specs.declared.AbtmRowDot.{AbtmRowDot}
use Rattle.metadata_first.specs.Dot.{dot_of}
use Rattle.metadata_first_merge.specs.Merge.{merged_finite}
use Rattle.metadata_first_build.specs.Pack.{StoreRoom, store_of, fits_store}
use Rattle.abtm.specs.declared.AbtmConfig.{AbtmConfig}
use Rattle.abtm.specs.Calls.{threshold_answer}
use Rattle.abtm_build.specs.Build.{TileRoom, tiles_from, fits_tiles}
use Rattle.restricted.specs.Restricted.{restricted, restricted_tiles}

-- the records: 1; 2, 3, 4; 5
unfoldable pub records_answer : Csr → Mask → Answer
records_answer m a = demand (few a.size && csr_sizes m) 1 and_then csr_rules m and_then demand (mask_rules a) 5

-- the question to row r: 6 the mask's length; 6 the vector's; 7; 4 for an infinite merged value, in any row: demand 3 speaks of
-- matrices that packing accepts
unfoldable pub question_answer : Csr → Mask → List Float → ℕ → Answer
question_answer m a x r =
    length_is m.cols a.size
    and_then length_is m.cols (length x)
    and_then demand (ltb r m.rows) 7
    and_then demand (merged_finite m) 4

-- ---- packing and the dot

unfoldable pub pruned_answer : Csr → Mask → List Float → ℕ → StoreRoom → Answer
pruned_answer m a x r room = records_answer m a and_then question_answer m a x r and_then demand (fits_store (store_of m) room) 13

-- the report of row r, from the matrix itself
unfoldable pub row_dot : Csr → Mask → List Float → ℕ → AbtmRowDot
row_dot m a x r = dot_of m.cols (present (entries m r)) (merged (entries m r)) (active a) (at x)

-- ---- restricting, packing, and the dot with every plot active, whose mask goes into a list of n places

unfoldable pub restricted_fits : Csr → Mask → CsrRoom → ℕ → StoreRoom → Answer
restricted_fits m a rc n rp = demand (fits_csr (restricted m a) rc && leb (ceil64 m.cols) n && fits_store (store_of (restricted m a)) rp) 13

unfoldable pub restricted_answer : Csr → Mask → List Float → ℕ → CsrRoom → ℕ → StoreRoom → Answer
restricted_answer m a x r rc n rp = records_answer m a and_then question_answer m a x r and_then restricted_fits m a rc n rp

unfoldable pub restricted_row_dot : Csr → Mask → List Float → ℕ → AbtmRowDot
restricted_row_dot m a x r = row_dot (restricted m a) (all_active m.cols) x r

-- ---- tiles, restricting from them, and the row product, in a list of n places

unfoldable pub tiled_fits : Csr → Mask → AbtmConfig → TileRoom → CsrRoom → ℕ → Answer
tiled_fits m a h rt rc n = demand (fits_tiles (tiles_from m h) rt && fits_csr (restricted_tiles (tiles_from m h) a) rc && leb m.rows n) 13

-- with 9 for the thresholds after the other records
unfoldable pub tiled_answer : Csr → Mask → AbtmConfig → List Float → ℕ → TileRoom → CsrRoom → ℕ → Answer
tiled_answer m a h x r rt rc n = records_answer m a and_then threshold_answer h and_then question_answer m a x r and_then tiled_fits m a h rt rc n

unfoldable pub tiled_row_product : Csr → Mask → AbtmConfig → List Float → ℕ → Float
tiled_row_product m a h x r = get_or (product (restricted_tiles (tiles_from m h) a) x) r nan
