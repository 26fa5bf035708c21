-- What each answer is as a struct of the C interface: 0, 0, 0 and the result when accepted; the refusal's number, expected and
-- actual, and zeros for the result, where refused ("A refusal brings no result; a field beside it is 0").
use Rattle.std.specs.Prelude.{ℕ, Option, Some, None, ◌+◌, Bool, true, false, List, Float, get_or}
use Rattle.hybit_core.specs.Answer.{Answer, accepted, refused, Given, gives, refuses}
use Rattle.hybit_core.specs.Floats.{zero64}
use Rattle.topology.specs.declared.TopologySize.{TopologySize}
use Rattle.topology.specs.declared.AbtmTopologyStats.{AbtmTopologyStats}
use Rattle.metadata_first.specs.declared.AbtmMetadataFirstStats.{AbtmMetadataFirstStats}
use Rattle.metadata_first.specs.declared.AbtmRowDot.{AbtmRowDot}
use Rattle.metadata_first.specs.declared.AbtmProductPruningStats.{AbtmProductPruningStats}
use Rattle.abtm.specs.declared.AbtmConfig.{AbtmConfig}
use Rattle.abtm_build.specs.declared.TilesSize.{TilesSize}
use Rattle.abtm_rows.specs.declared.AbtmStats.{AbtmStats}
use Rattle.restricted.specs.declared.ColumnRestriction.{ColumnRestriction}
use Rattle.restricted.specs.declared.LocalRegion.{LocalRegion}
use Rattle.dense_block.specs.declared.DenseBlockSize.{DenseBlockSize}
use Rattle.dense_block.specs.declared.DenseBlockSize.TheVariants.{B3, B6}
use Rattle.dense_block.specs.declared.DenseBlocks.{DenseBlocks}
use Rattle.denimrasp_answers.specs.declared.DenimraspVerdict.{DenimraspVerdict}
use Rattle.denimrasp_answers.specs.declared.DenimraspCount.{DenimraspCount}
use Rattle.denimrasp_answers.specs.declared.DenimraspBool.{DenimraspBool}
use Rattle.denimrasp_answers.specs.declared.DenimraspSelect.{DenimraspSelect}
use Rattle.denimrasp_answers.specs.declared.DenimraspPart.{DenimraspPart}
use Rattle.denimrasp_answers.specs.declared.DenimraspTopology.{DenimraspTopology}
use Rattle.denimrasp_answers.specs.declared.DenimraspTopologyStats.{DenimraspTopologyStats}
use Rattle.denimrasp_answers.specs.declared.DenimraspStoreStats.{DenimraspStoreStats}
use Rattle.denimrasp_answers.specs.declared.DenimraspDot.{DenimraspDot}
use Rattle.denimrasp_answers.specs.declared.DenimraspTotals.{DenimraspTotals}
use Rattle.denimrasp_answers.specs.declared.DenimraspTiles.{DenimraspTiles}
use Rattle.denimrasp_answers.specs.declared.DenimraspTileStats.{DenimraspTileStats}
use Rattle.denimrasp_answers.specs.declared.DenimraspRestriction.{DenimraspRestriction}
use Rattle.denimrasp_answers.specs.declared.DenimraspRegion.{DenimraspRegion}
use Rattle.denimrasp_answers.specs.declared.DenimraspBlocks.{DenimraspBlocks}
use Rattle.denimrasp_answers.specs.declared.DenimraspRatio.{DenimraspRatio}

abbrev pub verdict_of : Answer → DenimraspVerdict
verdict_of accepted = record { number = 0; expected = 0; actual = 0 }
verdict_of (refused t) = record { number = t.number; expected = t.expected; actual = t.actual }

abbrev pub count_of : Given ℕ → DenimraspCount
count_of (gives n) = record { number = 0; expected = 0; actual = 0; count = n }
count_of (refuses t) = record { number = t.number; expected = t.expected; actual = t.actual; count = 0 }

abbrev pub bool_of : Given Bool → DenimraspBool
bool_of (gives b) = record { number = 0; expected = 0; actual = 0; is = b }
bool_of (refuses t) = record { number = t.number; expected = t.expected; actual = t.actual; is = false }

abbrev pub select_of : Given (Option ℕ) → DenimraspSelect
select_of (gives (Some c)) = record { number = 0; expected = 0; actual = 0; found = true; column = c }
select_of (gives None) = record { number = 0; expected = 0; actual = 0; found = false; column = 0 }
select_of (refuses t) = record { number = t.number; expected = t.expected; actual = t.actual; found = false; column = 0 }

-- where row r of a list starts and ends, by its pointers
unfoldable pub places_of : List ℕ → ℕ → ℕ × ℕ
places_of ptr r = (get_or ptr r 0, get_or ptr (r + 1) 0)

-- a part of a lent list, by its first place and the place past its last
abbrev pub part_of : Given (ℕ × ℕ) → DenimraspPart
part_of (gives p) = record { number = 0; expected = 0; actual = 0; start = p.0; end = p.1 }
part_of (refuses t) = record { number = t.number; expected = t.expected; actual = t.actual; start = 0; end = 0 }

abbrev pub topology_answer_of : Given TopologySize → DenimraspTopology
topology_answer_of (gives u) = record { number = 0; expected = 0; actual = 0; words = u.words; structural_nnz = u.structural_nnz }
topology_answer_of (refuses t) = record { number = t.number; expected = t.expected; actual = t.actual; words = 0; structural_nnz = 0 }

abbrev pub topology_stats_of : Given AbtmTopologyStats → DenimraspTopologyStats
topology_stats_of (gives s) = record {
  number = 0;
  expected = 0;
  actual = 0;
  nrows = s.nrows;
  ncols = s.ncols;
  structural_nnz = s.structural_nnz;
  nonempty_words = s.nonempty_words;
  metadata_bytes = s.metadata_bytes;
}
topology_stats_of (refuses t) = record {
  number = t.number;
  expected = t.expected;
  actual = t.actual;
  nrows = 0;
  ncols = 0;
  structural_nnz = 0;
  nonempty_words = 0;
  metadata_bytes = 0;
}

abbrev pub store_stats_of : Given AbtmMetadataFirstStats → DenimraspStoreStats
store_stats_of (gives s) = record {
  number = 0;
  expected = 0;
  actual = 0;
  nrows = s.nrows;
  ncols = s.ncols;
  structural_nnz = s.structural_nnz;
  topology_metadata_bytes = s.topology_metadata_bytes;
  value_row_ptr_bytes = s.value_row_ptr_bytes;
  packed_value_bytes = s.packed_value_bytes;
}
store_stats_of (refuses t) = record {
  number = t.number;
  expected = t.expected;
  actual = t.actual;
  nrows = 0;
  ncols = 0;
  structural_nnz = 0;
  topology_metadata_bytes = 0;
  value_row_ptr_bytes = 0;
  packed_value_bytes = 0;
}

abbrev pub dot_answer_of : Given AbtmRowDot → DenimraspDot
dot_answer_of (gives d) = record {
  number = 0;
  expected = 0;
  actual = 0;
  sum = d.sum;
  candidate_products = d.candidate_products;
  executed_products = d.executed_products;
  skipped_products = d.skipped_products;
  topology_words = d.topology_words;
  active_words = d.active_words;
}
dot_answer_of (refuses t) = record {
  number = t.number;
  expected = t.expected;
  actual = t.actual;
  sum = zero64;
  candidate_products = 0;
  executed_products = 0;
  skipped_products = 0;
  topology_words = 0;
  active_words = 0;
}

abbrev pub totals_of : Given AbtmProductPruningStats → DenimraspTotals
totals_of (gives c) = record {
  number = 0;
  expected = 0;
  actual = 0;
  candidate_products = c.candidate_products;
  executed_products = c.executed_products;
  skipped_products = c.skipped_products;
  topology_words = c.topology_words;
  active_words = c.active_words;
}
totals_of (refuses t) = record {
  number = t.number;
  expected = t.expected;
  actual = t.actual;
  candidate_products = 0;
  executed_products = 0;
  skipped_products = 0;
  topology_words = 0;
  active_words = 0;
}

-- the five counts of a report, which cross as five numbers
abbrev pub counts_from : ℕ → ℕ → ℕ → ℕ → ℕ → AbtmProductPruningStats
counts_from c e s w a = record { candidate_products = c; executed_products = e; skipped_products = s; topology_words = w; active_words = a }

abbrev pub tiles_answer_of : Given TilesSize → DenimraspTiles
tiles_answer_of (gives u) = record {
  number = 0;
  expected = 0;
  actual = 0;
  tiles = u.tiles;
  value_slots = u.value_slots;
  matrix_nnz = u.matrix_nnz;
}
tiles_answer_of (refuses t) = record {
  number = t.number;
  expected = t.expected;
  actual = t.actual;
  tiles = 0;
  value_slots = 0;
  matrix_nnz = 0;
}

abbrev pub tile_stats_of : Given AbtmStats → DenimraspTileStats
tile_stats_of (gives s) = record {
  number = 0;
  expected = 0;
  actual = 0;
  nrows = s.nrows;
  ncols = s.ncols;
  matrix_nnz = s.matrix_nnz;
  tiles = s.tiles;
  sparse_tiles = s.sparse_tiles;
  bitmap_tiles = s.bitmap_tiles;
  dense_tiles = s.dense_tiles;
  value_slots = s.value_slots;
  metadata_bytes = s.metadata_bytes;
}
tile_stats_of (refuses t) = record {
  number = t.number;
  expected = t.expected;
  actual = t.actual;
  nrows = 0;
  ncols = 0;
  matrix_nnz = 0;
  tiles = 0;
  sparse_tiles = 0;
  bitmap_tiles = 0;
  dense_tiles = 0;
  value_slots = 0;
  metadata_bytes = 0;
}

-- thresholds, which cross as two numbers
abbrev pub thresholds_from : ℕ → ℕ → AbtmConfig
thresholds_from s d = record { sparse_max_nnz = s; dense_min_nnz = d }

abbrev pub restriction_answer_of : Given ColumnRestriction → DenimraspRestriction
restriction_answer_of (gives s) = record {
  number = 0;
  expected = 0;
  actual = 0;
  nrows = s.nrows;
  ncols = s.ncols;
  source_nnz = s.source_nnz;
  retained_nnz = s.retained_nnz;
}
restriction_answer_of (refuses t) = record {
  number = t.number;
  expected = t.expected;
  actual = t.actual;
  nrows = 0;
  ncols = 0;
  source_nnz = 0;
  retained_nnz = 0;
}

abbrev pub region_answer_of : Given LocalRegion → DenimraspRegion
region_answer_of (gives s) = record {
  number = 0;
  expected = 0;
  actual = 0;
  global_size = s.global_size;
  local_nodes = s.local_nodes;
  local_nnz = s.local_nnz;
  source_row_nnz = s.source_row_nnz;
}
region_answer_of (refuses t) = record {
  number = t.number;
  expected = t.expected;
  actual = t.actual;
  global_size = 0;
  local_nodes = 0;
  local_nnz = 0;
  source_row_nnz = 0;
}

-- the numbers of a restricted list and of a local one, which cross as four
abbrev pub restriction_from : ℕ → ℕ → ℕ → ℕ → ColumnRestriction
restriction_from r c s k = record { nrows = r; ncols = c; source_nnz = s; retained_nnz = k }

abbrev pub region_from : ℕ → ℕ → ℕ → ℕ → LocalRegion
region_from n k e s = record { global_size = n; local_nodes = k; local_nnz = e; source_row_nnz = s }

abbrev pub blocks_answer_of : Given DenseBlocks → DenimraspBlocks
blocks_answer_of (gives s) = record {
  number = 0;
  expected = 0;
  actual = 0;
  nrows = s.nrows;
  ncols = s.ncols;
  block_rows = s.block_rows;
  unique_blocks = s.unique_blocks;
  dense_value_slots = s.dense_value_slots;
  structural_slots = s.structural_slots;
  valid_dense_slots = s.valid_dense_slots;
}
blocks_answer_of (refuses t) = record {
  number = t.number;
  expected = t.expected;
  actual = t.actual;
  nrows = 0;
  ncols = 0;
  block_rows = 0;
  unique_blocks = 0;
  dense_value_slots = 0;
  structural_slots = 0;
  valid_dense_slots = 0;
}

abbrev pub ratio_answer_of : Given Float → DenimraspRatio
ratio_answer_of (gives v) = record { number = 0; expected = 0; actual = 0; ratio = v }
ratio_answer_of (refuses t) = record { number = t.number; expected = t.expected; actual = t.actual; ratio = zero64 }

-- a width, which crosses as whether it is six
abbrev pub size_from : Bool → DenseBlockSize
size_from true = B6
size_from false = B3

-- the numbers of blocks, of which the figures take five at most
abbrev pub blocks_from : ℕ → ℕ → ℕ → ℕ → ℕ → DenseBlocks
blocks_from rows blocks values structural valid = record {
  nrows = 0;
  ncols = 0;
  block_rows = rows;
  unique_blocks = blocks;
  dense_value_slots = values;
  structural_slots = structural;
  valid_dense_slots = valid;
}
