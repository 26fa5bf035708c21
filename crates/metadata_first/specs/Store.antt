-- The packed store (document 01, "Packed store"): the record of a membership and values, the value of a column, and its rules.
use Rattle.std.specs.Prelude.{ℕ, ◌+◌, ◌*◌, Bool, true, ◌&&◌, List, map, eqb, ltb, length, get_or, Float}
use Rattle.std.specs.Float.{nan}
use Rattle.hybit_core.specs.Answer.{Answer, demand, ◌and_then◌}
use Rattle.hybit_core.specs.Domain.{many, saturated}
use Rattle.hybit_core.specs.Floats.{finite}
use Rattle.lent.specs.Lists.{joined, starts, part, every}
use Rattle.word.specs.Bits.{below, count}
use Rattle.csr32.specs.Csr.{framed}
use Rattle.topology.specs.Words.{counted, Words, as_words, topology_of, member, word_sizes, word_rules}
use Rattle.topology.specs.Calls.{rank, metadata_bytes}
use Rattle.metadata_first.specs.declared.AbtmMetadataFirstStats.{AbtmMetadataFirstStats}

pub record Store : Type 0 where
  pub words : Words
  pub vptr : List ℕ
  pub vals : List Float

-- lent lists and a stored total, as a store
abbrev pub as_store : ℕ → ℕ → List ℕ → List ℕ → List ℕ → ℕ → List ℕ → List Float → Store
as_store n m ps ws ms t vp vs = record { words = as_words n m ps ws ms t; vptr = vp; vals = vs }

-- the same store, with the set bits of its masks as the total
abbrev pub counted_store : Store → Store
counted_store s = record { words = counted s.words; vptr = s.vptr; vals = s.vals }

-- the record of the membership p and the values v (row, column): one value per present column, ascending
unfoldable pub packed_of : ℕ → ℕ → (ℕ → ℕ → Bool) → (ℕ → ℕ → Float) → Store
packed_of rows cols p v = record {
  words = topology_of rows cols p;
  vptr = starts (λ r. below (p r) cols) rows;
  vals = joined (λ r. map (v r) (below (p r) cols)) rows;
}

-- the value of column c in row r of a record: at the row's pointer plus the column's rank among the present ones
unfoldable pub value_at : Store → ℕ → ℕ → Float
value_at s r c = get_or s.vals (get_or s.vptr r 0 + rank s.words r c) nan

-- ---- its rules

-- 1 finds nothing: a packed store's values count as stored entries
unfoldable pub store_sizes : Store → Bool
store_sizes s = many (length s.vals) && word_sizes s.words

-- every row has as many values as present columns
unfoldable pub value_rules : Store → Bool
value_rules s = every (λ r. eqb (length (part s.vptr s.vals r)) (count (member s.words r) s.words.cols)) (below (λ r. true) s.words.rows)

-- 12 finds nothing: the pointer rules of CSR, the value count of each row, finite values
unfoldable pub store_rules : Store → Bool
store_rules s = framed s.words.rows s.vptr (length s.vals) && value_rules s && every finite s.vals

-- 11, 12
unfoldable pub store_faults : Store → Answer
store_faults s = demand (word_rules s.words) 11 and_then demand (store_rules s) 12

-- the checks of a packed store: 1; 11, 12
unfoldable pub store_answer : Store → Answer
store_answer s = demand (store_sizes s) 1 and_then store_faults s

-- a question to row r: 1; 11, 12; 7
unfoldable pub store_row_answer : Store → ℕ → Answer
store_row_answer s r = store_answer s and_then demand (ltb r s.words.rows) 7

-- ---- its figures

-- 4 × (rows + 1) value pointer bytes and 8 × values packed bytes, beside the topology's figures
unfoldable pub store_stats : Store → AbtmMetadataFirstStats
store_stats s = record {
  nrows = s.words.rows;
  ncols = s.words.cols;
  structural_nnz = s.words.total;
  topology_metadata_bytes = metadata_bytes s.words;
  value_row_ptr_bytes = 4 * (s.words.rows + 1);
  packed_value_bytes = 8 * length s.vals;
}

abbrev pub estimated_bytes : AbtmMetadataFirstStats → ℕ
estimated_bytes s = saturated (s.topology_metadata_bytes + s.value_row_ptr_bytes + s.packed_value_bytes)
