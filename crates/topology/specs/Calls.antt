-- What the calls on words ask of their input, in order, and what they answer.
use Rattle.std.specs.Prelude.{Option, ℕ, ◌+◌, ◌*◌, Bool, ◌&&◌, length, nat_le, nat_lt, Float}
use Rattle.std.specs.Float.{binary64}
use Rattle.std.specs.Float.Ieee.{div}
use Rattle.hybit_core.specs.Answer.{Answer, Given, demand, answers, ◌and_then◌}
use Rattle.hybit_core.specs.Floats.{count_as_float, ratio_of}
use Rattle.word.specs.Bits.{count, selected}
use Rattle.topology.specs.declared.AbtmTopologyStats.{AbtmTopologyStats}
use Rattle.topology.specs.declared.TopologySize.{TopologySize}
use Rattle.topology.specs.Words.{Words, member, word_answer}

-- ---- a row

-- a question to row r: 1; 11; 7
unfoldable pub row_answer : Words → ℕ → Answer
row_answer t r = word_answer t and_then demand (nat_lt r t.rows) 7

-- how many present columns lie below c
abbrev pub rank : Words → ℕ → ℕ → ℕ
rank t r c = count (member t r) c

-- the present column with k present ones below it, or nothing exactly if there is none
abbrev pub select : Words → ℕ → ℕ → Option ℕ
select t r k = selected (member t r) t.cols k

-- a rank: 1; 11; 7 for the row; 7 for a column above the column count
unfoldable pub rank_answer : Words → ℕ → ℕ → Given ℕ
rank_answer t r c = answers (row_answer t r and_then demand (nat_le c t.cols) 7) (rank t r c)

-- ---- the figures of a record

-- 4 × (rows + 1) + 12 × words
unfoldable pub metadata_bytes : Words → ℕ
metadata_bytes t = 4 * (t.rows + 1) + 12 * length t.word

unfoldable pub stats_of : Words → AbtmTopologyStats
stats_of t = record { nrows = t.rows; ncols = t.cols; structural_nnz = t.total; nonempty_words = length t.word; metadata_bytes = metadata_bytes t }

-- ones ÷ words; that ÷ 64; bytes ÷ ones: in f64, 0.0 where there is nothing to divide by
abbrev pub average_word : AbtmTopologyStats → Float
average_word s = ratio_of s.structural_nnz s.nonempty_words

abbrev pub word_fill : AbtmTopologyStats → Float
word_fill s = div binary64 (average_word s) (count_as_float 64)

abbrev pub bytes_per_one : AbtmTopologyStats → Float
bytes_per_one s = ratio_of s.metadata_bytes s.structural_nnz

-- ---- a build of words

-- the lengths of the three lent lists
pub record Room : Type 0 where
  pub ptr : ℕ
  pub word : ℕ
  pub mask : ℕ

abbrev pub as_room : ℕ → ℕ → ℕ → Room
as_room p w m = record { ptr = p; word = w; mask = m }

-- 13 finds nothing
unfoldable pub fits_words : Words → Room → Bool
fits_words t room = nat_le (length t.ptr) room.ptr && nat_le (length t.word) room.word && nat_le (length t.mask) room.mask

abbrev pub as_size : ℕ → ℕ → TopologySize
as_size w n = record { words = w; structural_nnz = n }

-- how long the used parts of the word and mask lists are, and the total: the pointers take rows + 1 places
abbrev pub used_of : Words → TopologySize
used_of t = as_size (length t.word) t.total
