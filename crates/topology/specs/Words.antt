-- Words, topology (document 01, "Words"): the record of a membership, the membership of a record, and the rules of a record.
use Rattle.std.specs.Prelude.{ℕ, ◌+◌, ◌*◌, ◌/◌, ◌%◌, Bool, true, not, ◌&&◌, List, map, length, ◌==◌, nat_eq, nat_lt}
use mathlib.Core.List.{zip}
use Rattle.hybit_core.specs.Answer.{Answer, demand, ◌and_then◌}
use Rattle.hybit_core.specs.Domain.{sizes_fit}
use Rattle.lent.specs.Lists.{joined, starts, part, every, first, climbs, spread}
use Rattle.word.specs.Bits.{has, below, members, mask_of, words_of}
use Rattle.csr32.specs.Csr.{framed_lists}

pub record Words : Type 0 where
  pub rows : ℕ
  pub cols : ℕ
  pub ptr : List ℕ
  pub word : List ℕ
  pub mask : List ℕ
  pub total : ℕ

-- lent lists and a stored total, as words
abbrev pub as_words : ℕ → ℕ → List ℕ → List ℕ → List ℕ → ℕ → Words
as_words n m ps ws ms t = record { rows = n; cols = m; ptr = ps; word = ws; mask = ms; total = t }

-- the record of the membership p (row, column): a word stands in a row exactly if one of its columns is a member, and its mask
-- is exactly those columns
unfoldable pub topology_of : ℕ → ℕ → (ℕ → ℕ → Bool) → Words
topology_of rows cols p = record {
  rows = rows;
  cols = cols;
  ptr = starts (λ r. words_of (p r) cols) rows;
  word = joined (λ r. words_of (p r) cols) rows;
  mask = joined (λ r. map (mask_of (p r) cols) (words_of (p r) cols)) rows;
  total = length (joined (λ r. below (p r) cols) rows);
}

-- ---- the membership of a record

-- the mask that a row lists for word w, 0 where it lists none
unfoldable pub mask_in : List ℕ → List ℕ → ℕ → ℕ
mask_in ws ms w = (first (0, 0) (λ (e : ℕ × ℕ). nat_eq e.0 w) (zip ws ms)).1

-- column c is present in a row of these words and masks
unfoldable pub row_member : List ℕ → List ℕ → ℕ → Bool
row_member ws ms c = has (mask_in ws ms (c / 64)) (c % 64)

-- column c is present in row r of a record
unfoldable pub member : Words → ℕ → ℕ → Bool
member t r = row_member (part t.ptr t.word r) (part t.ptr t.mask r)

-- the set bits of all masks
unfoldable pub set_bits : List ℕ → ℕ
set_bits ms = length (spread members ms)

-- the same words, with the set bits of their masks as the total
abbrev pub counted : Words → Words
counted t = as_words t.rows t.cols t.ptr t.word t.mask (set_bits t.mask)

-- ---- its rules

-- 1 finds nothing
abbrev pub word_sizes : Words → Bool
word_sizes t = sizes_fit t.rows t.cols (length t.word) (length t.mask)

-- a word number and its mask: the mask is not 0 and has no bit at or past the column count
unfoldable pub word_rule : ℕ → ℕ × ℕ → Bool
word_rule cols e = not (e.1 == 0) && every (λ i. nat_lt (64 * e.0 + i) cols) (members e.1)

-- a row of words: numbers strictly rising, and the rule of each word
unfoldable pub row_rule : ℕ → List ℕ → List ℕ → Bool
row_rule cols ws ms = climbs 0 ws && every (word_rule cols) (zip ws ms)

-- every row of a record keeps its rule
unfoldable pub row_rules : Words → Bool
row_rules t = every (λ r. row_rule t.cols (part t.ptr t.word r) (part t.ptr t.mask r)) (below (λ r. true) t.rows)

-- 11 finds nothing: lists of one length, the pointer rules of CSR, the rules of each row, the total of set bits
unfoldable pub word_rules : Words → Bool
word_rules t = framed_lists t.rows t.ptr (length t.word) (length t.mask) && row_rules t && t.total == set_bits t.mask

-- the checks of a record of words: 1, 11
unfoldable pub word_answer : Words → Answer
word_answer t = demand (word_sizes t) 1 and_then demand (word_rules t) 11
