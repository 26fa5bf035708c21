-- The pruned dot (document 01, "Packed store"): a function of the present columns and their values, the active columns and the
-- vector; its checks; the ratios and totals of its counts; the three that demand 3 speaks of.
use Rattle.std.specs.Prelude.{ℕ, ◌+◌, ◌-◌, ◌^◌, Bool, not, ◌&&◌, ltb, length, Float}
use mathlib.Core.List.{List, foldl}
use Rattle.std.specs.Float.{binary64}
use Rattle.std.specs.Float.Ieee.{add, mul}
use Rattle.hybit_core.specs.Answer.{Answer, Given, demand, length_is, answers, ◌and_then◌}
use Rattle.hybit_core.specs.Domain.{few}
use Rattle.hybit_core.specs.Floats.{zero64, ratio_of}
use Rattle.word.specs.Bits.{below, count, both, words_of}
use Rattle.mask.specs.Mask.{Mask, active, mask_rules}
use Rattle.csr32.specs.Csr.{Entry, present, merged, at}
use Rattle.topology.specs.Words.{member}
use Rattle.metadata_first.specs.declared.AbtmRowDot.{AbtmRowDot}
use Rattle.metadata_first.specs.declared.AbtmProductPruningStats.{AbtmProductPruningStats}
use Rattle.metadata_first.specs.Store.{Store, value_at, store_sizes, store_faults}

-- from 0.0, v × x over the columns of a list, in its order, each product and sum rounded once
unfoldable pub sum_over : List ℕ → (ℕ → Float) → (ℕ → Float) → Float
sum_over l v x = foldl (λ (s : Float) (c : ℕ). add binary64 s (mul binary64 (v c) (x c))) zero64 l

-- the report of a row of n columns: p its present columns, v their values, a the active columns, x the vector. Candidate: the
-- present columns; executed: present and active; skipped: present and inactive; active words: with at least one executed product
unfoldable pub dot_of : ℕ → (ℕ → Bool) → (ℕ → Float) → (ℕ → Bool) → (ℕ → Float) → AbtmRowDot
dot_of n p v a x = record {
  sum = sum_over (below (both p a) n) v x;
  candidate_products = count p n;
  executed_products = count (both p a) n;
  skipped_products = count (λ c. p c && not (a c)) n;
  topology_words = length (words_of p n);
  active_words = length (words_of (both p a) n);
}

-- the dot of row r of a store that is handed in
unfoldable pub dot_on : Store → Mask → List Float → ℕ → AbtmRowDot
dot_on s a x r = dot_of s.words.cols (member s.words r) (value_at s r) (active a) (at x)

-- ---- the calls

-- what every dot checks first: 1; 11, 12; 5; 6 the mask's length; 6 the vector's
unfoldable pub operands_answer : Store → Mask → List Float → Answer
operands_answer s a x =
    demand (store_sizes s && few a.size) 1
    and_then store_faults s
    and_then demand (mask_rules a) 5
    and_then length_is s.words.cols a.size
    and_then length_is s.words.cols (length x)

-- sparse_dot_row: then 7
unfoldable pub dot_answer : Store → Mask → List Float → ℕ → Answer
dot_answer s a x r = operands_answer s a x and_then demand (ltb r s.words.rows) 7

unfoldable pub sparse_dot_row : Store → Mask → List Float → ℕ → Given AbtmRowDot
sparse_dot_row s a x r = answers (dot_answer s a x r) (dot_on s a x r)

-- ---- ratios and totals of the counts

-- the five counts of a report
abbrev pub counts_of : AbtmRowDot → AbtmProductPruningStats
counts_of d = record { candidate_products = d.candidate_products; executed_products = d.executed_products; skipped_products = d.skipped_products; topology_words = d.topology_words; active_words = d.active_words }

-- skipped ÷ candidate in f64, 0.0 if candidate is 0
abbrev pub pruning_ratio : AbtmProductPruningStats → Float
pruning_ratio s = ratio_of s.skipped_products s.candidate_products

-- words without an executed product ÷ words; 0 of them where more words are said to be active than there are
abbrev pub empty_word_ratio : AbtmProductPruningStats → Float
empty_word_ratio s = ratio_of (s.topology_words - s.active_words) s.topology_words

-- the sums of two counts
abbrev pub accumulated : AbtmProductPruningStats → AbtmProductPruningStats → AbtmProductPruningStats
accumulated a b = record {
  candidate_products = a.candidate_products + b.candidate_products;
  executed_products = a.executed_products + b.executed_products;
  skipped_products = a.skipped_products + b.skipped_products;
  topology_words = a.topology_words + b.topology_words;
  active_words = a.active_words + b.active_words;
}

-- no total is above 2^64 − 1
unfoldable pub totals_fit : AbtmProductPruningStats → Bool
totals_fit t =
    ltb t.candidate_products (2 ^ 64) && ltb t.executed_products (2 ^ 64) && ltb t.skipped_products (2 ^ 64)
    && ltb t.topology_words (2 ^ 64) && ltb t.active_words (2 ^ 64)

-- accumulate: 1 for a total
unfoldable pub accumulate_answer : AbtmProductPruningStats → AbtmProductPruningStats → Answer
accumulate_answer a b = demand (totals_fit (accumulated a b)) 1

-- ---- document 01's Words of demand 3

pub record Three : Type 0 where
  pub number : Float
  pub executed : ℕ
  pub active_words : ℕ

unfoldable pub three_of : AbtmRowDot → Three
three_of d = record { number = d.sum; executed = d.executed_products; active_words = d.active_words }

-- of a matrix row: merged value × x over the active columns with an entry, ascending; their number; the words that hold one
unfoldable pub demanded : ℕ → List Entry → (ℕ → Bool) → (ℕ → Float) → Three
demanded n es a x = record {
  number = sum_over (below (both (present es) a) n) (merged es) x;
  executed = count (both (present es) a) n;
  active_words = length (words_of (both (present es) a) n);
}
