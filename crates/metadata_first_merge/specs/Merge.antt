-- Merging (document 01, "Packed store"): one value for each column that has an entry.
use Rattle.std.specs.Prelude.{ℕ, Bool, List, map, Float}
use Rattle.hybit_core.specs.Answer.{Answer, demand, ◌and_then◌}
use Rattle.hybit_core.specs.Floats.{finite}
use Rattle.lent.specs.Lists.{joined, every}
use Rattle.word.specs.Bits.{below}
use Rattle.csr32.specs.Csr.{Csr, Entry, csr_answer, entries, present, merged}

-- the merged values of a row's present columns, ascending
unfoldable pub row_values : ℕ → List Entry → List Float
row_values cols es = map (merged es) (below (present es) cols)

-- 4 finds no merged value that is infinite
unfoldable pub merged_finite : Csr → Bool
merged_finite m = every finite (joined (λ r. row_values m.cols (entries m r)) m.rows)

-- 1; 2, 3, 4; 4 for a merged value
unfoldable pub merge_answer : Csr → Answer
merge_answer m = csr_answer m and_then demand (merged_finite m) 4
