-- sparse_dot_rows: the dot of every row, as totals and executed counts.
use Rattle.std.specs.Prelude.{ℕ, List, Float}
use Rattle.lent.specs.Lists.{each}
use Rattle.mask.specs.Mask.{Mask}
use Rattle.metadata_first.specs.Store.{Store}
use Rattle.metadata_first.specs.Dot.{dot_on}

-- the rows' totals
unfoldable pub row_sums : Store → Mask → List Float → List Float
row_sums s a x = each (λ r. (dot_on s a x r).sum) s.words.rows

-- how many products each total has
unfoldable pub row_counts : Store → Mask → List Float → List ℕ
row_counts s a x = each (λ r. (dot_on s a x r).executed_products) s.words.rows
