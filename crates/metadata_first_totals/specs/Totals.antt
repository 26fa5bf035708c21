-- The five totals over a list of reports (document 01, "Packed store": accumulate; "Which form to use where": five totals over a lent
-- list of row reports).
use mathlib.Core.List.{List, foldl}
use Rattle.hybit_core.specs.Answer.{Given, demand, answers}
use Rattle.metadata_first.specs.declared.AbtmRowDot.{AbtmRowDot}
use Rattle.metadata_first.specs.declared.AbtmProductPruningStats.{AbtmProductPruningStats}
use Rattle.metadata_first.specs.Dot.{counts_of, accumulated, totals_fit}

-- the totals of no report
abbrev pub none : AbtmProductPruningStats
none = record { candidate_products = 0; executed_products = 0; skipped_products = 0; topology_words = 0; active_words = 0 }

-- the five sums over a list of reports, however large
unfoldable pub sums_of : List AbtmRowDot → AbtmProductPruningStats
sums_of ds = foldl (λ (t : AbtmProductPruningStats) (d : AbtmRowDot). accumulated t (counts_of d)) none ds

-- 1 where one of the five exceeds 2^64 − 1, and no totals then
unfoldable pub totals_over : List AbtmRowDot → Given AbtmProductPruningStats
totals_over ds = answers (demand (totals_fit (sums_of ds)) 1) (sums_of ds)
