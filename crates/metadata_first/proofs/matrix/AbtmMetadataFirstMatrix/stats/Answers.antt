-- `metadata_first::AbtmMetadataFirstMatrix::stats` meets its contract. Assumes nothing.
use native.Mathlib.Omega.{arith}
use Rattle.metadata_first.proofs.CallLaws.{checked, stats_given}
use Rattle.metadata_first.proofs.matrix.AbtmMetadataFirstMatrix.stats.Goals as goal

pub overflow_add-result : goal.overflow_add-result
overflow_add-result c = let k = checked _ _ c.check.ensures c.in_ok-check.was in omega (arith, k.words_facts.rows_in)

pub overflow_mul-result : goal.overflow_mul-result
overflow_mul-result c = let k = checked _ _ c.check.ensures c.in_ok-check.was in omega (arith, k.words_facts.rows_in)

pub overflow_mul-result-2 : goal.overflow_mul-result-2
overflow_mul-result-2 c = let k = checked _ _ c.check.ensures c.in_ok-check.was in omega (arith, k.words_facts.words_in)

pub overflow_add-result-2 : goal.overflow_add-result-2
overflow_add-result-2 c = let k = checked _ _ c.check.ensures c.in_ok-check.was in omega (arith, k.words_facts.rows_in, k.words_facts.words_in)

pub overflow_mul-result-3 : goal.overflow_mul-result-3
overflow_mul-result-3 c = let k = checked _ _ c.check.ensures c.in_ok-check.was in omega (arith, k.words_facts.rows_in, k.frame.long)

pub overflow_mul-result-4 : goal.overflow_mul-result-4
overflow_mul-result-4 c = let k = checked _ _ c.check.ensures c.in_ok-check.was in omega (arith, k.values_in)

pub returns : goal.returns
returns c = stats_given _ _ c.check.ensures c.in_ok-check.was
