-- `abtm_rows::stats` meets its contract. Assumes nothing.
use native.Mathlib.Omega.{arith}
use Rattle.hybit_core.proofs.AnswerLaws.{given_accepted}
use Rattle.abtm_rows.proofs.RowsLaws.{tiles_checked, stats_are}
use Rattle.abtm_rows.proofs.stats.Goals as goal

pub overflow_add-result : goal.overflow_add-result
overflow_add-result c = let k = tiles_checked _ _ c.check.ensures c.in_ok-check.was in omega (arith, k.rows_in, k.tiles_in, k.metas_long)

pub overflow_mul-result : goal.overflow_mul-result
overflow_mul-result c = let k = tiles_checked _ _ c.check.ensures c.in_ok-check.was in omega (arith, k.rows_in, k.tiles_in, k.metas_long)

pub overflow_mul-result-2 : goal.overflow_mul-result-2
overflow_mul-result-2 c = let k = tiles_checked _ _ c.check.ensures c.in_ok-check.was in omega (arith, k.rows_in, k.tiles_in, k.metas_long)

pub overflow_add-result-2 : goal.overflow_add-result-2
overflow_add-result-2 c = let k = tiles_checked _ _ c.check.ensures c.in_ok-check.was in omega (arith, k.rows_in, k.tiles_in, k.metas_long)

pub returns : goal.returns
returns c = given_accepted _ _ _ _ c.check.ensures c.in_ok-check.was (stats_are _ _ _ _ c.count_kind.ensures c.count_kind-2.ensures c.count_kind-3.ensures)
