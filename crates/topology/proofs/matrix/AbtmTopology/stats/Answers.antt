-- `topology::AbtmTopology::stats` meets its contract. Assumes nothing.
use Rattle.std.proofs.Common.{refl, arith}
use Rattle.topology.proofs.CallLaws.{checked}
use Rattle.topology.specs.Calls.{stats_of, metadata_bytes}
use Rattle.hybit_core.proofs.AnswerLaws.{given_accepted}
use Rattle.topology.proofs.matrix.AbtmTopology.stats.Goals as goal

pub overflow_add-result : goal.overflow_add-result
overflow_add-result c = let k = checked _ _ c.check.ensures c.in_ok-check.was in omega (arith, k.rows_in, k.words_in)

pub overflow_mul-result : goal.overflow_mul-result
overflow_mul-result c = let k = checked _ _ c.check.ensures c.in_ok-check.was in omega (arith, k.rows_in, k.words_in)

pub overflow_mul-result-2 : goal.overflow_mul-result-2
overflow_mul-result-2 c = let k = checked _ _ c.check.ensures c.in_ok-check.was in omega (arith, k.rows_in, k.words_in)

pub overflow_add-result-2 : goal.overflow_add-result-2
overflow_add-result-2 c = let k = checked _ _ c.check.ensures c.in_ok-check.was in omega (arith, k.rows_in, k.words_in)

pub returns : goal.returns
unfolding stats_of metadata_bytes
returns c = given_accepted _ _ _ _ c.check.ensures c.in_ok-check.was refl
