-- `abtm_apply::add_dense` meets its contract. Assumes nothing.
use native.Mathlib.Omega.{arith}
use Rattle.abtm_apply.proofs.SumLaws.{dense_none, dense_more, dense_done}
use Rattle.abtm_apply.proofs.add_dense.Goals as goal

pub loop-j-init : goal.loop-j-init
loop-j-init c = dense_none _ _ _ _ _

pub loop-j-preserved : goal.loop-j-preserved
loop-j-preserved c = dense_more _ _ _ _ _ _ _ c.loop-j.invariant c.min-limit.ensures c.requires.0 c.requires.1 (omega arith)

pub returns : goal.returns
returns c = dense_done _ _ _ _ _ _ _ c.loop-j.invariant c.min-limit.ensures c.requires.0 c.requires.1 (omega arith)
