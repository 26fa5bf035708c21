-- `abtm_build::write_dense` meets its contract. Assumes nothing.
use mathlib.Core.Path.{refl}
use native.Mathlib.Omega.{arith}
use lib.ListN.{length-set}
use Rattle.abtm_build.proofs.WordLaws.{all_none, all_more, all_done}
use Rattle.abtm_build.proofs.write_dense.Goals as goal

pub loop-i-init : goal.loop-i-init
loop-i-init c = (refl, all_none _ _ _, omega arith)

pub loop-i-preserved : goal.loop-i-preserved
loop-i-preserved c = (simp length-set c.loop-i.invariant.0, all_more _ _ c.loop-i.i _ _ _ c.loop-i.invariant.1 (omega arith) c.dense_value.ensures, omega arith)

pub returns : goal.returns
returns c = all_done _ _ c.loop-i.i _ _ c.loop-i.invariant.1 c.loop-i.invariant.2 (omega arith)
