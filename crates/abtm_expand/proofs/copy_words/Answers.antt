-- `abtm_expand::copy_words` meets its contract. Assumes nothing.
use native.Mathlib.Omega.{arith}
use Rattle.abtm_expand.proofs.JoinLaws.{copied_none, copied_more, copied_done}
use Rattle.abtm_expand.proofs.copy_words.Goals as goal

pub loop-k-init : goal.loop-k-init
loop-k-init c = copied_none _ _

pub loop-k-preserved : goal.loop-k-preserved
loop-k-preserved c = copied_more _ _ _ _ c.loop-k.invariant c.requires (omega arith)

pub returns : goal.returns
returns c = copied_done _ _ _ _ c.loop-k.invariant c.requires (omega arith)
