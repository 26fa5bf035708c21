-- `mask_sets::combine_words` meets its contract. Assumes nothing.
use native.Mathlib.Omega.{arith}
use Rattle.mask_sets.proofs.PairLaws.{combining_none, combining_more, combining_done}
use Rattle.mask_sets.proofs.combine_words.Goals as goal

pub loop-k-init : goal.loop-k-init
loop-k-init c = combining_none _ _ _

pub loop-k-preserved : goal.loop-k-preserved
loop-k-preserved c = combining_more _ _ _ _ _ c.loop-k.invariant _ (omega arith) c.combine.ensures

pub returns : goal.returns
returns c = combining_done _ _ _ _ _ c.loop-k.invariant (omega arith)
