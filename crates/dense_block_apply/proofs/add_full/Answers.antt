-- `dense_block_apply::add_full` meets its contract. Assumes nothing.
use mathlib.Core.Path.{ap}
use lib.Ieee.{binary64, add}
use Rattle.lent.proofs.LentLaws.{filled_none}
use Rattle.dense_block_apply.proofs.TermLaws.{rows_more}
use Rattle.dense_block_apply.proofs.add_full.Goals as goal

pub loop-i-init : goal.loop-i-init
loop-i-init g c = filled_none _ _

pub loop-i-preserved : goal.loop-i-preserved
loop-i-preserved g c = rows_more _ _ _ _ _ c.loop-i.invariant _ (ap (add binary64 _) c.full_terms.ensures) c.loop-i-test.true
