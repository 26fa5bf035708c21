-- `demand_routes::fill_active` meets its contract. Assumes nothing.
use native.Mathlib.Omega.{arith}
use Rattle.lent.proofs.LentLaws.{filled_none, filled_more, filled_done}
use Rattle.mask.specs.Mask.{mask_words}
use Rattle.demand_routes.proofs.AllLaws.{active_word}
use Rattle.demand_routes.proofs.fill_active.Goals as goal

pub loop-w-init : goal.loop-w-init
loop-w-init c = (omega arith, filled_none _ _)

pub loop-w-preserved : goal.loop-w-preserved
loop-w-preserved c = (omega arith, filled_more _ _ _ _ c.loop-w.invariant.1 _ (active_word _ _ _ c.trimmed.ensures) (omega arith))

pub returns : goal.returns
unfolding mask_words
returns c = filled_done _ _ _ _ c.loop-w.invariant.1 _ c.requires.fact_2 (omega arith) (omega arith)
