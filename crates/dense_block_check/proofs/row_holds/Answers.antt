-- `dense_block_check::row_holds` meets its contract. Assumes nothing.
use mathlib.Core.Path.{refl}
use borrow.Author.Rules.{rules}
use Rattle.dense_block_check.proofs.ClimbLaws.{keeps-none, keeping_one, keeping_more, keeping_done}
use Rattle.dense_block_check.proofs.row_holds.Goals as goal

pub returns-then-cols-eq0 : goal.returns-then-cols-eq0
returns-then-cols-eq0 c = keeps-none _ _ (search rules)

pub loop-col-init : goal.loop-col-init
loop-col-init c = keeping_one _ _ (search rules)

pub loop-col-preserved : goal.loop-col-preserved
loop-col-preserved c = keeping_more _ _ _ _ _ _ c.loop-col.invariant _ (search rules) refl

pub returns : goal.returns
returns c = keeping_done _ _ _ _ _ _ c.loop-col.invariant _ (search rules) refl
