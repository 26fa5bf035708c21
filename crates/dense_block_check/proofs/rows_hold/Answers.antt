-- `dense_block_check::rows_hold` meets its contract. Assumes nothing.
use mathlib.Core.Path.{refl, ap}
use borrow.Author.Rules.{rules}
use Rattle.dense_block.specs.Operator.{lent_blocks}
use Rattle.dense_block_check.proofs.ClimbLaws.{rows_none, rows_more, rows_fail, rows_done, rows_told}
use Rattle.dense_block_check.proofs.RuleLaws.{limit_told}
use mathlib.Core.Bool.{not}
use Rattle.dense_block_check.proofs.rows_hold.Goals as goal

pub loop-row-init : goal.loop-row-init
loop-row-init c = rows_none _ _ _ _ _ c.requires.frame c.blocks_for-rows.ensures

pub returns-then-not-row_holds : goal.returns-then-not-row_holds
returns-then-not-row_holds c = rows_told (lent_blocks c.args.blocks) _ _ _ _ c.blocks_for-rows.ensures (limit_told c.args.blocks.size _ _ _ c.requires.columns c.blocks_for.ensures c.narrow-limit.ensures) c.loop-row.invariant
    (rows_fail _ _ _ _ _ _ _ _ c.loop-row.invariant (search rules) refl refl c.row_holds.ensures (ap not c.if-not-row_holds.true))

pub loop-row-preserved : goal.loop-row-preserved
loop-row-preserved c = rows_more _ _ _ _ _ _ _ _ c.loop-row.invariant (search rules) refl refl c.row_holds.ensures (ap not c.if-not-row_holds.false)

pub returns : goal.returns
returns c = rows_told (lent_blocks c.args.blocks) _ _ _ _ c.blocks_for-rows.ensures (limit_told c.args.blocks.size _ _ _ c.requires.columns c.blocks_for.ensures c.narrow-limit.ensures) c.loop-row.invariant
    (rows_done _ _ _ _ _ c.loop-row.invariant (search rules))
