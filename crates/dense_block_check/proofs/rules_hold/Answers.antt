-- `dense_block_check::rules_hold` meets its contract. Assumes nothing.
use mathlib.Core.Path.{ap}
use native.Mathlib.Omega.{arith}
use lib.ListN.{length}
use Rattle.hybit_core.proofs.BoolLaws.{flag_on, flag_off}
use Rattle.dense_block.specs.Operator.{lent_blocks}
use Rattle.dense_block_check.proofs.RuleLaws.{pointers_told, values_wrong, values_right, rules_unframed, rules_values, rules_rows}
use mathlib.Core.Bool.{not}
use Rattle.dense_block_check.proofs.rules_hold.Goals as goal

pub returns-then-not-pointers_hold : goal.returns-then-not-pointers_hold
returns-then-not-pointers_hold c = rules_unframed (lent_blocks c.args.blocks) (flag_off _ _ (pointers_told _ _ _ _ _ c.blocks_for.ensures c.pointers_hold.ensures) (ap not c.if-not-pointers_hold.true))

pub returns-then-blocks-width : goal.returns-then-blocks-width
returns-then-blocks-width c = rules_values (lent_blocks c.args.blocks) (flag_on _ _ (pointers_told _ _ _ _ _ c.blocks_for.ensures c.pointers_hold.ensures) (ap not c.if-not-pointers_hold.false)) (values_wrong _ _ (length c.args.blocks.col_idx.now) (length c.args.blocks.values.now) c.width-width.ensures (omega arith))

pub returns : goal.returns
returns c = rules_rows (lent_blocks c.args.blocks) (flag_on _ _ (pointers_told _ _ _ _ _ c.blocks_for.ensures c.pointers_hold.ensures) (ap not c.if-not-pointers_hold.false)) (values_right _ _ (length c.args.blocks.col_idx.now) (length c.args.blocks.values.now) c.width-width.ensures (omega arith)) _ c.rows_hold.ensures
