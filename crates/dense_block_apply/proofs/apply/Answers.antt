-- `dense_block_apply::apply` meets its contract. Assumes nothing.
use mathlib.Core.Path.{ap, sym}
use native.Mathlib.Omega.{arith}
use Rattle.hybit_core.proofs.AnswerLaws.{accepted_by}
use Rattle.dense_block.specs.Blocks.{width_of}
use Rattle.dense_block_apply.proofs.BlockLaws.{y_long, at_rows}
use Rattle.dense_block_apply.proofs.apply.Goals as goal

pub invariant_of-fill_product : goal.invariant_of-fill_product
invariant_of-fill_product c = record { width = ap width_of (sym c.in-B3.is); valid = at_rows _ _ _ (accepted_by _ _ c.examine_apply.ensures c.in_ok-examine_apply.was) }

pub fill_product-requires : goal.fill_product-requires
fill_product-requires c = (omega arith, y_long _ _ _ (accepted_by _ _ c.examine_apply.ensures c.in_ok-examine_apply.was))

pub invariant_of-fill_product-in-B6 : goal.invariant_of-fill_product-in-B6
invariant_of-fill_product-in-B6 c = record { width = ap width_of (sym c.in-B6.is); valid = at_rows _ _ _ (accepted_by _ _ c.examine_apply.ensures c.in_ok-examine_apply.was) }

pub fill_product-requires-in-B6 : goal.fill_product-requires-in-B6
fill_product-requires-in-B6 c = (omega arith, y_long _ _ _ (accepted_by _ _ c.examine_apply.ensures c.in_ok-examine_apply.was))
