-- `abtm_apply::row_sum` meets its contract. Assumes nothing.
use mathlib.Core.Path.{refl}
use native.Mathlib.Omega.{arith}
use Rattle.abtm_apply.proofs.RowLaws.{tile_in, summing_none, summing_more, summing_done}
use Rattle.abtm_apply.proofs.row_sum.Goals as goal

pub loop-i-init : goal.loop-i-init
loop-i-init c = summing_none _ _ _ _ _

pub add_tile-sum-requires : goal.add_tile-sum-requires
add_tile-sum-requires c = tile_in c.args.row.masks.now c.args.row.value_offsets.now c.args.row.metas.now c.args.values.now c.args.x.now c.args.row.offsets_paired c.args.row.metas_paired c.requires _ _ (omega arith) refl

pub loop-i-preserved : goal.loop-i-preserved
loop-i-preserved c = summing_more _ _ _ _ _ c.args.row.offsets_paired c.args.row.metas_paired _ _ c.loop-i.invariant _ _ (omega arith) refl c.add_tile-sum.ensures

pub returns : goal.returns
returns c = summing_done _ _ _ _ _ c.args.row.offsets_paired c.args.row.metas_paired _ _ c.loop-i.invariant (omega arith)
