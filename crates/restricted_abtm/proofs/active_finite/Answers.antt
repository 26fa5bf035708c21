-- `restricted_abtm::active_finite` meets its contract. Assumes nothing.
use mathlib.Core.Path.{refl, ap}
use native.Mathlib.Omega.{arith}
use Rattle.hybit_core.proofs.BoolLaws.{flag_on, flag_off}
use Rattle.restricted_abtm.proofs.ReadyLaws.{ready_word, tile_ready_lem, bits_in}
use Rattle.restricted_abtm.proofs.KeptLaws.{tested_fails, tested_more, tested_done}
use mathlib.Core.Bool.{not}
use Rattle.restricted_abtm.proofs.active_finite.Goals as goal

pub bounds-listed-word : goal.bounds-listed-word
bounds-listed-word c = omega (arith, ready_word _ _ _ (tile_ready_lem c.args.listed.tiles.masks.now c.args.listed.tiles.value_offsets.now c.args.listed.tiles.metas.now c.args.listed.values.now c.args.listed.mask.now c.args.listed.tiles.offsets_paired c.args.listed.tiles.metas_paired c.loop-k.k _ (omega arith) refl c.args.listed.ready))

pub tile_finite-requires : goal.tile_finite-requires
tile_finite-requires c = bits_in c.args.listed.tiles.masks.now c.args.listed.tiles.value_offsets.now c.args.listed.tiles.metas.now c.args.listed.values.now c.args.listed.mask.now c.args.listed.tiles.offsets_paired c.args.listed.tiles.metas_paired _ _ (omega arith) refl _ _ (c.word_in-word.ensures) c.intersection-tested.ensures c.args.listed.ready

pub returns-then-not-tile_finite : goal.returns-then-not-tile_finite
returns-then-not-tile_finite c = tested_fails _ _ _ _ _ c.args.listed.tiles.offsets_paired c.args.listed.tiles.metas_paired _ c.loop-k.invariant (omega arith) _ _ _ refl (c.word_in-word.ensures) c.intersection-tested.ensures (flag_off _ _ c.tile_finite.ensures (ap not c.if-not-tile_finite.true))

pub loop-k-preserved : goal.loop-k-preserved
loop-k-preserved c = tested_more _ _ _ _ _ c.args.listed.tiles.offsets_paired c.args.listed.tiles.metas_paired _ c.loop-k.invariant (omega arith) _ _ _ refl (c.word_in-word.ensures) c.intersection-tested.ensures (flag_on _ _ c.tile_finite.ensures (ap not c.if-not-tile_finite.false))

pub returns : goal.returns
returns c = tested_done _ _ _ _ _ c.args.listed.tiles.offsets_paired c.args.listed.tiles.metas_paired _ c.loop-k.invariant (omega arith)
