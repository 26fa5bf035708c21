-- `restricted_abtm::keep_row` meets its contract. Assumes nothing.
use mathlib.Core.Path.{refl}
use native.Mathlib.Omega.{arith}
use Rattle.restricted_abtm.proofs.ReadyLaws.{ready_word, tile_ready_lem, base_in, bits_in}
use Rattle.restricted_abtm.proofs.KeptLaws.{appending_none, appending_more, all-next, all_columns, all_values}
use Rattle.restricted_abtm.proofs.keep_row.Goals as goal

pub loop-k-init : goal.loop-k-init
loop-k-init c = appending_none _ _ _ _ _ _ _ _ _

pub bounds-listed-word : goal.bounds-listed-word
bounds-listed-word c = omega (arith, ready_word _ _ _ (tile_ready_lem c.args.listed.tiles.masks.now c.args.listed.tiles.value_offsets.now c.args.listed.tiles.metas.now c.args.listed.values.now c.args.listed.mask.now c.args.listed.tiles.offsets_paired c.args.listed.tiles.metas_paired c.loop-k.k _ (omega arith) refl c.args.listed.ready))

pub keep_tile-at-requires : goal.keep_tile-at-requires
keep_tile-at-requires c = record { base = base_in c.args.listed.tiles.masks.now c.args.listed.tiles.value_offsets.now c.args.listed.tiles.metas.now c.args.listed.values.now c.args.listed.mask.now c.args.listed.tiles.offsets_paired c.args.listed.tiles.metas_paired _ _ (omega arith) refl _ _ (c.word_in-word.ensures) c.intersection-bits.ensures c.args.listed.ready c.requires.words; inside = bits_in c.args.listed.tiles.masks.now c.args.listed.tiles.value_offsets.now c.args.listed.tiles.metas.now c.args.listed.values.now c.args.listed.mask.now c.args.listed.tiles.offsets_paired c.args.listed.tiles.metas_paired _ _ (omega arith) refl _ _ (c.word_in-word.ensures) c.intersection-bits.ensures c.args.listed.ready; room = (omega (arith, c.loop-k.invariant.columns.same, c.requires.room), omega (arith, c.loop-k.invariant.values.same, c.requires.room)); few = omega (arith, c.loop-k.invariant.few, c.requires.few) }

pub loop-k-preserved : goal.loop-k-preserved
loop-k-preserved c = appending_more _ _ _ _ _ _ _ _ _ c.args.listed.tiles.offsets_paired c.args.listed.tiles.metas_paired _ _ _ _ c.loop-k.invariant (omega arith) _ _ _ refl (c.word_in-word.ensures) c.intersection-bits.ensures _ _ _
    c.keep_tile-at.ensures.next c.keep_tile-at.ensures.columns c.keep_tile-at.ensures.values c.keep_tile-at.auto.out_col_idx c.keep_tile-at.auto.out_values

pub returns : goal.returns
returns c = let eo = c.args.listed.tiles.offsets_paired in
    let em = c.args.listed.tiles.metas_paired in
    let inv = c.loop-k.invariant in
    record { next = all-next _ _ _ _ _ _ _ _ _ eo em _ _ _ _ inv (omega arith); columns = all_columns _ _ _ _ _ _ _ _ _ eo em _ _ _ _ inv (omega arith); values = all_values _ _ _ _ _ _ _ _ _ eo em _ _ _ _ inv (omega arith) }
