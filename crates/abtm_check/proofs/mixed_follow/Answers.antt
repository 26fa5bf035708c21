-- `abtm_check::mixed_follow` meets its contract. Assumes nothing.
use mathlib.Core.Path.{refl}
use Rattle.std.proofs.Common.{◌∙◌, ap₂, rules}
use Rattle.std.specs.Bool.{then_some}
use Rattle.topology.proofs.ScanLaws.{bits_none}
use Rattle.abtm_check.proofs.RunLaws.{kind_holds}
use Rattle.abtm_check.proofs.CompactLaws.{scanning_empty, scanning_none, scanning_more, scanning_done, none-set, more_set, all_set}
use Rattle.abtm_check.proofs.mixed_follow.Goals as goal

pub returns-then-count-eq0 : goal.returns-then-count-eq0
returns-then-count-eq0 c = c.then_some.ensures ∙ ap₂ then_some (scanning_empty kind_holds _ _ _ _ c.args.tiles.metas_paired c.if-count-eq0.true) (none-set _ c.if-count-eq0.true)

pub loop-i-init : goal.loop-i-init
loop-i-init c = (scanning_none kind_holds _ _ _ _ c.args.tiles.offsets_paired c.args.tiles.metas_paired c.if-count-eq0.false, bits_none c.args.tiles.matrix.masks.now)

pub loop-i-preserved : goal.loop-i-preserved
loop-i-preserved c = let h = c.loop-i-test.true in
    (scanning_more kind_holds _ _ _ _ _ _ c.loop-i.invariant.0 h _ _ _ refl (rw (c.tile-tile.ensures.mask, c.tile-tile.ensures.offset, c.tile-tile.ensures.meta) at c.tile_holds-holds.ensures) refl, more_set _ _ _ _ _ c.loop-i.invariant.0.offsets.after h c.loop-i.invariant.1 (rw c.tile-tile.ensures.mask at c.popcount-bits.ensures) refl)

pub returns : goal.returns
returns c =
    c.then_some-2.ensures
    ∙ ap₂ then_some
    (scanning_done kind_holds _ _ _ _ _ _ c.loop-i.invariant.0 (search rules) _ _ (rw (c.tile-last.ensures.mask, c.tile-last.ensures.offset, c.tile-last.ensures.meta) at c.tile_holds-holds-2.ensures) refl)
    (all_set _ _ _ _ _ c.loop-i.invariant.0.offsets.after c.loop-i.invariant.0.offsets.inside (search rules) c.loop-i.invariant.1 (rw c.tile-last.ensures.mask at c.popcount-bits-2.ensures) refl)
