-- `abtm_check::compact_follow` meets its contract. Assumes nothing.
use mathlib.Core.Path.{refl}
use Rattle.std.proofs.Common.{rules}
use Rattle.abtm_check.proofs.CompactLaws.{compact_kind, scanning_empty, scanning_none, scanning_more, scanning_done}
use Rattle.abtm_check.proofs.compact_follow.Goals as goal

pub returns-then-count-eq0 : goal.returns-then-count-eq0
returns-then-count-eq0 c = scanning_empty compact_kind _ _ _ _ c.args.tiles.metas_paired c.if-count-eq0.true

pub loop-i-init : goal.loop-i-init
loop-i-init c = scanning_none compact_kind _ _ _ _ c.args.tiles.offsets_paired c.args.tiles.metas_paired c.if-count-eq0.false

pub loop-i-preserved : goal.loop-i-preserved
loop-i-preserved c = scanning_more compact_kind _ _ _ _ _ _ c.loop-i.invariant c.loop-i-test.true _ _ _ refl (rw (c.tile.ensures.mask, c.tile.ensures.offset, c.tile.ensures.meta) at c.compact_holds-holds.ensures) refl

pub returns : goal.returns
returns c = scanning_done compact_kind _ _ _ _ _ _ c.loop-i.invariant (search rules) _ _ (rw (c.tile-2.ensures.mask, c.tile-2.ensures.offset, c.tile-2.ensures.meta) at c.compact_holds.ensures) refl
