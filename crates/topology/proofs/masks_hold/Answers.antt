-- `topology::masks_hold` meets its contract. Assumes nothing.
use Rattle.std.proofs.Common.{refl, rules}
use Rattle.topology.proofs.LastLaws.{nonzero_more, nonzero_done}
use Rattle.topology.proofs.masks_hold.Goals as goal

pub loop-mask-init : goal.loop-mask-init
loop-mask-init c = refl

pub loop-mask-preserved : goal.loop-mask-preserved
loop-mask-preserved c = nonzero_more _ c.loop-mask.holds c.loop-mask.mask-index c.loop-mask.invariant (search rules) _ refl

pub returns : goal.returns
returns c = nonzero_done _ c.loop-mask.holds c.loop-mask.mask-index c.loop-mask.invariant (search rules)
