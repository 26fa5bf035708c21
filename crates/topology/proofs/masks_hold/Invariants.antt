use Rattle.std.proofs.Common.{◌≡◌, ◌&&◌, drop}
use Rattle.lent.specs.Lists.{every}
use Rattle.topology.proofs.LastLaws.{nonzero}
use Rattle.topology.proofs.masks_hold.Given as goal

abbrev pub invariant-loop-mask : goal.invariant-loop-mask
invariant-loop-mask l = every nonzero l.masks ≡ (l.holds && every nonzero (drop l.mask-index l.masks))
