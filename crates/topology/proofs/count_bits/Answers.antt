use Rattle.topology.proofs.ScanLaws.{bits_none, bits_more, bits_done}
use Rattle.std.proofs.Common.{rules, refl}
use Rattle.topology.proofs.count_bits.Goals as goal

pub loop-mask-init : goal.loop-mask-init
loop-mask-init c = search (bits_none, rules)

pub loop-mask-preserved : goal.loop-mask-preserved
loop-mask-preserved c = bits_more _ c.loop-mask.mask-index _ _ _ (search rules) c.loop-mask.invariant c.popcount-ones.ensures refl

pub returns : goal.returns
returns c = search (bits_done, rules)
