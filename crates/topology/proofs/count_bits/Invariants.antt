use Rattle.topology.specs.Words.{set_bits}
use Rattle.std.proofs.Common.{◌≡◌, ◌%◌, ◌^◌, take}
use Rattle.topology.proofs.count_bits.Given as goal

abbrev pub invariant-loop-mask : goal.invariant-loop-mask
invariant-loop-mask l = l.ones ≡ set_bits (take l.mask-index l.masks) % 2 ^ 64
