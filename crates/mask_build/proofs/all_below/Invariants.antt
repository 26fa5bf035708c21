use mathlib.Core.Path.{◌≡◌}
use Prim.Native.Nat.{◌≤◌}
use lib.Dec.{ltb}
use lib.ListN.{length, drop}
use Rattle.lent.specs.Lists.{every}
use Rattle.mask_build.proofs.all_below.Given as goal

abbrev pub invariant-loop-index : goal.invariant-loop-index
invariant-loop-index l = (l.index-index ≤ length l.indices) × (every (λ i. ltb i l.len) l.indices ≡ every (λ i. ltb i l.len) (drop l.index-index l.indices))
