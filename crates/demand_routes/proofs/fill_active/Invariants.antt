use Prim.Native.Nat.{◌≤◌}
use mathlib.Core.Bool.{true}
use lib.ListN.{length}
use Rattle.lent.proofs.LentLaws.{Filled}
use Rattle.word.specs.Bits.{mask_of}
use Rattle.demand_routes.proofs.fill_active.Given as goal

abbrev pub invariant-loop-w : goal.invariant-loop-w
invariant-loop-w l = (l.w ≤ length l.initial.words) × Filled (mask_of (λ c. true) l.ncols) l.initial.words l.w l.words
