use mathlib.Core.Path.{◌≡◌}
use Prim.Native.Nat.{◌≤◌, ◌<◌}
use lib.ListN.{drop}
use Rattle.word.specs.Bits.{has, count, members}
use Rattle.word.proofs.select.Given as goal

abbrev pub invariant-loop : goal.invariant-loop
invariant-loop l = (members l.bits ≡ drop l.counter (members l.mask)) × (l.counter ≤ l.ordinal) × (l.ordinal < count (has l.mask) 64)
