use mathlib.Core.Bool.{not, cond, true}
use mathlib.Core.List.{map}
use mathlib.Core.Path.{◌≡◌}
use Prim.Native.Nat.{◌+◌, ◌≤◌}
use lib.ListN.{length, get_or}
use lib.Ieee.{nan}
use Rattle.hybit_core.specs.Floats.{zero64}
use Rattle.lent.specs.Lent.{Appended}
use Rattle.word.specs.Bits.{below}
use Rattle.abtm_values.specs.Values.{is_zero}
use Rattle.abtm_build.proofs.write_dense.Given as goal

abbrev pub invariant-loop-i : goal.invariant-loop-i
invariant-loop-i l = (length l.values ≡ length l.initial.values) × Appended (map (λ j. cond (not (is_zero (get_or l.sums.list.now j nan))) (get_or l.sums.list.now j nan) zero64) (below (λ j'. true) l.i)) l.from (l.from + l.i) l.initial.values l.values × (l.i ≤ 64)
