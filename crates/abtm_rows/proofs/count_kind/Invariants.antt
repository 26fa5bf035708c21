use Prim.Native.Nat.{◌≤◌}
use mathlib.Core.Path.{◌≡◌}
use lib.ListN.{take}
use Rattle.abtm_rows.specs.Rows.{of_kind}
use Rattle.abtm_rows.proofs.count_kind.Given as goal

abbrev pub invariant-loop-meta : goal.invariant-loop-meta
invariant-loop-meta l = (l.count ≤ l.meta-index) × (l.count ≡ of_kind l.wanted (take l.meta-index l.metas))
