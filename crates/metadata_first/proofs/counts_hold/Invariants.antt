use mathlib.Core.Bool.{true}
use mathlib.Core.Path.{◌≡◌}
use Prim.Native.Nat.{◌-◌}
use lib.Dec.{eqb}
use lib.ListN.{length}
use Rattle.lent.specs.Lists.{every, part}
use Rattle.word.specs.Bits.{count, from}
use Rattle.topology.specs.Words.{counted, member}
use Rattle.topology.specs.Matrix.{lent_topology}
use Rattle.metadata_first.specs.Store.{counted_store, value_rules}
use Rattle.metadata_first.specs.Matrix.{lent_store}
use Rattle.metadata_first.proofs.counts_hold.Given as goal

abbrev pub invariant-loop-row : goal.invariant-loop-row
invariant-loop-row l = value_rules (counted_store (lent_store l.packed)) ≡ every (λ r. eqb (length (part l.packed.row_value_ptr.now l.packed.values.now r)) (count (member (counted (lent_topology l.packed.topology)) r) l.packed.topology.ncols)) (from (λ r. true) l.row (l.packed.topology.nrows - l.row))
