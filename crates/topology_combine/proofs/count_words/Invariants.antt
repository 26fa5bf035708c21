use mathlib.Core.Path.{◌≡◌}
use Prim.Native.Nat.{◌≤◌}
use lib.ListN.{length}
use Rattle.lent.specs.Lists.{joined}
use Rattle.topology.specs.Matrix.{lent_topology}
use Rattle.topology_combine.proofs.RowsLaws.{words_at}
use Rattle.topology_combine.proofs.count_words.Given as goal

abbrev pub invariant-loop-row : goal.invariant-loop-row
invariant-loop-row l = (l.row ≤ l.topology.nrows) × (l.count ≡ length (joined (words_at l.operation (lent_topology l.topology) (lent_topology l.other)) l.row))
