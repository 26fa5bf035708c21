use Rattle.topology.specs.Words.{row_member}
use lib.ListN.{drop}
use mathlib.Core.Path.{◌≡◌}
use Rattle.topology_rows.proofs.contains_in.Given as goal

abbrev pub invariant-loop-i : goal.invariant-loop-i
invariant-loop-i l = row_member l.words l.masks l.col ≡ row_member (drop l.i l.words) (drop l.i l.masks) l.col
