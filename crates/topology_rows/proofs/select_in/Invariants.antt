use Rattle.topology.proofs.FrontLaws.{Selecting}
use Rattle.topology.specs.Words.{row_member}
use Rattle.topology_rows.proofs.select_in.Given as goal

abbrev pub invariant-loop-k : goal.invariant-loop-k
invariant-loop-k l = Selecting (row_member l.words l.masks) l.checked.ncols l.ordinal l.k l.left
