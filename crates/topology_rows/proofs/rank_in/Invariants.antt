use Rattle.topology.proofs.FrontLaws.{Ranking}
use Rattle.topology.specs.Words.{row_member}
use Rattle.topology_rows.proofs.rank_in.Given as goal

abbrev pub invariant-loop-i : goal.invariant-loop-i
invariant-loop-i l = Ranking (row_member l.words l.masks) l.checked.ncols l.col l.i l.rank
