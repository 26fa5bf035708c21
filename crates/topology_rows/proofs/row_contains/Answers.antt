use Rattle.topology.proofs.CallLaws.{row_ok, contains_is, contains_past}
use Rattle.hybit_core.proofs.HandedLaws.{found_accepted, found_is, found_gives}
use Rattle.topology_rows.proofs.row_contains.Goals as goal

pub returns-then-col-topology : goal.returns-then-col-topology
returns-then-col-topology c = let e = c.in_ok-found.ensures.words in
    found_gives _ _ _ e _ _ (contains_past _ _ (row_ok _ _ (found_accepted _ _ _ e)) _ c.if-col-topology.true)

pub returns : goal.returns
returns c = let e = c.in_ok-found.ensures.words in
    found_gives _ _ _ e _ _ (contains_is _ _ (row_ok _ _ (found_accepted _ _ _ e)) _ _ (found_is _ _ _ e) (found_is _ _ _ c.in_ok-found.ensures.masks) _ _ c.if-col-topology.false c.contains_in.ensures)
