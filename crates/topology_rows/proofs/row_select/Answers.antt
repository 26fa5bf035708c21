use Rattle.topology.proofs.CallLaws.{row_ok, select_is}
use Rattle.hybit_core.proofs.HandedLaws.{found_accepted, found_is, found_gives}
use Rattle.topology_rows.proofs.row_select.Goals as goal

pub returns : goal.returns
returns c = let e = c.in_ok-found.ensures.words in
    found_gives _ _ _ e _ _ (select_is _ _ (row_ok _ _ (found_accepted _ _ _ e)) _ _ (found_is _ _ _ e) (found_is _ _ _ c.in_ok-found.ensures.masks) _ _ (rw (found_is _ _ _ c.in_ok-found.ensures.ncols) at c.select_in.ensures))
