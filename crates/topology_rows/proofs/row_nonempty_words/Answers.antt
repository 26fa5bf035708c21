use Rattle.topology.proofs.RowLaws.{small_is}
use Rattle.topology.proofs.CallLaws.{row_ok, nonempty_is}
use Rattle.hybit_core.proofs.HandedLaws.{found_accepted, found_is, found_gives}
use Rattle.topology_rows.proofs.row_nonempty_words.Goals as goal

pub returns : goal.returns
returns c = let e = c.in_ok-checked_row.ensures in
    let row = c.in_ok-checked_row.field-0 in
    found_gives _ _ _ e.words _ _ (nonempty_is _ _ (row_ok _ _ (found_accepted _ _ _ e.words)) _ _ (found_is _ _ _ e.words) (found_is _ _ _ e.masks) (small_is _ row.row.masks_fit))
