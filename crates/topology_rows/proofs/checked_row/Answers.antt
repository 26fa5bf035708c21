use Rattle.topology.proofs.CallLaws.{row_checked, rule_lent}
use Rattle.topology_rows.proofs.checked_row.Goals as goal

pub invariant_of-framed : goal.invariant_of-framed
invariant_of-framed c = record { framed = (row_checked _ _ _ c.check_row.ensures c.in_ok-check_row.was).facts.lists }

pub invariant_of-result : goal.invariant_of-result
invariant_of-result c = let ok = row_checked _ _ _ c.check_row.ensures c.in_ok-check_row.was in
    record { few = ok.facts.cols_in; rule = rule_lent _ _ ok _ _ c.row.ensures.words c.row.ensures.masks }
