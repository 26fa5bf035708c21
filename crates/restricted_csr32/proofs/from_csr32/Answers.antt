-- `restricted_csr32::from_csr32` meets its contract. Assumes nothing.
use Rattle.hybit_core.proofs.AnswerLaws.{given_accepted}
use Rattle.lent.proofs.LentLaws.{built_accepted, appended_cleared}
use Rattle.restricted_csr32.proofs.CallLaws.{restriction_is}
use Rattle.restricted_csr32.proofs.from_csr32.Goals as goal

pub returns : goal.returns
returns c = let e = (rw c.of-capacity.ensures at c.examine-v.ensures) in
    let t = c.in_default.is in
    record { answer = given_accepted _ _ _ _ e t (restriction_is _ _ _ c.fill_rows-kept.ensures.kept); pointers = built_accepted _ _ _ _ _ _ e t (appended_cleared _ _ _ _ _ _ c.fill_rows-kept.ensures.pointers c.fill_rows-kept.auto.out_row_ptr c.clear_from-2.ensures); columns = built_accepted _ _ _ _ _ _ e t (appended_cleared _ _ _ _ _ _ c.fill_rows-kept.ensures.columns c.fill_rows-kept.auto.out_col_idx c.clear_from-3.ensures); values = built_accepted _ _ _ _ _ _ e t (appended_cleared _ _ _ _ _ _ c.fill_rows-kept.ensures.values c.fill_rows-kept.auto.out_values c.clear_from-4.ensures) }
