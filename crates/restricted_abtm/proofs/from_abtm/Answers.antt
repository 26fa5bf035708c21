-- `restricted_abtm::from_abtm` meets its contract. Assumes nothing.
use mathlib.Core.Path.{refl, ap}
use native.Mathlib.Omega.{arith}
use Rattle.hybit_core.specs.Answer.{gives}
use Rattle.hybit_core.proofs.AnswerLaws.{given_refused, accepted_by}
use Rattle.lent.proofs.LentLaws.{built_refused, appended_cleared}
use Rattle.restricted_abtm.proofs.FillLaws.{rows_few}
use Rattle.restricted_abtm.proofs.CallLaws.{records_refuse, fill_refuses, fill_accepts, wiped, restriction_is}
use Rattle.restricted_abtm.proofs.from_abtm.Goals as goal

pub returns-in-Err : goal.returns-in-Err
returns-in-Err c = let no = c.in-Err.is in
    let said = records_refuse _ _ _ _ _ c.examine-v.ensures no in
    record { answer = given_refused _ _ _ _ said no; pointers = built_refused _ _ _ _ _ _ _ said no c.clear_lists.ensures.pointers; columns = built_refused _ _ _ _ _ _ _ said no c.clear_lists.ensures.columns; values = built_refused _ _ _ _ _ _ _ said no c.clear_lists.ensures.values }

pub returns-in-Err-fill : goal.returns-in-Err-fill
returns-in-Err-fill c = let said = fill_refuses _ _ _ _ c.examine-v.ensures c.in_default.is _ _ c.fill.ensures.answer _ c.in-Err-fill.is in
    record { answer = rw said refl; pointers = rw said (wiped _ _ _ _ c.fill.auto.out_row_ptr c.clear_lists-in-Err-fill.ensures.pointers); columns = rw said (wiped _ _ _ _ c.fill.auto.out_col_idx c.clear_lists-in-Err-fill.ensures.columns); values = rw said (wiped _ _ _ _ c.fill.auto.out_values c.clear_lists-in-Err-fill.ensures.values) }

pub overflow_add-tiles : goal.overflow_add-tiles
overflow_add-tiles c = omega (arith, rows_few _ _ _ (accepted_by _ _ c.examine-v.ensures c.in_default.is))

pub returns-in-Ok : goal.returns-in-Ok
returns-in-Ok c = let said = fill_accepts _ _ _ _ c.examine-v.ensures c.in_default.is _ _ c.fill.ensures.answer _ c.in-Ok.is in
    let f = c.fill.ensures.lists _ c.in-Ok.is in
    record { answer = rw said (ap gives (restriction_is _ _ _ f.number)); pointers = rw said (appended_cleared _ _ _ _ _ _ f.pointers c.fill.auto.out_row_ptr c.clear_lists-in-Ok.ensures.pointers); columns = rw said (appended_cleared _ _ _ _ _ _ f.columns c.fill.auto.out_col_idx c.clear_lists-in-Ok.ensures.columns); values = rw said (appended_cleared _ _ _ _ _ _ f.values c.fill.auto.out_values c.clear_lists-in-Ok.ensures.values) }
