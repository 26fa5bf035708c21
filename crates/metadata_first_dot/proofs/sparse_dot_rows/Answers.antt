-- `metadata_first_dot::sparse_dot_rows` meets its contract. Assumes nothing.
use native.Mathlib.Omega.{arith}
use lib.ListN.{length-take}
use Rattle.hybit_core.proofs.AnswerLaws.{answer_refused, answer_accepted}
use Rattle.lent.proofs.LentLaws.{built_refused, built_accepted}
use Rattle.metadata_first_dot.proofs.CallLaws.{rows_operands, sums_room, counts_room, sums_built, counts_built}
use Rattle.metadata_first_dot.proofs.sparse_dot_rows.Goals as goal

pub returns-in-Err : goal.returns-in-Err
returns-in-Err c = let e = c.examine_rows-v.ensures in
    let r = c.in-Err.is in
    record { answer = answer_refused _ _ _ e r; sums = built_refused _ _ _ _ _ _ _ e r c.clear_from.ensures; counts = built_refused _ _ _ _ _ _ _ e r c.clear_from-in-Err.ensures }

pub invariant_of-operands : goal.invariant_of-operands
invariant_of-operands c = record { valid = rows_operands _ _ _ _ c.in_default.is _ _ c.examine_rows-v.ensures }

pub slice_bounds-fill_rows-end : goal.slice_bounds-fill_rows-end
slice_bounds-fill_rows-end c = let h = sums_room _ _ _ _ c.in_default.is _ _ c.examine_rows-v.ensures in
    omega (arith, h)

pub slice_bounds-fill_rows-end-2 : goal.slice_bounds-fill_rows-end-2
slice_bounds-fill_rows-end-2 c = let h = sums_room _ _ _ _ c.in_default.is _ _ c.examine_rows-v.ensures in
    simp length-take (omega (arith, h))

pub slice_bounds-fill_rows-end-3 : goal.slice_bounds-fill_rows-end-3
slice_bounds-fill_rows-end-3 c = let h = counts_room _ _ _ _ c.in_default.is _ _ c.examine_rows-v.ensures in
    omega (arith, h)

pub slice_bounds-fill_rows-end-4 : goal.slice_bounds-fill_rows-end-4
slice_bounds-fill_rows-end-4 c = let h = counts_room _ _ _ _ c.in_default.is _ _ c.examine_rows-v.ensures in
    simp length-take (omega (arith, h))

pub fill_rows-requires : goal.fill_rows-requires
fill_rows-requires c = let h = sums_room _ _ _ _ c.in_default.is _ _ c.examine_rows-v.ensures in
    let k = counts_room _ _ _ _ c.in_default.is _ _ c.examine_rows-v.ensures in
    (simp length-take (omega (arith, h)), simp length-take (omega (arith, k)))

pub returns : goal.returns
returns c = let e = c.examine_rows-v.ensures in
    let r = c.in_default.is in
    record { answer = answer_accepted _ _ e r; sums = built_accepted _ _ _ _ _ _ e r (sums_built _ _ _ _ _ _ c.fill_rows.ensures.sums (sums_room _ _ _ _ c.in_default.is _ _ c.examine_rows-v.ensures) c.clear_from-2.ensures); counts = built_accepted _ _ _ _ _ _ e r (counts_built _ _ _ _ _ _ c.fill_rows.ensures.counts (counts_room _ _ _ _ c.in_default.is _ _ c.examine_rows-v.ensures) c.clear_from-3.ensures) }
