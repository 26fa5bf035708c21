-- `restricted_local::from_csr32` meets its contract. Assumes nothing.
use native.Mathlib.Omega.{arith}
use lib.ListN.{length-take}
use Rattle.restricted_local.specs.Region.{region_answer}
use Rattle.restricted_local.proofs.CountLaws.{rows_few, local_fits}
use Rattle.restricted_local.proofs.CheckLaws.{local_accepted, built_accepts, built_answer, built_nothing, built-all, front_used}
use Rattle.restricted_local.proofs.from_csr32.Goals as goal

pub returns-in-Err : goal.returns-in-Err
returns-in-Err c = let e = (rw c.of-capacity.ensures at c.examine-v.ensures) in
    let k = c.in-Err.is in
    record { answer = built_answer _ _ _ _ _ e _ k; members = built_nothing _ _ _ _ _ e _ _ _ _ _ k c.clear_from.ensures; pointers = built_nothing _ _ _ _ _ e _ _ _ _ _ k c.clear_from-in-Err.ensures; columns = built_nothing _ _ _ _ _ e _ _ _ _ _ k c.clear_from-in-Err-2.ensures; values = built_nothing _ _ _ _ _ e _ _ _ _ _ k c.clear_from-in-Err-3.ensures }

pub write_members-nodes-requires : goal.write_members-nodes-requires
write_members-nodes-requires c = let ok = built_accepts _ _ _ _ _ (rw c.of-capacity.ensures at c.examine-v.ensures) _ c.in_default.is in
    let l = local_accepted _ _ _ _ ok in
    let f = local_fits _ _ _ _ l.1 in
    (omega (arith, l.0.size_is, rows_few l.0), f.0)

pub slice_bounds-rows-end : goal.slice_bounds-rows-end
slice_bounds-rows-end c = let ok = built_accepts _ _ _ _ _ (rw c.of-capacity.ensures at c.examine-v.ensures) _ c.in_default.is in
    let l = local_accepted _ _ _ _ ok in
    let f = local_fits _ _ _ _ l.1 in
    omega (arith, f.0, c.write_members-nodes.ensures.count, c.write_members-nodes.auto.members)

pub slice_bounds-rows-end-2 : goal.slice_bounds-rows-end-2
slice_bounds-rows-end-2 c = let ok = built_accepts _ _ _ _ _ (rw c.of-capacity.ensures at c.examine-v.ensures) _ c.in_default.is in
    let l = local_accepted _ _ _ _ ok in
    let f = local_fits _ _ _ _ l.1 in
    simp length-take (omega (arith, f.0, c.write_members-nodes.ensures.count, c.write_members-nodes.auto.members))

pub invariant_of-rows : goal.invariant_of-rows
invariant_of-rows c = let ok = built_accepts _ _ _ _ _ (rw c.of-capacity.ensures at c.examine-v.ensures) _ c.in_default.is in
    let l = local_accepted _ _ _ _ ok in
    record { accepted = l.0; listed = front_used _ _ _ _ _ c.write_members-nodes.ensures.list c.write_members-nodes.ensures.count }

pub write_lists-requires : goal.write_lists-requires
write_lists-requires c = let ok = built_accepts _ _ _ _ _ (rw c.of-capacity.ensures at c.examine-v.ensures) _ c.in_default.is in
    let l = local_accepted _ _ _ _ ok in
    (local_fits _ _ _ _ l.1).1

pub returns : goal.returns
unfolding region_answer
returns c = let e = (rw c.of-capacity.ensures at c.examine-v.ensures) in
    let ok = built_accepts _ _ _ _ _ e _ c.in_default.is in
    record { answer = e; members = built-all _ _ _ _ _ ok c.write_members-nodes.ensures.list; pointers = built-all _ _ _ _ _ ok c.write_lists.ensures.pointers; columns = built-all _ _ _ _ _ ok c.write_lists.ensures.columns; values = built-all _ _ _ _ _ ok c.write_lists.ensures.values }
