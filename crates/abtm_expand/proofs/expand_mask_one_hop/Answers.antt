-- `abtm_expand::expand_mask_one_hop` meets its contract. Assumes nothing.
use native.Mathlib.Omega.{arith}
use lib.ListN.{length-take}
use Rattle.hybit_core.proofs.AnswerLaws.{accepted_by}
use Rattle.abtm_expand.proofs.ExpandLaws.{expand_facts, expand_used}
use Rattle.abtm_expand.proofs.CallLaws.{front_long}
use Rattle.abtm_expand.proofs.expand_mask_one_hop.Goals as goal

pub slice_bounds-fill_mask-end : goal.slice_bounds-fill_mask-end
slice_bounds-fill_mask-end c = let e = c.examine_expand.ensures in
    let r = c.in_default.is in
    let f = expand_facts _ _ _ _ (accepted_by _ _ e r) in
    omega (arith, f.room_in, f.mask.counted)

pub slice_bounds-fill_mask-end-2 : goal.slice_bounds-fill_mask-end-2
slice_bounds-fill_mask-end-2 c = let e = c.examine_expand.ensures in
    let r = c.in_default.is in
    let f = expand_facts _ _ _ _ (accepted_by _ _ e r) in
    simp length-take (omega (arith, f.room_in, f.mask.counted))

pub fill_mask-requires : goal.fill_mask-requires
fill_mask-requires c = let e = c.examine_expand.ensures in
    let r = c.in_default.is in
    let f = expand_facts _ _ _ _ (accepted_by _ _ e r) in
    let long = front_long c.args.mask.len c.args.mask.words.now c.args.out.now f.mask.counted f.room_in in
    record { valid = expand_used _ _ _ _ _ (accepted_by _ _ e r) long; long = long }
