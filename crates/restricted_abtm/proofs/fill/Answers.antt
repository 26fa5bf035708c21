-- `restricted_abtm::fill` meets its contract. Assumes nothing.
use mathlib.Core.Path.{◌≡◌, refl, sym, ap, ◌∙◌}
use native.Mathlib.Omega.{arith}
use lib.ListN.{length}
use Rattle.std.proofs.Common.{rules}
use Rattle.hybit_core.specs.Table.{told}
use Rattle.hybit_core.proofs.AnswerLaws.{given_refused, given_accepted, given_refused_by}
use Rattle.restricted_abtm.proofs.CallLaws.{many_tiles, offsets_long, metas_long, tiles_ready, by_kept, pointers_short, entries_short, last_written}
use Rattle.restricted_abtm.proofs.fill.Goals as goal

pub invariant_of-listed : goal.invariant_of-listed
invariant_of-listed c = record { offsets_paired = offsets_long _ _ _ c.requires ∙ sym (ap length c.masks_of-masks.ensures); metas_paired = metas_long _ _ _ c.requires ∙ sym (ap length c.masks_of-masks.ensures) }

pub invariant_of-listed-then-out_row_ptr-tiles : goal.invariant_of-listed-then-out_row_ptr-tiles
invariant_of-listed-then-out_row_ptr-tiles c = record { ready = rw c.masks_of-masks.ensures (tiles_ready _ _ _ c.requires (λ k. rw (← c.masks_of-masks.ensures) (c.masks_of-masks.items_fit k).fits)) }

pub examine_kept-requires : goal.examine_kept-requires
examine_kept-requires c = omega (arith, ap length c.masks_of-masks.ensures, many_tiles _ _ _ c.requires)

pub returns-in_err-examine_kept : goal.returns-in_err-examine_kept
returns-in_err-examine_kept c = let e = by_kept _ _ _ c.requires _ _ _ _ _ _ _ refl refl refl (rw (c.masks_of-masks.ensures, c.of-capacity.ensures) at c.examine_kept.ensures) in
    record { answer = given_refused_by _ _ _ (search rules) (given_refused _ _ _ _ e c.in_err-examine_kept.was); lists = λ k h. search rules }

pub returns-then-out_row_ptr-tiles : goal.returns-then-out_row_ptr-tiles
returns-then-out_row_ptr-tiles c = let e = by_kept _ _ _ c.requires _ _ _ _ _ _ _ refl refl refl (rw (c.masks_of-masks.ensures, c.of-capacity.ensures) at c.examine_kept.ensures) in
    absurd (pointers_short _ _ _ _ _ _ c.if-out_row_ptr-tiles.true _ e (ap told c.in_ok-examine_kept.was))

pub invariant_of-listed-then-room-kept : goal.invariant_of-listed-then-room-kept
invariant_of-listed-then-room-kept c = record { ready = rw c.masks_of-masks.ensures (tiles_ready _ _ _ c.requires (λ k. rw (← c.masks_of-masks.ensures) (c.masks_of-masks.items_fit k).fits)) }

pub examine_kept-requires-then-room-kept : goal.examine_kept-requires-then-room-kept
examine_kept-requires-then-room-kept c = omega (arith, ap length c.masks_of-masks.ensures, many_tiles _ _ _ c.requires)

pub returns-in_err-examine_kept-2 : goal.returns-in_err-examine_kept-2
returns-in_err-examine_kept-2 c = let e = by_kept _ _ _ c.requires _ _ _ _ _ _ _ refl refl refl (rw (c.masks_of-masks.ensures, c.of-capacity.ensures) at c.examine_kept-then-room-kept.ensures) in
    record { answer = given_refused_by _ _ _ (search rules) (given_refused _ _ _ _ e c.in_err-examine_kept-2.was); lists = λ k h. search rules }

pub returns-then-room-kept : goal.returns-then-room-kept
returns-then-room-kept c = let e = by_kept _ _ _ c.requires _ _ _ _ _ _ _ refl refl refl (rw (c.masks_of-masks.ensures, c.of-capacity.ensures) at c.examine_kept-then-room-kept.ensures) in
    absurd (entries_short _ _ _ _ _ _ _ _ c.fill_rows-kept.ensures.kept c.min-room.ensures c.if-room-kept.true _ e (ap told c.in_ok-examine_kept-2.was))

pub returns-in_err-examine_written : goal.returns-in_err-examine_written
returns-in_err-examine_written c = let e = last_written _ _ _ _ _ _ _ _ c.fill_rows-kept.ensures.kept c.min-room.ensures (omega arith) (omega arith) _ _ _ (c.fill_rows-kept.ensures.values (omega arith)) c.examine_written.ensures in
    record { answer = given_refused_by _ _ _ (search rules) (given_refused _ _ _ _ e c.in_err-examine_written.was); lists = λ k h. search rules }

pub returns : goal.returns
returns c = let e = last_written _ _ _ _ _ _ _ _ c.fill_rows-kept.ensures.kept c.min-room.ensures (omega arith) (omega arith) _ _ _ (c.fill_rows-kept.ensures.values (omega arith)) c.examine_written.ensures in
    record { answer = given_accepted _ _ _ _ e c.in_ok-examine_written.was c.fill_rows-kept.ensures.kept; lists = λ k h. let q : c.fill_rows-kept.result ≡ k = cc h in rw (← q) (record { number = c.fill_rows-kept.ensures.kept; pointers = c.fill_rows-kept.ensures.pointers; columns = c.fill_rows-kept.ensures.columns (omega arith); values = c.fill_rows-kept.ensures.values (omega arith) }) }
