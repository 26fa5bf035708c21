-- `abtm_check::rules_hold` meets its contract. Assumes nothing.
use Rattle.std.proofs.Common.{length, sym, ◌∙◌}
use Rattle.hybit_core.proofs.BoolLaws.{and_right}
use Rattle.csr32.specs.Csr.{framed_lists}
use Rattle.csr32.proofs.FrameLaws.{lists_sides}
use Rattle.topology.proofs.CallLaws.{bits_whole}
use Rattle.abtm_check.proofs.RuleLaws.{counted_held, none_counted, rules_unframed, rules_unequal, rules_rows, rules_counted}
use Rattle.abtm_check.proofs.RunLaws.{kind_holds}
use Rattle.abtm_check.proofs.CompactLaws.{total_compact, total_gapless, total_is, compact_right, pass_kinds, pass_gapless, count_wrong, count_right, counted_fails, mixed_fails}
use Rattle.abtm_check.proofs.rules_hold.Goals as goal

pub returns-then-not-lists_hold : goal.returns-then-not-lists_hold
returns-then-not-lists_hold c = rules_unframed _ _ c.args.matrix.row_tile_ptr.now c.args.matrix.metas.now c.args.matrix.masks.now c.args.matrix.value_offsets.now c.args.matrix.values.now _ c.if-not-lists_hold.ensures

pub returns-then-matrix : goal.returns-then-matrix
returns-then-matrix c = rules_unequal _ _ c.args.matrix.row_tile_ptr.now c.args.matrix.metas.now c.args.matrix.masks.now c.args.matrix.value_offsets.now c.args.matrix.values.now _ c.if-matrix.true

pub invariant_of-tiles : goal.invariant_of-tiles
unfolding framed_lists
invariant_of-tiles c = let sides = lists_sides _ _ _ _ (sym c.if-not-lists_hold.ensures) in record { offsets_paired = c.if-matrix.false ∙ sides; metas_paired = sides; rows_framed = and_right _ _ (sym c.if-not-lists_hold.ensures) }

pub returns-then-rows_hold : goal.returns-then-rows_hold
returns-then-rows_hold c =
    let ms = c.args.matrix.masks.now in
    let os = c.args.matrix.value_offsets.now in
    let ks = c.args.matrix.metas.now in
    let n = length c.args.matrix.values.now in
    let sides = lists_sides _ _ _ _ (sym c.if-not-lists_hold.ensures) in
    let pass = c.if-all_compact.ensures in
    rules_counted _ _ c.args.matrix.row_tile_ptr.now ks ms os c.args.matrix.values.now _ c.if-not-lists_hold.ensures c.if-matrix.false c.if-rows_hold.ensures _
    (compact_right ms os ks (c.if-matrix.false ∙ sides) sides c.args.matrix.values.now _ (total_gapless ms os ks n _ pass) (total_compact ms os ks n _ pass) (total_is ms os ks n _ pass) _ c.count_solid.ensures)

pub returns-else-rows_hold : goal.returns-else-rows_hold
returns-else-rows_hold c = c.if-rows_hold.false ∙ rules_rows _ _ c.args.matrix.row_tile_ptr.now c.args.matrix.metas.now c.args.matrix.masks.now c.args.matrix.value_offsets.now c.args.matrix.values.now _ c.if-not-lists_hold.ensures c.if-rows_hold.ensures

pub returns-in_default : goal.returns-in_default
returns-in_default c =
    let sides = lists_sides _ _ _ _ (sym c.if-not-lists_hold.ensures) in
    mixed_fails _ _ c.args.matrix.row_tile_ptr.now c.args.matrix.metas.now c.args.matrix.masks.now c.args.matrix.value_offsets.now c.args.matrix.values.now _ c.if-not-lists_hold.ensures (c.if-matrix.false ∙ sides) sides (none_counted _ _ c.in_default.ensures)

pub returns-then-bits-matrix : goal.returns-then-bits-matrix
returns-then-bits-matrix c =
    let ms = c.args.matrix.masks.now in
    let os = c.args.matrix.value_offsets.now in
    let ks = c.args.matrix.metas.now in
    let sides = lists_sides _ _ _ _ (sym c.if-not-lists_hold.ensures) in
    let pass = counted_held _ _ _ c.in-Some.ensures in
    counted_fails _ _ c.args.matrix.row_tile_ptr.now ks ms os c.args.matrix.values.now _ c.if-not-lists_hold.ensures (c.if-matrix.false ∙ sides) sides
    (count_wrong ms os ks (c.if-matrix.false ∙ sides) sides c.args.matrix.values.now _ (pass_gapless kind_holds ms os ks _ pass.0) c.requires _ pass.1 (λ e. c.if-bits-matrix.true (sym e)))

pub values_hold-requires-clause-total : goal.values_hold-requires-clause-total
values_hold-requires-clause-total c = sym c.if-bits-matrix.false ∙ bits_whole _ _ c.requires (counted_held _ _ _ c.in-Some.ensures).1

pub returns-then-rows_hold-2 : goal.returns-then-rows_hold-2
returns-then-rows_hold-2 c =
    let ms = c.args.matrix.masks.now in
    let os = c.args.matrix.value_offsets.now in
    let ks = c.args.matrix.metas.now in
    let sides = lists_sides _ _ _ _ (sym c.if-not-lists_hold.ensures) in
    let pass = counted_held _ _ _ c.in-Some.ensures in
    rules_counted _ _ c.args.matrix.row_tile_ptr.now ks ms os c.args.matrix.values.now _ c.if-not-lists_hold.ensures c.if-matrix.false c.if-rows_hold-2.ensures _
    (count_right ms os ks (c.if-matrix.false ∙ sides) sides c.args.matrix.values.now _ (pass_gapless kind_holds ms os ks _ pass.0) c.requires _ pass.1 (sym c.if-bits-matrix.false) (pass_kinds kind_holds ms os ks _ pass.0) _ c.values_hold.ensures)

pub returns-else-rows_hold-2 : goal.returns-else-rows_hold-2
returns-else-rows_hold-2 c = c.if-rows_hold-2.false ∙ rules_rows _ _ c.args.matrix.row_tile_ptr.now c.args.matrix.metas.now c.args.matrix.masks.now c.args.matrix.value_offsets.now c.args.matrix.values.now _ c.if-not-lists_hold.ensures c.if-rows_hold-2.ensures
