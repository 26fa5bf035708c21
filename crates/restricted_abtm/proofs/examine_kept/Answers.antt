-- `restricted_abtm::examine_kept` meets its contract. Assumes nothing.
use mathlib.Core.Path.{sym, ◌∙◌, ap}
use Rattle.hybit_core.proofs.BoolLaws.{flag_on, flag_off}
use Rattle.restricted_abtm.proofs.ReadyLaws.{kept-length}
use Rattle.restricted_abtm.proofs.CallLaws.{kept_infinite, kept-many, few_places, kept-good}
use mathlib.Core.Bool.{not}
use Rattle.restricted_abtm.proofs.examine_kept.Goals as goal

pub returns-then-not-kept_finite : goal.returns-then-not-kept_finite
returns-then-not-kept_finite c = kept_infinite _ _ _ _ _ (flag_off _ _ c.kept_finite.ensures (ap not c.if-not-kept_finite.true))

pub count_kept-kept-requires : goal.count_kept-kept-requires
count_kept-kept-requires c = c.requires

pub returns-then-not-entries_fit : goal.returns-then-not-entries_fit
returns-then-not-entries_fit c = kept-many _ _ _ _ _ (flag_on _ _ c.kept_finite.ensures (ap not c.if-not-kept_finite.false)) _ (c.count_kept-kept.ensures ∙ sym (kept-length c.args.listed.values.now c.args.listed.mask.now c.args.listed.tiles.masks.now c.args.listed.tiles.value_offsets.now c.args.listed.tiles.metas.now c.args.listed.tiles.offsets_paired c.args.listed.tiles.metas_paired)) (flag_off _ _ c.entries_fit.ensures (ap not c.if-not-entries_fit.true))

pub returns-then-not-holds : goal.returns-then-not-holds
returns-then-not-holds c = few_places _ _ _ _ _ (flag_on _ _ c.kept_finite.ensures (ap not c.if-not-kept_finite.false)) _ (c.count_kept-kept.ensures ∙ sym (kept-length c.args.listed.values.now c.args.listed.mask.now c.args.listed.tiles.masks.now c.args.listed.tiles.value_offsets.now c.args.listed.tiles.metas.now c.args.listed.tiles.offsets_paired c.args.listed.tiles.metas_paired)) (flag_on _ _ c.entries_fit.ensures (ap not c.if-not-entries_fit.false)) _ c.holds.ensures (ap not c.if-not-holds.true)

pub returns : goal.returns
returns c = kept-good _ _ _ _ _ (flag_on _ _ c.kept_finite.ensures (ap not c.if-not-kept_finite.false)) _ (c.count_kept-kept.ensures ∙ sym (kept-length c.args.listed.values.now c.args.listed.mask.now c.args.listed.tiles.masks.now c.args.listed.tiles.value_offsets.now c.args.listed.tiles.metas.now c.args.listed.tiles.offsets_paired c.args.listed.tiles.metas_paired)) (flag_on _ _ c.entries_fit.ensures (ap not c.if-not-entries_fit.false)) _ c.holds.ensures (ap not c.if-not-holds.false)
