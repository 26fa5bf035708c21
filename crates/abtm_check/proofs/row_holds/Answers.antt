-- `abtm_check::row_holds` meets its contract. Assumes nothing.
use mathlib.Core.Path.{refl, ap}
use Rattle.std.proofs.Common.{map, rules, sym, ◌∙◌}
use lib.ListN.{length-map}
use Rattle.hybit_core.proofs.BoolLaws.{flag_on, flag_off}
use Rattle.abtm.specs.Tiles.{word_in}
use Rattle.topology.proofs.LastLaws.{row_empty, row_not_climbing}
use Rattle.abtm_check.proofs.MetaLaws.{row_by_last_meta, row_inside}
use mathlib.Core.Bool.{not}
use Rattle.abtm_check.proofs.row_holds.Goals as goal

pub returns-then-metas-eq0 : goal.returns-then-metas-eq0
returns-then-metas-eq0 c = row_empty _ (map word_in c.args.row.metas.now) _ (length-map c.args.row.metas.now word_in ∙ c.if-metas-eq0.true)

pub returns-then-not-numbers_climb : goal.returns-then-not-numbers_climb
returns-then-not-numbers_climb c = row_not_climbing _ _ _ (flag_off _ _ c.numbers_climb.ensures (ap not c.if-not-numbers_climb.true))

pub returns-then-index-ncols : goal.returns-then-index-ncols
returns-then-index-ncols c = row_inside _ c.args.row.metas.now _ (sym c.args.row.metas_paired) c.if-metas-eq0.false (flag_on _ _ c.numbers_climb.ensures (ap not c.if-not-numbers_climb.false)) c.requires _ c.word_in-index.ensures c.if-index-ncols.true

pub returns : goal.returns
returns c = row_by_last_meta _ c.args.row.metas.now _ (sym c.args.row.metas_paired) (search rules) c.if-metas-eq0.false (flag_on _ _ c.numbers_climb.ensures (ap not c.if-not-numbers_climb.false)) (sym c.requires) _ _ _ c.word_in-index.ensures refl c.word_holds.ensures
