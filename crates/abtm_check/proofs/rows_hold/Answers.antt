-- `abtm_check::rows_hold` meets its contract. Assumes nothing.
use Rattle.std.proofs.Common.{ap, ◌∙◌, rules}
use Rattle.hybit_core.proofs.BoolLaws.{flag_on, flag_off}
use Rattle.lent.specs.Lists.{every}
use Rattle.lent.proofs.ListLaws.{every-part}
use Rattle.topology.specs.Words.{row_rules}
use Rattle.topology.proofs.LastLaws.{nonzero}
use Rattle.topology.proofs.ScanLaws.{rows_none, rows_more, rows_fail, rows_done}
use Rattle.abtm_check.proofs.MetaLaws.{row_told}
use mathlib.Core.Bool.{not}
use Rattle.abtm_check.proofs.rows_hold.Goals as goal

pub loop-row-init : goal.loop-row-init
unfolding row_rules
loop-row-init c = rows_none _ _

pub row_holds-requires : goal.row_holds-requires
row_holds-requires c = ap (every nonzero) c.row.ensures.masks ∙ every-part nonzero _ _ _ c.requires

pub returns-then-not-row_holds : goal.returns-then-not-row_holds
unfolding row_rules
returns-then-not-row_holds c = rows_fail _ _ _ c.loop-row.invariant (search rules) (flag_off _ _ (row_told _ _ c.args.tiles.matrix.metas.now _ _ _ _ c.row.ensures.metas c.row.ensures.masks _ c.row_holds.ensures) (ap not c.if-not-row_holds.true))

pub loop-row-preserved : goal.loop-row-preserved
unfolding row_rules
loop-row-preserved c = rows_more _ _ _ c.loop-row.invariant (search rules) (flag_on _ _ (row_told _ _ c.args.tiles.matrix.metas.now _ _ _ _ c.row.ensures.metas c.row.ensures.masks _ c.row_holds.ensures) (ap not c.if-not-row_holds.false))

pub returns : goal.returns
unfolding row_rules
returns c = rows_done _ _ _ c.loop-row.invariant (search rules)
