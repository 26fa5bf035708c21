-- `topology::rows_hold` meets its contract. Assumes nothing.
use Rattle.std.proofs.Common.{ℕ, List, ap, ◌∙◌, ap₂, rules}
use Rattle.topology.proofs.ScanLaws.{rows_none, rows_more, rows_fail, rows_done}
use Rattle.hybit_core.proofs.BoolLaws.{flag_on, flag_off}
use Rattle.topology.specs.Words.{row_rule, row_rules}
use mathlib.Core.Bool.{not}
use Rattle.topology.proofs.rows_hold.Goals as goal

pub loop-row-init : goal.loop-row-init
unfolding row_rules
loop-row-init c = rows_none _ _

pub returns-then-not-row_holds : goal.returns-then-not-row_holds
unfolding row_rules
returns-then-not-row_holds c = rows_fail _ _ _ c.loop-row.invariant (search rules) (flag_off _ _ (c.row_holds.ensures ∙ ap₂ (λ (s t : List ℕ). row_rule c.args.framed.topology.ncols s t) c.row.ensures.words c.row.ensures.masks) (ap not c.if-not-row_holds.true))

pub loop-row-preserved : goal.loop-row-preserved
unfolding row_rules
loop-row-preserved c = rows_more _ _ _ c.loop-row.invariant (search rules) (flag_on _ _ (c.row_holds.ensures ∙ ap₂ (λ (s t : List ℕ). row_rule c.args.framed.topology.ncols s t) c.row.ensures.words c.row.ensures.masks) (ap not c.if-not-row_holds.false))

pub returns : goal.returns
unfolding row_rules
returns c = rows_done _ _ _ c.loop-row.invariant (search rules)
