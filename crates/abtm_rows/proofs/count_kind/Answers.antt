-- `abtm_rows::count_kind` meets its contract. Assumes nothing.
use mathlib.Core.Path.{sym}
use Rattle.hybit_core.proofs.BoolLaws.{is_equal, is_unequal}
use Rattle.abtm_rows.proofs.RowsLaws.{kind_none, kind_more, kind_same}
use borrow.Author.Rules.{rules}
use Rattle.abtm_rows.proofs.count_kind.Goals.{then-meta-wanted, else-meta-wanted}
use Rattle.abtm_rows.proofs.count_kind.Goals as goal

pub loop-meta-init : goal.loop-meta-init
loop-meta-init c = (search rules, kind_none c.args.metas.now _)

pub loop-meta-preserved : goal.loop-meta-preserved
loop-meta-preserved c =
    elim c.if-meta-wanted.branch [
      | then-meta-wanted w ↦ rw w.count-is (search rules, kind_more c.args.metas.now _ _ _ c.loop-meta.invariant.1 (search rules) (sym (is_equal _ _ w.if-meta-wanted.true)))
      | else-meta-wanted w ↦ rw w.count-is (search rules, kind_same c.args.metas.now _ _ _ c.loop-meta.invariant.1 (search rules) (sym (is_unequal _ _ w.if-meta-wanted.false)))
    ]
