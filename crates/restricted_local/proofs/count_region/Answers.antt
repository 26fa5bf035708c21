-- `restricted_local::count_region` meets its contract. Assumes nothing.
use mathlib.Core.Path.{◌∙◌, sym}
use native.Mathlib.Omega.{arith}
use Rattle.word.proofs.BelowLaws.{length-below-le}
use Rattle.mask.specs.Mask.{active}
use Rattle.csr32.proofs.CsrLaws.{valid}
use Rattle.restricted_local.proofs.CountLaws.{rows_few, part-few, count-few, counting_none, counting_more, counting_other, counting_done}
use Rattle.mask.specs.Dof.{lent_mask}
use Rattle.restricted_local.proofs.count_region.Goals.{then-is_member, else-is_member}
use Rattle.restricted_local.proofs.count_region.Goals as goal

pub invariant_of-checked : goal.invariant_of-checked
invariant_of-checked c = record { valid = c.requires.list_accepted }

pub loop-row-init : goal.loop-row-init
loop-row-init c = counting_none _ _

pub overflow_add-nodes : goal.overflow_add-nodes
overflow_add-nodes c = omega (arith, c.loop-row.invariant.nodes_are, length-below-le (active (lent_mask c.args.region)) c.loop-row.row, rows_few c.requires)

pub overflow_add-kept : goal.overflow_add-kept
overflow_add-kept c = omega (arith, c.loop-row.invariant.kept_few, rows_few c.requires, count-few c.requires _ _ c.row.ensures.cols (omega arith) _ c.count_active-kept.ensures)

pub overflow_add-source : goal.overflow_add-source
overflow_add-source c = omega (arith, c.loop-row.invariant.source_few, rows_few c.requires, part-few c.requires _ _ c.row.ensures.cols (omega arith))

pub loop-row-preserved : goal.loop-row-preserved
loop-row-preserved c = elim c.if-is_member.branch [
  | then-is_member w ↦ rw (w.nodes-is, w.kept-is, w.source-is) (counting_more _ _ _ _ _ _ c.loop-row.invariant (valid _ c.requires.list_accepted) _ _ (omega arith) (sym w.if-is_member.true ∙ c.is_member.ensures) w.row.ensures.cols w.count_active-kept.ensures)
  | else-is_member w ↦ rw (w.nodes-is, w.kept-is, w.source-is) (counting_other _ _ _ _ _ _ c.loop-row.invariant (omega arith) (sym w.if-is_member.false ∙ c.is_member.ensures))
]

pub returns : goal.returns
returns c = counting_done _ _ _ _ _ _ c.loop-row.invariant (omega arith) c.requires.size_is
