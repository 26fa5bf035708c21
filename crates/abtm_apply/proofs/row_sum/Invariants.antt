use Rattle.abtm_apply.proofs.RowLaws.{Summing}
use Rattle.abtm_apply.proofs.row_sum.Given as goal

abbrev pub invariant-loop-i : goal.invariant-loop-i
invariant-loop-i l = Summing l.row.masks.now l.row.value_offsets.now l.row.metas.now l.values l.x l.i l.sum
