use Rattle.dense_block.specs.Operator.{lent_blocks}
use Rattle.dense_block_apply.proofs.RowLaws.{Beside}
use Rattle.dense_block_apply.proofs.two_rows.Given as goal

abbrev pub invariant-loop-i : goal.invariant-loop-i
invariant-loop-i g l = let m = (record (lent_blocks l.operands.matrix) { width = g.row.WIDTH }) in
    Beside m l.operands.x.now l.row l.a l.n l.i l.one × Beside m l.operands.x.now l.other l.b l.n l.i l.two
