use Prim.Native.Nat.{◌≤◌, ◌+◌}
use Rattle.hybit_core.specs.Floats.{zero64}
use Rattle.csr32.proofs.SumLaws.{Adding}
use Rattle.csr32_apply.proofs.sum_three.Given as goal

abbrev pub invariant-loop-i : goal.invariant-loop-i
invariant-loop-i l = (l.i ≤ l.n) × Adding l.operands.matrix.col_idx.now l.operands.matrix.values.now l.operands.x.now l.a l.a_end zero64 (l.a + l.i) l.first × Adding l.operands.matrix.col_idx.now l.operands.matrix.values.now l.operands.x.now l.b l.b_end zero64 (l.b + l.i) l.second × Adding l.operands.matrix.col_idx.now l.operands.matrix.values.now l.operands.x.now l.c l.c_end zero64 (l.c + l.i) l.third
