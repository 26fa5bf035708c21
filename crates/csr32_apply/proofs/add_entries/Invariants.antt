use Prim.Native.Nat.{◌≤◌}
use Rattle.csr32.proofs.SumLaws.{Adding}
use Rattle.csr32_apply.proofs.add_entries.Given as goal

abbrev pub invariant-loop-p : goal.invariant-loop-p
invariant-loop-p l = (l.p ≤ l.to) × Adding l.operands.matrix.col_idx.now l.operands.matrix.values.now l.operands.x.now l.from l.to l.start l.p l.sum
