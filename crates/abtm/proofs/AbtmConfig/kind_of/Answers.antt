-- `abtm::AbtmConfig::kind_of` meets its contract. Assumes nothing.
use native.Mathlib.Omega.{arith}
use Rattle.abtm.proofs.KindLaws.{sparse_kind, dense_kind, bitmap_kind}
use Rattle.abtm.proofs.AbtmConfig.kind_of.Goals as goal

pub returns-then-nnz-self : goal.returns-then-nnz-self
returns-then-nnz-self c = sparse_kind _ _ c.if-nnz-self.true

pub returns-then-nnz-self-2 : goal.returns-then-nnz-self-2
returns-then-nnz-self-2 c = dense_kind _ _ (omega arith) c.if-nnz-self-2.true

pub returns : goal.returns
returns c = bitmap_kind _ _ (omega arith) (omega arith)
