-- `csr32::storage_bytes` meets its contract. Assumes nothing.
use mathlib.Core.Path.{refl}
use native.Mathlib.Omega.{arith}
use Rattle.hybit_core.proofs.AnswerLaws.{given_accepted}
use Rattle.csr32.specs.Csr.{csr_storage_bytes, csr_metadata_bytes}
use Rattle.csr32.proofs.CsrLaws.{checked, pointers_few}
use Rattle.csr32.proofs.matrix.Csr32Matrix.storage_bytes.Goals as goal

pub overflow_add-result-2 : goal.overflow_add-result-2
overflow_add-result-2 c = let v = checked _ _ c.check.ensures c.in_ok-check.was in
    omega (arith, pointers_few v)

pub returns : goal.returns
unfolding csr_storage_bytes csr_metadata_bytes
returns c = given_accepted _ _ _ _ c.check.ensures c.in_ok-check.was refl
