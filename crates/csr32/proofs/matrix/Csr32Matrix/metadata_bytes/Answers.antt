-- `csr32::metadata_bytes` meets its contract. Assumes nothing.
use mathlib.Core.Path.{refl}
use Rattle.hybit_core.proofs.AnswerLaws.{given_accepted}
use Rattle.csr32.specs.Csr.{csr_metadata_bytes}
use Rattle.csr32.proofs.matrix.Csr32Matrix.metadata_bytes.Goals as goal

pub returns : goal.returns
unfolding csr_metadata_bytes
returns c = given_accepted _ _ _ _ c.check.ensures c.in_ok-check.was refl
