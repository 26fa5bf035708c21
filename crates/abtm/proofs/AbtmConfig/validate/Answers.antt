-- `abtm::AbtmConfig::validate` meets its contract. Assumes nothing.
use native.Mathlib.Omega.{arith}
use Rattle.abtm.proofs.KindLaws.{sparse_low, dense_high, not_below_dense, thresholds_good}
use Rattle.abtm.proofs.AbtmConfig.validate.Goals as goal

pub returns-then-self-lt1 : goal.returns-then-self-lt1
returns-then-self-lt1 c = sparse_low _ c.if-self-lt1.true

pub returns-then-self-gt64 : goal.returns-then-self-gt64
returns-then-self-gt64 c = dense_high _ (omega arith) c.if-self-gt64.true

pub returns-then-self : goal.returns-then-self
returns-then-self c = not_below_dense _ (omega arith) (omega arith) c.if-self.true

pub returns : goal.returns
returns c = thresholds_good _ (omega arith) (omega arith) (omega arith)
