-- `abtm::kind_in` meets its contract. Assumes nothing.
use Rattle.std.proofs.Common.{ap, sym}
use native.Mathlib.Omega.{arith}
use Rattle.abtm.specs.Calls.{kind_numbered}
use Rattle.abtm.proofs.KindLaws.{kind_above}
use Rattle.abtm.proofs.kind_in.Goals as goal

pub returns-in-0 : goal.returns-in-0
returns-in-0 c = sym (ap kind_numbered c.in-0.is)

pub returns-in-1 : goal.returns-in-1
returns-in-1 c = sym (ap kind_numbered c.in-1.is)

pub returns-in-2 : goal.returns-in-2
returns-in-2 c = sym (ap kind_numbered c.in-2.is)

pub returns-in_default : goal.returns-in_default
returns-in_default c = kind_above _ (omega arith)
