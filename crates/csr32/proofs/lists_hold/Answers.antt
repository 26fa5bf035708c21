-- `csr32::lists_hold` meets its contract. Assumes nothing.
use native.Mathlib.Omega.{arith}
use Rattle.csr32.proofs.CsrLaws.{lists_not, lists_rest}
use Rattle.csr32.proofs.lists_hold.Goals as goal

pub returns-then-left-right : goal.returns-then-left-right
returns-then-left-right c = lists_not _ _ _ _ (λ h. omega arith)

pub returns : goal.returns
returns c = lists_rest _ _ _ _ _ (omega arith) c.pointers_hold.ensures
