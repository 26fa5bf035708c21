-- `csr32::pointers_hold` meets its contract. Assumes nothing.
use native.Mathlib.Omega.{arith}
use Rattle.csr32.proofs.CsrLaws.{framed-not, framed-rest}
use Rattle.csr32.proofs.pointers_hold.Goals as goal

pub returns-then-row_ptr-nrows : goal.returns-then-row_ptr-nrows
returns-then-row_ptr-nrows c = framed-not _ _ _ (λ f. omega (arith, f.long))

pub returns-then-row_ptr-nrows-2 : goal.returns-then-row_ptr-nrows-2
returns-then-row_ptr-nrows-2 c = framed-not _ _ _ (λ f. omega (arith, f.long))

pub returns-then-row_ptr-ne0 : goal.returns-then-row_ptr-ne0
returns-then-row_ptr-ne0 c = framed-not _ _ _ (λ f. omega (arith, f.zeroth))

pub returns-then-row_ptr-nrows-3 : goal.returns-then-row_ptr-nrows-3
returns-then-row_ptr-nrows-3 c = framed-not _ _ _ (λ f. omega (arith, f.last))

pub returns : goal.returns
returns c = framed-rest _ _ _ _ (omega arith) (omega arith) (omega arith) c.no_fall.ensures
