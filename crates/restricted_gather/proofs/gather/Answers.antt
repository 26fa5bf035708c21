-- `restricted_gather::gather` meets its contract. Assumes nothing.
use mathlib.Core.Path.{refl, ◌∙◌}
use native.Mathlib.Omega.{arith}
use Rattle.lent.proofs.LentLaws.{filled_none, filled_more, filled_done}
use Rattle.csr32.proofs.CsrLaws.{column_below}
use Rattle.restricted_gather.proofs.MemberLaws.{gathered_is}
use Rattle.restricted_gather.proofs.gather.Goals as goal

pub loop-place-init : goal.loop-place-init
loop-place-init c = filled_none _ _

pub bounds-global-member : goal.bounds-global-member
bounds-global-member c = column_below _ _ c.loop-place.place _ c.requires.0 (omega arith) refl

pub loop-place-preserved : goal.loop-place-preserved
loop-place-preserved c = filled_more _ _ _ _ c.loop-place.invariant _ refl (omega arith)

pub returns : goal.returns
returns c = filled_done _ _ _ _ c.loop-place.invariant _ c.requires.1 (omega arith) (omega arith) ∙ gathered_is _ _
