-- `csr32::no_fall` meets its contract. Assumes nothing.
use borrow.Author.Rules.{rules}
use mathlib.Core.Path.{refl}
use Rattle.csr32.proofs.ScanLaws.{risen_none, risen_more, risen_done}
use Rattle.csr32.proofs.no_fall.Goals as goal

pub loop-next-init : goal.loop-next-init
loop-next-init c = risen_none _

pub loop-next-preserved : goal.loop-next-preserved
loop-next-preserved c = risen_more _ _ _ _ c.loop-next.invariant _ _ (search rules) refl refl

pub returns : goal.returns
returns c = search (risen_done, rules)
