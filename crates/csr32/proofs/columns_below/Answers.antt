-- `csr32::columns_below` meets its contract. Assumes nothing.
use borrow.Author.Rules.{rules}
use mathlib.Core.Path.{refl}
use Rattle.csr32.proofs.ScanLaws.{passed_none, passed_more, passed_done}
use Rattle.csr32.proofs.columns_below.Goals as goal

pub loop-col-init : goal.loop-col-init
loop-col-init c = passed_none _ _

pub loop-col-preserved : goal.loop-col-preserved
loop-col-preserved c = passed_more _ _ _ _ c.loop-col.invariant 0 _ _ (search rules) refl refl

pub returns : goal.returns
returns c = search (passed_done, rules)
