-- `csr32::each_finite` meets its contract. Assumes nothing.
use borrow.Author.Rules.{rules}
use mathlib.Core.Path.{refl}
use lib.Ieee.{nan}
use Rattle.csr32.proofs.ScanLaws.{passed_none, passed_more, passed_done}
use Rattle.csr32.proofs.each_finite.Goals as goal

pub loop-each_value-init : goal.loop-each_value-init
loop-each_value-init c = passed_none _ _

pub loop-each_value-preserved : goal.loop-each_value-preserved
loop-each_value-preserved c = passed_more _ _ _ _ c.loop-each_value.invariant nan _ _ (search rules) c.is_finite-good.ensures refl

pub returns : goal.returns
returns c = search (passed_done, rules)
