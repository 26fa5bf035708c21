-- `mask_build::all_below` meets its contract. Assumes nothing.
use borrow.Author.Rules.{rules}
use mathlib.Core.Path.{refl}
use Rattle.hybit_core.proofs.BoolLaws.{tests}
use Rattle.lent.proofs.ListLaws.{every_more, every_fails, every_done}
use Rattle.mask_build.proofs.all_below.Goals as goal

pub loop-index-init : goal.loop-index-init
loop-index-init c = (search rules, refl)

pub returns-then-index-len : goal.returns-then-index-len
returns-then-index-len c = search (every_fails, tests, rules)

pub loop-index-preserved : goal.loop-index-preserved
loop-index-preserved c = search (every_more, tests, rules)

pub returns : goal.returns
returns c = search (every_done, rules)
