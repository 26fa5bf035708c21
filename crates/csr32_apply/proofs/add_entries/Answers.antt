-- `csr32_apply::add_entries` meets its contract. Assumes nothing.
use borrow.Author.Rules.{rules}
use mathlib.Core.Path.{refl, sym}
use Rattle.csr32.proofs.CsrLaws.{valid}
use Rattle.csr32.proofs.SumLaws.{adding_none, adding_more, adding_done}
use Rattle.csr32_apply.proofs.add_entries.Goals as goal

pub loop-p-init : goal.loop-p-init
loop-p-init c = (search rules, adding_none _ _ _ _ _ _ _ refl)

pub loop-p-preserved : goal.loop-p-preserved
loop-p-preserved c = (search rules, adding_more _ _ _ _ _ _ _ _ c.loop-p.invariant.1 _ _ c.term-sum.ensures (sym (valid _ c.args.operands.valid).sides) (search rules) (search rules) refl)

pub returns : goal.returns
returns c = search (adding_done, rules)
