-- `csr32_apply::fill_product` meets its contract. Assumes nothing.
use borrow.Author.Rules.{rules}
use native.Mathlib.Omega.{arith}
use lib.ListN.{length-set}
use Rattle.csr32.specs.Csr.{product}
use Rattle.csr32.proofs.CsrLaws.{valid}
use Rattle.csr32.proofs.SumLaws.{thirds_none, thirds_more, thirds_done}
use Rattle.csr32_apply.proofs.fill_product.Goals as goal

pub loop-row-init : goal.loop-row-init
loop-row-init c = let v = valid _ c.args.operands.valid in
    (v.rows_in, c.third_of-third.ensures.0, search rules, c.requires, thirds_none _ _ _)

pub three_rows-s-requires : goal.three_rows-s-requires
three_rows-s-requires c = (search rules, c.row_or_last-b.ensures.0, c.row_or_last-c.ensures.0)

pub bounds-y-c : goal.bounds-y-c
bounds-y-c c = simp length-set (search rules)

pub loop-row-preserved : goal.loop-row-preserved
loop-row-preserved c = (
  c.loop-row.invariant.0,
  c.loop-row.invariant.1,
  search rules,
  simp length-set c.loop-row.invariant.3,
  thirds_more _ _ _ _ c.loop-row.invariant.4 _ _ _ _ _ c.three_rows-s.ensures.0 c.three_rows-s.ensures.1 c.three_rows-s.ensures.2
      (λ l. c.row_or_last-b.ensures.1 (omega arith)) (λ l. c.row_or_last-c.ensures.1 (omega arith)),
)

pub returns : goal.returns
unfolding product
returns c = thirds_done _ _ _ _ c.loop-row.invariant.4 (search rules) _ c.loop-row.invariant.3 c.third_of-third.ensures.1
