-- `csr32_apply::term` meets its contract. Assumes nothing.
use mathlib.Core.Path.{refl}
use borrow.Author.Rules.{rules}
use native.Mathlib.Omega.{arith}
use Rattle.csr32.proofs.CsrLaws.{valid, column_below}
use Rattle.csr32.proofs.SumLaws.{product_is, sides_of}
use Rattle.csr32_apply.proofs.term.Goals as goal

pub offset_bounds-operands-c : goal.offset_bounds-operands-c
offset_bounds-operands-c c = let h = column_below _ _ c.args.p _ (sides_of (valid _ c.args.operands.valid) _ c.args.operands.columns).columns (search rules) refl in search rules

pub bounds-operands-c : goal.bounds-operands-c
bounds-operands-c c = column_below _ _ c.args.p _ (sides_of (valid _ c.args.operands.valid) _ c.args.operands.columns).columns (search rules) refl

pub bounds-matrix-p-2 : goal.bounds-matrix-p-2
bounds-matrix-p-2 c = omega (arith, (valid _ c.args.operands.valid).sides, c.requires)

pub returns : goal.returns
returns c = product_is _ _ _ _ _ refl
