-- `csr32_apply::sum_three` meets its contract. Assumes nothing.
use borrow.Author.Rules.{rules}
use Prim.Native.Nat.{ℕ, ◌+◌}
use mathlib.Core.Path.{◌≡◌, sym, subst}
use native.Mathlib.Omega.{arith}
use Rattle.hybit_core.specs.Floats.{zero64}
use Rattle.csr32.proofs.CsrLaws.{valid}
use Rattle.csr32.proofs.SumLaws.{Adding, adding_none, adding_more, adding_rest}
use Rattle.csr32_apply.proofs.sum_three.Goals as goal

pub loop-i-init : goal.loop-i-init
loop-i-init c = (search rules, adding_none _ _ _ _ _ _ _ (search rules), adding_none _ _ _ _ _ _ _ (search rules), adding_none _ _ _ _ _ _ _ (search rules))

pub loop-i-preserved : goal.loop-i-preserved
loop-i-preserved c = let same = sym (valid _ c.args.operands.valid).sides in (
  search rules,
  adding_more _ _ _ _ _ _ _ _ c.loop-i.invariant.1 _ _ c.term-first.ensures same (search rules) (search rules) (search rules),
  adding_more _ _ _ _ _ _ _ _ c.loop-i.invariant.2 _ _ c.term-second.ensures same (search rules) (search rules) (search rules),
  adding_more _ _ _ _ _ _ _ _ c.loop-i.invariant.3 _ _ c.term-third.ensures same (search rules) (search rules) (search rules),
)

pub returns : goal.returns
returns c =
    let e : c.loop-i.i ≡ c.min-n.result = omega (arith, c.loop-i.invariant.0) in (
      adding_rest _ _ _ _ _ _ _ _ (subst (λ (i : ℕ). Adding c.args.operands.matrix.col_idx.now c.args.operands.matrix.values.now c.args.operands.x.now c.args.a c.args.a_end zero64 (c.args.a + i) c.loop-i.first) e c.loop-i.invariant.1) _ c.add_entries.ensures,
      adding_rest _ _ _ _ _ _ _ _ (subst (λ (i : ℕ). Adding c.args.operands.matrix.col_idx.now c.args.operands.matrix.values.now c.args.operands.x.now c.args.b c.args.b_end zero64 (c.args.b + i) c.loop-i.second) e c.loop-i.invariant.2) _ c.add_entries-2.ensures,
      adding_rest _ _ _ _ _ _ _ _ (subst (λ (i : ℕ). Adding c.args.operands.matrix.col_idx.now c.args.operands.matrix.values.now c.args.operands.x.now c.args.c c.args.c_end zero64 (c.args.c + i) c.loop-i.third) e c.loop-i.invariant.3) _ c.add_entries-3.ensures,
    )
