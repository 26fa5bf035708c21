-- `metadata_first_operands::examine_rows` meets its contract. Assumes nothing.
use Rattle.std.proofs.Common.{rules}
use native.Mathlib.Omega.{arith}
use Rattle.hybit_core.proofs.BoolLaws.{and_first, and-next, is_above, is_within}
use Rattle.hybit_core.proofs.AnswerLaws.{told_refused, call_refused, call_accepted, last_fails, last_passes}
use Rattle.metadata_first_operands.specs.Checks.{rows_answer}
use Prim.Native.Nat.{◌≤◌}
use Rattle.metadata_first_operands.proofs.examine_rows.Goals as goal

pub returns-in_err-examine_operands : goal.returns-in_err-examine_operands
unfolding rows_answer
returns-in_err-examine_operands c = told_refused _ _ _ (search rules) (call_refused _ _ _ _ c.examine_operands.ensures c.in_err-examine_operands.was)

pub returns-then-sums-packed : goal.returns-then-sums-packed
unfolding rows_answer
returns-then-sums-packed c = call_accepted _ _ _ _ c.examine_operands.ensures c.in_ok-examine_operands.was (last_fails _ _ (and_first _ _ (is_above _ _ c.if-sums-packed.true)))

pub returns-then-counts-packed : goal.returns-then-counts-packed
unfolding rows_answer
returns-then-counts-packed c = let h : c.args.packed.topology.nrows ≤ c.args.sums = omega arith in
    call_accepted _ _ _ _ c.examine_operands.ensures c.in_ok-examine_operands.was (last_fails _ _ (and-next _ _ _ (is_within _ _ h) (is_above _ _ c.if-counts-packed.true)))

pub returns : goal.returns
unfolding rows_answer
returns c = let h : c.args.packed.topology.nrows ≤ c.args.sums = omega arith in
    let k : c.args.packed.topology.nrows ≤ c.args.counts = omega arith in
    call_accepted _ _ _ _ c.examine_operands.ensures c.in_ok-examine_operands.was (last_passes _ _ (and-next _ _ _ (is_within _ _ h) (is_within _ _ k)))
