-- `metadata_first_operands::examine_row` meets its contract. Assumes nothing.
use Rattle.std.proofs.Common.{rules}
use native.Mathlib.Omega.{arith}
use Rattle.hybit_core.proofs.BoolLaws.{is_below, is_not_below}
use Rattle.hybit_core.proofs.AnswerLaws.{told_refused, call_refused, call_accepted, last_fails, last_passes}
use Rattle.metadata_first.specs.Dot.{dot_answer}
use Prim.Native.Nat.{◌<◌}
use Rattle.metadata_first_operands.proofs.examine_row.Goals as goal

pub returns-in_err-examine_operands : goal.returns-in_err-examine_operands
unfolding dot_answer
returns-in_err-examine_operands c = told_refused _ _ _ (search rules) (call_refused _ _ _ _ c.examine_operands.ensures c.in_err-examine_operands.was)

pub returns-then-row-packed : goal.returns-then-row-packed
unfolding dot_answer
returns-then-row-packed c = call_accepted _ _ _ _ c.examine_operands.ensures c.in_ok-examine_operands.was (last_fails _ _ (is_not_below _ _ c.if-row-packed.true))

pub returns : goal.returns
unfolding dot_answer
returns c = let h : c.args.row < c.args.packed.topology.nrows = omega arith in
    call_accepted _ _ _ _ c.examine_operands.ensures c.in_ok-examine_operands.was (last_passes _ _ (is_below _ _ h))
