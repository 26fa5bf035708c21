-- `metadata_first_dot::sparse_dot_row` meets its contract. Assumes nothing.
use Rattle.std.proofs.Common.{rules}
use Rattle.hybit_core.proofs.AnswerLaws.{given_refused_by, given_refused, given_accepted}
use Rattle.metadata_first.specs.Dot.{sparse_dot_row}
use Rattle.metadata_first_dot.proofs.CallLaws.{dot_operands, dot_row}
use Rattle.metadata_first_dot.proofs.sparse_dot_row.Goals as goal

pub returns-in_err-examine_row : goal.returns-in_err-examine_row
unfolding sparse_dot_row
returns-in_err-examine_row c = given_refused_by _ _ _ (search rules) (given_refused _ _ _ _ c.examine_row.ensures c.in_err-examine_row.was)

pub invariant_of-operands : goal.invariant_of-operands
invariant_of-operands c = record { valid = dot_operands _ _ _ _ c.in_ok-examine_row.was _ c.examine_row.ensures }

pub row_dot-requires : goal.row_dot-requires
row_dot-requires c = dot_row _ _ _ _ c.in_ok-examine_row.was _ c.examine_row.ensures

pub returns : goal.returns
unfolding sparse_dot_row
returns c = given_accepted _ _ _ _ c.examine_row.ensures c.in_ok-examine_row.was c.row_dot.ensures
