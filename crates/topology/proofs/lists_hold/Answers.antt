-- `topology::lists_hold` meets its contract. Assumes nothing.
use Rattle.topology.proofs.CallLaws.{lists_fail, rows_decide}
use Rattle.hybit_core.proofs.BoolLaws.{flag_on, flag_off}
use mathlib.Core.Path.{ap}
use mathlib.Core.Bool.{not}
use Rattle.topology.proofs.lists_hold.Goals as goal

pub returns-then-not-lists_hold : goal.returns-then-not-lists_hold
returns-then-not-lists_hold c = lists_fail _ _ _ _ _ (flag_off _ _ c.lists_hold.ensures (ap not c.if-not-lists_hold.true))

pub returns : goal.returns
returns c = rows_decide _ _ _ _ _ (flag_on _ _ c.lists_hold.ensures (ap not c.if-not-lists_hold.false)) _ _ c.rows_hold.ensures
