-- `topology::row_holds` meets its contract. Assumes nothing.
use mathlib.Core.Path.{refl, ap}
use Rattle.hybit_core.proofs.BoolLaws.{flag_on, flag_off}
use Rattle.topology.proofs.LastLaws.{row_empty, row_not_climbing, row_with_empty, row_by_last}
use Rattle.std.proofs.Common.{rules}
use mathlib.Core.Bool.{not}
use Rattle.topology.proofs.row_holds.Goals as goal

pub returns-then-words-eq0 : goal.returns-then-words-eq0
returns-then-words-eq0 c = row_empty _ _ _ (search rules)

pub returns-then-not-numbers_climb : goal.returns-then-not-numbers_climb
returns-then-not-numbers_climb c = row_not_climbing _ _ _ (flag_off _ _ c.numbers_climb.ensures (ap not c.if-not-numbers_climb.true))

pub returns-then-not-masks_hold : goal.returns-then-not-masks_hold
returns-then-not-masks_hold c = row_with_empty _ _ _ c.args.row.paired (flag_off _ _ c.masks_hold.ensures (ap not c.if-not-masks_hold.true))

pub returns : goal.returns
returns c = row_by_last _ _ _ c.args.row.paired c.args.row.masks_fit c.if-words-eq0.false (flag_on _ _ c.numbers_climb.ensures (ap not c.if-not-numbers_climb.false)) (flag_on _ _ c.masks_hold.ensures (ap not c.if-not-masks_hold.false)) _ _ refl c.word_holds.ensures
