use Rattle.lent.proofs.LentLaws.{Cleared}
use Rattle.lent.proofs.clear_from.Given as goal

abbrev pub invariant-loop-place : goal.invariant-loop-place
invariant-loop-place g l = Cleared g.T.Zero.zero 0 l.initial.place-items l.place-index l.place-items
