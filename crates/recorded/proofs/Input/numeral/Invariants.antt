use Rattle.std.proofs.Common.{◌-◌, ◌≤◌, length}
use Rattle.recorded.proofs.Input.numeral.Given as goal

abbrev pub invariant-loop-self : goal.invariant-loop-self
invariant-loop-self l = 0 ≤ l.self.at

abbrev pub decreases-loop-self : goal.decreases-loop-self
decreases-loop-self l = length l.self.text.now - l.self.at
