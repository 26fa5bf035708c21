use Rattle.std.proofs.Common.{◌≡◌, length}
use Rattle.recorded.proofs.main.Given as goal

abbrev pub invariant-loop : goal.invariant-loop
invariant-loop l = 65536 ≡ length l.block
