use Prim.Native.Nat.{ℕ}
use lib.ListN.{get_or}
use Rattle.lent.proofs.LentLaws.{Filled}
use Rattle.csr32.specs.Csr.{at}
use Rattle.restricted_gather.proofs.gather.Given as goal

abbrev pub invariant-loop-place : goal.invariant-loop-place
invariant-loop-place l = Filled (λ (k : ℕ). at l.global (get_or l.members k 0)) l.initial.local l.place l.local
