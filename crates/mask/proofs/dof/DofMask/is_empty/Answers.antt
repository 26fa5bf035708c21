-- `mask::DofMask::is_empty` meets its contract. Assumes nothing.
use mathlib.Core.Path.{ap}
use Prim.Native.Nat.{ℕ}
use lib.Dec.{eqb}
use Rattle.hybit_core.proofs.AnswerLaws.{given_accepted}
use Rattle.mask.proofs.MaskLaws.{checked, few_words}
use Rattle.mask.proofs.CallLaws.{ones_are}
use Rattle.mask.proofs.dof.DofMask.is_empty.Goals as goal

pub ones-requires : goal.ones-requires
ones-requires c = few_words _ _ (checked _ _ _ c.check.ensures c.in_ok-check.was)

pub returns : goal.returns
returns c = let e = c.check.ensures in
    let t = c.in_ok-check.was in
    given_accepted _ _ _ _ e t (ap (λ (n : ℕ). eqb n 0) (ones_are _ _ _ (checked _ _ _ e t) c.ones.ensures))
