-- `restricted_local::count_words` meets its contract. Assumes nothing.
use native.Mathlib.Omega.{arith}
use Rattle.word.proofs.CountLaws.{ones-few}
use Rattle.mask.proofs.CallLaws.{counted-le}
use Rattle.restricted_local.proofs.RegionLaws.{tallying_none, tallying_more}
use Rattle.restricted_local.proofs.count_words.Goals as goal

pub loop-place-init : goal.loop-place-init
loop-place-init c = tallying_none _ _

pub overflow_add-ones : goal.overflow_add-ones
overflow_add-ones c = omega (arith, counted-le _ _ _ c.loop-place.invariant.counted, ones-few _ _ c.popcount-ones.ensures)

pub loop-place-preserved : goal.loop-place-preserved
loop-place-preserved c = tallying_more _ _ _ _ _ c.loop-place.invariant (omega arith) c.requires.1 c.requires.0 _ c.narrow.ensures _ c.popcount-ones.ensures
