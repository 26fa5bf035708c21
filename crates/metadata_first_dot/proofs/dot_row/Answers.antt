-- `metadata_first_dot::dot_row` meets its contract. Assumes nothing.
use mathlib.Core.Path.{refl}
use native.Mathlib.Omega.{arith}
use Rattle.metadata_first_dot.proofs.SumLaws.{one_word}
use Rattle.metadata_first_dot.proofs.RowLaws.{walked_none, walked_word, walked_place, walked_base, walked_inside, walked_candidate, walked_executed, walked_words, walked_past, walked_more, walked_le, walked_done}
use Rattle.metadata_first_dot.proofs.dot_row.Goals as goal

pub loop-i-init : goal.loop-i-init
loop-i-init c = walked_none _ _ _ _ _ _ c.requires (λ k. (c.shared_slice_known-2-1.given k).fits) (λ k. (c.shared_slice_known-4-1.given k).fits)

pub offset_bounds-active-index : goal.offset_bounds-active-index
offset_bounds-active-index c = let h = walked_word _ _ _ _ _ _ _ _ _ _ _ c.loop-i.invariant (omega arith) _ refl in omega (arith, h)

pub bounds-active-index : goal.bounds-active-index
bounds-active-index c = walked_word _ _ _ _ _ _ _ _ _ _ _ c.loop-i.invariant (omega arith) _ refl

pub overflow_add-candidate : goal.overflow_add-candidate
overflow_add-candidate c = let h = walked_candidate _ _ _ _ _ _ _ _ _ _ _ c.loop-i.invariant (omega arith) _ refl _ c.intersection-bits.ensures _ c.popcount-candidate.ensures in omega (arith, h)

pub loop-i-preserved-then-bits-eq0 : goal.loop-i-preserved-then-bits-eq0
loop-i-preserved-then-bits-eq0 c = walked_past _ _ _ _ _ _ _ _ _ _ _ c.loop-i.invariant (omega arith) _ refl _ c.intersection-bits.ensures c.if-bits-eq0.true _ c.popcount-candidate.ensures

pub overflow_mul-index : goal.overflow_mul-index
overflow_mul-index c = let h = walked_base _ _ _ _ _ _ _ _ _ _ _ c.loop-i.invariant (omega arith) _ refl _ c.intersection-bits.ensures in omega (arith, h)

pub sum_word-sum-requires : goal.sum_word-sum-requires
sum_word-sum-requires c = record { small = (walked_place _ _ _ _ _ _ _ _ _ _ _ c.loop-i.invariant (omega arith) _ refl _ c.intersection-bits.ensures, walked_base _ _ _ _ _ _ _ _ _ _ _ c.loop-i.invariant (omega arith) _ refl _ c.intersection-bits.ensures); inside = walked_inside _ _ _ _ _ _ _ _ _ _ _ c.loop-i.invariant (omega arith) _ refl _ c.intersection-bits.ensures }

pub overflow_add-candidate-in-loop-i : goal.overflow_add-candidate-in-loop-i
overflow_add-candidate-in-loop-i c = let h = walked_candidate _ _ _ _ _ _ _ _ _ _ _ c.loop-i.invariant (omega arith) _ refl _ c.intersection-bits.ensures _ c.popcount-candidate-in-loop-i.ensures in omega (arith, h)

pub overflow_add-executed : goal.overflow_add-executed
overflow_add-executed c = let h = walked_executed _ _ _ _ _ _ _ _ _ _ _ c.loop-i.invariant (omega arith) _ refl _ c.intersection-bits.ensures _ c.popcount-executed.ensures in omega (arith, h)

pub overflow_add-active_words : goal.overflow_add-active_words
overflow_add-active_words c = let h = walked_words _ _ _ _ _ _ _ _ _ _ _ c.loop-i.invariant (omega arith) _ refl _ c.intersection-bits.ensures _ (one_word _ c.if-bits-eq0.false) in omega (arith, h)

pub loop-i-preserved : goal.loop-i-preserved
loop-i-preserved c = walked_more _ _ _ _ _ _ _ _ _ _ _ c.loop-i.invariant (omega arith) _ refl _ c.intersection-bits.ensures _ _ _ _ c.sum_word-sum.ensures c.popcount-candidate-in-loop-i.ensures c.popcount-executed.ensures (one_word _ c.if-bits-eq0.false)

pub overflow_sub-result : goal.overflow_sub-result
overflow_sub-result c = let h = walked_le _ _ _ _ _ _ _ _ _ _ _ c.loop-i.invariant (omega arith) in omega (arith, h)

pub returns : goal.returns
returns c = walked_done _ _ _ _ _ _ _ _ _ _ _ c.loop-i.invariant (omega arith)
