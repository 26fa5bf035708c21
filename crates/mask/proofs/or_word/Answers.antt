-- `mask::or_word` meets its contract. Assumes nothing.
use native.Mathlib.Omega.{arith}
use Rattle.hybit_core.proofs.AnswerLaws.{answer_accepted}
use Rattle.lent.proofs.LentLaws.{kept_accepted}
use Rattle.mask.proofs.MaskLaws.{checked}
use Rattle.mask.proofs.CallLaws.{or-past, or_is}
use Rattle.mask.proofs.or_word.Goals as goal

pub returns-then-word_index-words : goal.returns-then-word_index-words
returns-then-word_index-words c = let e = c.check.ensures in
    let t = c.in_ok-check.was in
    record { answer = answer_accepted _ _ e t; list = kept_accepted _ _ _ _ _ e t (or-past _ _ (checked _ _ _ e t) (λ k. (c.slice_known-1.given k).fits) c.args.word_index c.args.bits (omega arith)) }

pub overflow_mul-word_index : goal.overflow_mul-word_index
overflow_mul-word_index c = let ok = checked _ _ _ c.check.ensures c.in_ok-check.was in
    omega (arith, ok.small, ok.counted)

pub overflow_sub-len : goal.overflow_sub-len
overflow_sub-len c = let ok = checked _ _ _ c.check.ensures c.in_ok-check.was in
    omega (arith, ok.small, ok.counted)

pub returns : goal.returns
returns c = let e = c.check.ensures in
    let t = c.in_ok-check.was in
    let known = c.slice_known-2-1.given in
    let inside = c.if-word_index-words.false in
    record { answer = answer_accepted _ _ e t; list = kept_accepted _ _ _ _ _ e t (or_is _ _ (checked _ _ _ e t) (λ k. (known k).fits) _ _ _ _ inside c.trimmed-trimmed.ensures c.union.ensures) }
