-- `abtm_build::emit_block` meets its contract. Assumes nothing.
use mathlib.Core.Path.{refl}
use Prim.Native.Nat.{◌^◌}
use native.Mathlib.Omega.{arith}
use Rattle.abtm_build.proofs.EmitLaws.{emitting_none, emitting_done, emitting_skip, emitting_more, emitting_bounded, emitting_lists, lent_length, lent_value, word_zeros}
use Rattle.abtm_build.proofs.emit_block.Goals as goal

pub loop-w-init : goal.loop-w-init
loop-w-init c = (emitting_none _ _ _ _ _ _ _ _ _ (omega arith), omega arith, omega arith, omega arith)

pub invariant_of-emit_word : goal.invariant_of-emit_word
invariant_of-emit_word c = record { long = lent_length c.args.first c.args.sums.now c.loop-w.w (omega (arith, c.requires.fact_1, c.loop-w-test.true)) }

pub emit_word-at-requires : goal.emit_word-at-requires
emit_word-at-requires c = record { number = omega (arith, c.requires.fact_1); lists = (emitting_bounded _ _ _ _ _ _ _ _ _ _ _ _ _ _ c.loop-w.invariant.0 (2 ^ 39) (2 ^ 40) c.requires.fact_3.0 (omega arith), emitting_lists _ _ _ _ _ _ _ _ _ _ _ _ _ _ c.loop-w.invariant.0 c.requires.fact_3.1) }

pub loop-w-preserved : goal.loop-w-preserved
loop-w-preserved c = let r = lent_value c.args.first c.args.sums.now c.loop-w.w in (
  emitting_more _ _ _ _ _ _ _ _ _ _ _ _ _ _ c.loop-w.invariant.0 _ _ _ _ _ _ _ _ _ refl (omega arith) (omega arith) r c.emit_word-at.auto.masks c.emit_word-at.auto.value_offsets c.emit_word-at.auto.metas c.emit_word-at.auto.values c.emit_word-at.ensures,
  c.loop-w.invariant.1,
  omega (arith, c.loop-w.invariant.2),
  omega (arith, c.loop-w.invariant.1, c.loop-w-test.true),
)

pub loop-w-preserved-then-words-w-eq0 : goal.loop-w-preserved-then-words-w-eq0
loop-w-preserved-then-words-w-eq0 c = let r = word_zeros c.args.first c.args.sums.now c.args.words.now c.requires.fact_2 in
    (emitting_skip _ _ _ _ _ _ _ _ _ _ _ _ _ _ c.loop-w.invariant.0 _ (omega arith) (λ x a b. r c.loop-w.w x (omega (arith, c.requires.fact_1)) c.if-words-w-eq0.true a b), c.loop-w.invariant.1, omega arith, omega arith)

pub returns : goal.returns
returns c = emitting_done _ _ _ _ _ _ _ _ _ _ _ _ _ _ c.loop-w.invariant.0 _ (omega arith)
