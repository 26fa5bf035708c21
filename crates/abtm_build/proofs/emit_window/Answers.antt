-- `abtm_build::emit_window` meets its contract. Assumes nothing.
use mathlib.Core.Path.{refl}
use Prim.Native.Nat.{◌^◌}
use native.Mathlib.Omega.{arith}
use Rattle.abtm_build.proofs.EmitLaws.{emitting_none, emitting_done, emitting_skip, emitting_more, emitting_bounded, emitting_lists, block_zeros}
use Rattle.abtm_build.proofs.emit_window.Goals as goal

pub loop-b-init : goal.loop-b-init
loop-b-init c = (emitting_none _ _ _ _ _ _ _ _ _ (omega arith), omega arith)

pub emit_block-at-requires : goal.emit_block-at-requires
emit_block-at-requires c = let z = c.requires.fact_1 in record { fact_1 = (omega (arith, z), omega (arith, z, c.loop-b-test.true), omega (arith, z, c.requires.fact_2)); fact_2 = c.requires.fact_3; fact_3 = (emitting_bounded _ _ _ _ _ _ _ _ _ _ _ _ _ _ c.loop-b.invariant.0 (2 ^ 38) (2 ^ 39) c.requires.fact_5.0 (omega (arith, z, c.loop-b.invariant.1)), emitting_lists _ _ _ _ _ _ _ _ _ _ _ _ _ _ c.loop-b.invariant.0 c.requires.fact_5.1) }

pub loop-b-preserved : goal.loop-b-preserved
loop-b-preserved c = (
  emitting_more _ _ _ _ _ _ _ _ _ _ _ _ _ _ c.loop-b.invariant.0 _ _ _ _ _ _ _ _ _ refl (omega arith) (omega arith) (λ x a b. refl) c.emit_block-at.auto.masks c.emit_block-at.auto.value_offsets c.emit_block-at.auto.metas c.emit_block-at.auto.values c.emit_block-at.ensures,
  omega (arith, c.loop-b-test.true),
)

pub loop-b-preserved-then-blocks-b-eq0 : goal.loop-b-preserved-then-blocks-b-eq0
loop-b-preserved-then-blocks-b-eq0 c = let r = block_zeros c.args.first c.args.sums.now c.args.blocks.now c.requires.fact_4 in
    (emitting_skip _ _ _ _ _ _ _ _ _ _ _ _ _ _ c.loop-b.invariant.0 _ (omega arith) (λ x a b. r c.loop-b.b x (omega (arith, c.requires.fact_1, c.loop-b-test.true)) c.if-blocks-b-eq0.true a b), omega arith)

pub returns : goal.returns
returns c = emitting_done _ _ _ _ _ _ _ _ _ _ _ _ _ _ c.loop-b.invariant.0 _ (omega (arith, c.requires.fact_1))
