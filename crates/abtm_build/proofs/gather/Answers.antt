-- `abtm_build::gather` meets its contract. Assumes nothing.
use mathlib.Core.Path.{refl, sym, ◌∙◌}
use native.Mathlib.Omega.{arith}
use lib.ListN.{length}
use Rattle.csr32.proofs.WindowLaws.{placed, unplaced}
use Rattle.abtm_build.proofs.WindowLaws.{sized_as, marked_zeros, gathered_none, gathered_as, gathered-at, gathered_in, gathered-past, gathered_before, gathered-zero, gathered_done, gathered_next}
use Rattle.abtm_build.proofs.gather.Goals as goal

pub loop-k-init : goal.loop-k-init
loop-k-init c = (refl, refl, refl, refl, omega arith, marked_zeros 64 _ _ _ c.requires.zeros refl, marked_zeros 4096 _ _ _ c.requires.zeros refl, gathered_none _ _ _ _ _ _ c.requires.zeros c.requires.window)

pub add_at-requires : goal.add_at-requires
add_at-requires c = let p = placed c.args.base (length c.args.sums.now) _ _ c.place_in_window.ensures _ c.in-Some.is in
    record { fact_1 = omega (arith, p.1); fact_2 = sized_as _ _ _ _ _ _ c.loop-k.invariant.1 c.loop-k.invariant.2 c.loop-k.invariant.3 c.requires.sized; fact_3 = c.loop-k.invariant.5; fact_4 = c.loop-k.invariant.6 }

pub loop-k-preserved-in-Some : goal.loop-k-preserved-in-Some
loop-k-preserved-in-Some c = let p = placed c.args.base (length c.args.sums.now) _ _ c.place_in_window.ensures _ c.in-Some.is in
    let z = sym c.is_zero.ensures ∙ c.if-is_zero.false in
    let g = gathered_in _ _ _ _ _ _ _ c.loop-k.invariant.7 _ _ (omega arith) c.args.row.paired refl refl z _ p.0 p.1 in
    (c.loop-k.invariant.0, c.add_at.auto.sums ∙ c.loop-k.invariant.1, c.add_at.auto.words ∙ c.loop-k.invariant.2, c.add_at.auto.blocks ∙ c.loop-k.invariant.3, c.loop-k.invariant.4, c.add_at.ensures.words, c.add_at.ensures.blocks, gathered_as _ _ _ _ _ _ _ _ c.add_at.ensures.sums g)

pub loop-k-preserved : goal.loop-k-preserved
loop-k-preserved c = let n = unplaced c.args.base (length c.args.sums.now) _ _ c.place_in_window.ensures c.in_default.is in
    (c.loop-k.invariant.0, c.loop-k.invariant.1, c.loop-k.invariant.2, c.loop-k.invariant.3, omega arith, c.loop-k.invariant.5, c.loop-k.invariant.6, gathered-at _ _ _ _ _ _ _ _ c.min-next.ensures (gathered-past _ _ _ _ _ _ _ c.loop-k.invariant.7 _ _ (omega arith) c.args.row.paired refl refl (omega arith) (n (omega arith))))

pub loop-k-preserved-then-c-base : goal.loop-k-preserved-then-c-base
loop-k-preserved-then-c-base c = (c.loop-k.invariant.0, c.loop-k.invariant.1, c.loop-k.invariant.2, c.loop-k.invariant.3, c.loop-k.invariant.4, c.loop-k.invariant.5, c.loop-k.invariant.6, gathered_before _ _ _ _ _ _ _ c.loop-k.invariant.7 _ _ (omega arith) c.args.row.paired refl refl (omega arith))

pub loop-k-preserved-then-is_zero : goal.loop-k-preserved-then-is_zero
loop-k-preserved-then-is_zero c = let z = sym c.is_zero.ensures ∙ c.if-is_zero.true in
    (c.loop-k.invariant.0, c.loop-k.invariant.1, c.loop-k.invariant.2, c.loop-k.invariant.3, c.loop-k.invariant.4, c.loop-k.invariant.5, c.loop-k.invariant.6, gathered-zero _ _ _ _ _ _ _ c.loop-k.invariant.7 _ _ (omega arith) c.args.row.paired refl refl z)

pub returns : goal.returns
returns c = record { sums = gathered_done _ _ _ _ _ _ _ c.loop-k.invariant.7 (omega arith) c.args.row.paired; words = c.loop-k.invariant.5; blocks = c.loop-k.invariant.6; next = (c.loop-k.invariant.4, gathered_next _ _ _ _ _ _ _ c.loop-k.invariant.7 (omega arith) c.args.row.paired) }
