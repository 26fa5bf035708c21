-- `dense_block_counts::count_structural` meets its contract. Assumes nothing.
use mathlib.Core.Path.{◌≡◌}
use native.Mathlib.Omega.{arith}
use Rattle.word.specs.Bits.{ceil64}
use Rattle.dense_block_counts.proofs.SlotLaws.{summed-none, summed-empty, summed_fits, summed_more, summed_done}
use borrow.Author.Rules.{rules}
use Rattle.dense_block_counts.proofs.count_structural.Goals as goal

pub loop-row-init : goal.loop-row-init
loop-row-init c = summed-none _ c.args.csr.valid

pub distinct-slots-requires : goal.distinct-slots-requires
distinct-slots-requires c = let e : c.div_ceil-nwords.result ≡ ceil64 c.args.csr.matrix.ncols = omega arith in
    rw (e, c.row.ensures.ncols) (summed-empty _ _ _ _ c.loop-row.invariant)

pub overflow_add-slots : goal.overflow_add-slots
overflow_add-slots c = omega (arith, summed_fits _ _ _ _ c.loop-row.invariant _ c.row.ensures.cols _ (rw c.row.ensures.ncols at c.distinct-slots.ensures.count) (search rules))

pub loop-row-preserved : goal.loop-row-preserved
loop-row-preserved c = let e : c.div_ceil-nwords.result ≡ ceil64 c.args.csr.matrix.ncols = omega arith in
    rw e (summed_more _ _ _ _ c.loop-row.invariant _ c.row.ensures.cols _ (rw c.row.ensures.ncols at c.distinct-slots.ensures.count) _ (rw c.row.ensures.ncols at c.distinct-slots.ensures.bits))

pub returns : goal.returns
returns c = summed_done _ _ _ _ c.loop-row.invariant (search rules) (search rules)
