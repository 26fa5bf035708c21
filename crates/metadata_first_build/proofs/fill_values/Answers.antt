-- `metadata_first_build::fill_values` meets its contract. Assumes nothing.
use native.Mathlib.Omega.{arith}
use lib.ListN.{length-take, length-append, length-drop}
use Rattle.metadata_first_build.proofs.AnswerLaws.{source_total, few_pointers, few_values, pack_zeros, values_filled}
use borrow.Author.Rules.{rules}
use Rattle.metadata_first_build.proofs.fill_values.Goals as goal

pub returns-then-row_value_ptr-nrows : goal.returns-then-row_value_ptr-nrows
returns-then-row_value_ptr-nrows c = few_pointers _ _ _ _ (source_total _ _ c.args.source.built) _ _ (search rules)

pub returns-then-packed-count : goal.returns-then-packed-count
returns-then-packed-count c = few_values _ _ _ _ (source_total _ _ c.args.source.built) _ _ (search rules)

pub slice_bounds-pack-end-2 : goal.slice_bounds-pack-end-2
slice_bounds-pack-end-2 c = simp length-take (omega (arith, c.if-row_value_ptr-nrows.false, c.clear_from.auto.s))

pub slice_bounds-pack-end-4 : goal.slice_bounds-pack-end-4
slice_bounds-pack-end-4 c = simp length-take (omega (arith, c.if-packed-count.false, c.clear_from-2.auto.s))

pub pack-requires : goal.pack-requires
pack-requires c = record { pointers = simp length-take (omega (arith, c.if-row_value_ptr-nrows.false, c.clear_from.auto.s)); zeros = pack_zeros _ _ _ _ (source_total _ _ c.args.source.built) _ _ c.clear_from.ensures c.clear_from-2.ensures c.if-row_value_ptr-nrows.false c.if-packed-count.false }

pub slice_bounds-all_finite-end-2 : goal.slice_bounds-all_finite-end-2
slice_bounds-all_finite-end-2 c = simp (length-take, length-append, length-drop) (omega (arith, simp length-take at c.pack.auto.packed, c.if-packed-count.false, c.clear_from-2.auto.s))

pub returns : goal.returns
returns c = values_filled _ _ _ _ (source_total _ _ c.args.source.built) _ _ c.clear_from.ensures c.clear_from-2.ensures c.if-row_value_ptr-nrows.false c.if-packed-count.false _ _ c.pack.ensures.pointers c.pack.ensures.values _ c.all_finite.ensures
