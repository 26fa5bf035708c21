-- `demand_routes::all_dot` meets its contract. Assumes nothing.
use mathlib.Core.Path.{◌≡◌, ◌∙◌}
use native.Mathlib.Omega.{arith}
use lib.ListN.{length-take}
use Rattle.word.specs.Bits.{ceil64}
use Rattle.demand_routes.proofs.AllLaws.{all_none, all-some, all_filled}
use Rattle.demand_examine.proofs.StepLaws.{front_long}
use Rattle.demand_routes.proofs.all_dot.Goals as goal

pub shape_of-row_word_ptr-then-all-words : goal.shape_of-row_word_ptr-then-all-words
shape_of-row_word_ptr-then-all-words c = c.clear_all.auto.row_word_ptr

pub shape_of-word_indices-then-all-words : goal.shape_of-word_indices-then-all-words
shape_of-word_indices-then-all-words c = c.clear_all.auto.word_indices

pub shape_of-bits-then-all-words : goal.shape_of-bits-then-all-words
shape_of-bits-then-all-words c = c.clear_all.auto.masks

pub shape_of-row_value_ptr-then-all-words : goal.shape_of-row_value_ptr-then-all-words
shape_of-row_value_ptr-then-all-words c = c.clear_all.auto.row_value_ptr

pub shape_of-packed-then-all-words : goal.shape_of-packed-then-all-words
shape_of-packed-then-all-words c = c.clear_all.auto.packed

pub shape_of-all-then-all-words : goal.shape_of-all-then-all-words
shape_of-all-then-all-words c = c.clear_from.auto.s

pub returns-then-all-words : goal.returns-then-all-words
returns-then-all-words c = let e : c.div_ceil-words.result ≡ ceil64 c.args.csr.ncols = omega arith in
    let rest = all_none _ _ _ _ _ _ _ _ _ _ _ (omega (arith, e, c.if-all-words.true)) c.clear_from.ensures c.clear_all.ensures.pointers c.clear_all.ensures.numbers c.clear_all.ensures.bits c.clear_all.ensures.starts c.clear_all.ensures.values in record { answer = rest.0; all = rest.1.0; store = rest.1.1 }

pub slice_bounds-fill_active-end : goal.slice_bounds-fill_active-end
slice_bounds-fill_active-end c = omega arith

pub slice_bounds-fill_active-end-2 : goal.slice_bounds-fill_active-end-2
slice_bounds-fill_active-end-2 c = simp length-take (omega arith)

pub fill_active-requires : goal.fill_active-requires
fill_active-requires c = record { fact_1 = c.requires; fact_2 = simp length-take (omega arith) }

pub slice_bounds-pack_dot-end : goal.slice_bounds-pack_dot-end
slice_bounds-pack_dot-end c = let l = front_long _ c.fill_active.new.words c.args.all.now c.fill_active.auto.words c.if-all-words.false in omega (arith, c.clear_from-2.auto.s, c.if-all-words.false)

pub slice_bounds-pack_dot-end-2 : goal.slice_bounds-pack_dot-end-2
slice_bounds-pack_dot-end-2 c = let l = front_long _ c.fill_active.new.words c.args.all.now c.fill_active.auto.words c.if-all-words.false in simp length-take (omega (arith, c.clear_from-2.auto.s, c.if-all-words.false))

pub shape_of-row_word_ptr : goal.shape_of-row_word_ptr
shape_of-row_word_ptr c = c.pack_dot.auto.row_word_ptr

pub shape_of-word_indices : goal.shape_of-word_indices
shape_of-word_indices c = c.pack_dot.auto.word_indices

pub shape_of-bits : goal.shape_of-bits
shape_of-bits c = c.pack_dot.auto.bits

pub shape_of-row_value_ptr : goal.shape_of-row_value_ptr
shape_of-row_value_ptr c = c.pack_dot.auto.row_value_ptr

pub shape_of-packed : goal.shape_of-packed
shape_of-packed c = c.pack_dot.auto.packed

pub shape_of-all : goal.shape_of-all
shape_of-all c = c.clear_from-2.auto.s ∙ front_long _ c.fill_active.new.words c.args.all.now c.fill_active.auto.words c.if-all-words.false

pub returns : goal.returns
returns c = let e : c.div_ceil-words.result ≡ ceil64 c.args.csr.ncols = omega arith in
    let rest = all-some _ _ _ _ _ _ _ _ _ _ _ _ _ (omega (arith, e, c.if-all-words.false)) e (all_filled _ _ c.fill_active.new.words c.args.all.now _ c.fill_active.ensures e c.if-all-words.false c.clear_from-2.ensures) c.pack_dot.ensures.answer c.pack_dot.ensures.store in record { answer = rest.0; all = rest.1.0; store = rest.1.1 }
