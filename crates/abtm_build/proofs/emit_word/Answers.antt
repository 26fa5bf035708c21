-- `abtm_build::emit_word` meets its contract. Assumes nothing.
use mathlib.Core.Path.{refl, ◌∙◌}
use native.Mathlib.Omega.{arith}
use Rattle.word.specs.Bits.{has}
use Rattle.word.proofs.BelowLaws.{length-below-le}
use Rattle.abtm.proofs.PlaceLaws.{kind_small, slots_small}
use Rattle.abtm_build.proofs.EmitLaws.{word_room, word_none, word_full, word_some}
use Rattle.abtm_build.proofs.emit_word.Goals as goal

pub returns-then-mask-eq0 : goal.returns-then-mask-eq0
returns-then-mask-eq0 c = word_none _ _ c.args.sums.list.now _ c.word_mask-mask.ensures c.if-mask-eq0.true _ _ _ _ _

pub overflow_mul-meta : goal.overflow_mul-meta
overflow_mul-meta c = omega (arith, c.from.ensures, c.kind_of-kind.ensures, kind_small c.args.config c.popcount-nnz.result)

pub overflow_add-meta : goal.overflow_add-meta
overflow_add-meta c = omega (arith, c.from.ensures, c.kind_of-kind.ensures, kind_small c.args.config c.popcount-nnz.result, c.narrow.ensures, c.requires.number)

pub overflow_add-next : goal.overflow_add-next
overflow_add-next c = omega (arith, c.requires.lists.0.tiles_in)

pub overflow_add-next-2 : goal.overflow_add-next-2
overflow_add-next-2 c = omega (arith, c.requires.lists.0.slots_in, slots_small _ _ _ c.slot_count.ensures)

pub overflow_add-next-3 : goal.overflow_add-next-3
overflow_add-next-3 c = omega (arith, c.requires.lists.0.nnz_in, c.popcount-nnz.ensures, length-below-le (has c.word_mask-mask.result) 64)

pub returns-then-next-masks : goal.returns-then-next-masks
returns-then-next-masks c = let m = c.word_mask-mask.ensures in
    let b = c.popcount-nnz.ensures in
    let k = c.from.ensures ∙ c.kind_of-kind.ensures in
    let o = c.narrow.ensures in
    let r = c.slot_count.ensures in
    word_full _ _ c.args.sums.list.now _ m c.if-mask-eq0.false c.requires.number _ _ _ _ b k o r c.args.at _ refl refl refl _ _ _ _ (λ a b. omega (arith, c.if-next-masks.true))

pub returns-then-next-values : goal.returns-then-next-values
returns-then-next-values c = let m = c.word_mask-mask.ensures in
    let b = c.popcount-nnz.ensures in
    let k = c.from.ensures ∙ c.kind_of-kind.ensures in
    let o = c.narrow.ensures in
    let r = c.slot_count.ensures in
    word_full _ _ c.args.sums.list.now _ m c.if-mask-eq0.false c.requires.number _ _ _ _ b k o r c.args.at _ refl refl refl _ _ _ _ (λ a b. omega (arith, c.if-next-values.true))

pub bounds-masks-tile : goal.bounds-masks-tile
bounds-masks-tile c = omega (arith, c.if-next-masks.false)

pub bounds-value_offsets-tile : goal.bounds-value_offsets-tile
bounds-value_offsets-tile c = omega (arith, c.if-next-masks.false, c.requires.lists.1.offsets_same)

pub bounds-metas-tile : goal.bounds-metas-tile
bounds-metas-tile c = omega (arith, c.if-next-masks.false, c.requires.lists.1.metas_same)

pub write_slots-requires : goal.write_slots-requires
write_slots-requires c = let m = c.word_mask-mask.ensures in
    let b = c.popcount-nnz.ensures in
    let k = c.from.ensures ∙ c.kind_of-kind.ensures in
    let o = c.narrow.ensures in
    let r = c.slot_count.ensures in
    record { mask = m; room = rw (← c.from.ensures) (word_room _ _ c.args.sums.list.now _ m c.if-mask-eq0.false c.requires.number _ _ _ _ b k o r c.args.at _ refl refl refl _ (omega (arith, c.if-next-values.false))) }

pub returns : goal.returns
returns c = let m = c.word_mask-mask.ensures in
    let b = c.popcount-nnz.ensures in
    let k = c.from.ensures ∙ c.kind_of-kind.ensures in
    let o = c.narrow.ensures in
    let r = c.slot_count.ensures in
    word_some _ _ c.args.sums.list.now _ m c.if-mask-eq0.false c.requires.number _ _ _ _ b k o r c.args.at _ refl refl refl _ _ _ _ _ _ c.requires.lists.1 (omega (arith, c.if-next-masks.false)) (omega (arith, c.if-next-values.false)) c.narrow-2.ensures (rw (← c.from.ensures) at c.write_slots.ensures)
