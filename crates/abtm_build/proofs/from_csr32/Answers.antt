-- `abtm_build::from_csr32` meets its contract. Assumes nothing.
use mathlib.Core.Path.{ap₂, ◌∙◌}
use Prim.Native.Nat.{min}
use native.Mathlib.Omega.{arith}
use lib.ListN.{length-take, length-set}
use Rattle.abtm_build.proofs.AnswerLaws.{from_refused, list_accepted, pointers_fit, good, from_few_tiles, from_few_slots, from-built}
use borrow.Author.Rules.{rules}
use Rattle.abtm_build.proofs.from_csr32.Goals as goal

pub returns-in-Err : goal.returns-in-Err
returns-in-Err c = let rest = from_refused _ _ c.args.row_tile_ptr.now c.args.masks.now c.args.value_offsets.now c.args.metas.now c.args.values.now _ c.examine-v.ensures _ _ _ _ _ _ c.in-Err.is c.clear_past.ensures.pointers c.clear_past.ensures.bits c.clear_past.ensures.offsets c.clear_past.ensures.metas c.clear_past.ensures.values in record { answer = rest.0; pointers = rest.1.0; bits = rest.1.1.0; offsets = rest.1.1.1.0; metas = rest.1.1.1.1.0; values = rest.1.1.1.1.1 }

pub slice_bounds-build-end-2 : goal.slice_bounds-build-end-2
slice_bounds-build-end-2 c = simp length-take (omega arith)

pub slice_bounds-build-end-4 : goal.slice_bounds-build-end-4
slice_bounds-build-end-4 c = simp length-take (omega arith)

pub slice_bounds-build-end-6 : goal.slice_bounds-build-end-6
slice_bounds-build-end-6 c = simp length-take (omega arith)

pub slice_bounds-build-end-8 : goal.slice_bounds-build-end-8
slice_bounds-build-end-8 c = simp length-take (omega arith)

pub invariant_of-build : goal.invariant_of-build
invariant_of-build c = record { valid = list_accepted _ _ c.args.row_tile_ptr.now c.args.masks.now c.args.value_offsets.now c.args.metas.now c.args.values.now _ c.examine-v.ensures c.in_default.is }

pub build-at-requires : goal.build-at-requires
build-at-requires c = let k = c.examine-v.ensures in
    let t = c.in_default.is in
    let p = pointers_fit _ _ c.args.row_tile_ptr.now c.args.masks.now c.args.value_offsets.now c.args.metas.now c.args.values.now _ k t in
    record { pointers = omega (arith, p); lists = record { offsets_same = simp length-take (omega arith); metas_same = simp length-take (omega arith); few_tiles = simp length-take (omega arith); few_slots = simp length-take (omega arith) } }

pub returns-then-room-at : goal.returns-then-room-at
returns-then-room-at c = let k = c.examine-v.ensures in
    let t = c.in_default.is in
    let n = c.min-room.ensures ∙ ap₂ min c.min.ensures c.min-2.ensures in let rest = from_few_tiles _ _ c.args.row_tile_ptr.now c.args.masks.now c.args.value_offsets.now c.args.metas.now c.args.values.now _ k t _ _ n c.min-places.ensures _ _ _ _ _ _ c.build-at.ensures c.build-at.auto.row_tile_ptr c.build-at.auto.masks c.build-at.auto.value_offsets c.build-at.auto.metas c.build-at.auto.values _ _ _ _ _ c.if-room-at.true c.clear_past-then-room-at.ensures.pointers c.clear_past-then-room-at.ensures.bits c.clear_past-then-room-at.ensures.offsets c.clear_past-then-room-at.ensures.metas c.clear_past-then-room-at.ensures.values in record { answer = rest.0; pointers = rest.1.0; bits = rest.1.1.0; offsets = rest.1.1.1.0; metas = rest.1.1.1.1.0; values = rest.1.1.1.1.1 }

pub returns-then-places-at : goal.returns-then-places-at
returns-then-places-at c = let k = c.examine-v.ensures in
    let t = c.in_default.is in
    let n = c.min-room.ensures ∙ ap₂ min c.min.ensures c.min-2.ensures in let rest = from_few_slots _ _ c.args.row_tile_ptr.now c.args.masks.now c.args.value_offsets.now c.args.metas.now c.args.values.now _ k t _ _ n c.min-places.ensures _ _ _ _ _ _ c.build-at.ensures c.build-at.auto.row_tile_ptr c.build-at.auto.masks c.build-at.auto.value_offsets c.build-at.auto.metas c.build-at.auto.values _ _ _ _ _ c.if-places-at.true c.clear_past-then-places-at.ensures.pointers c.clear_past-then-places-at.ensures.bits c.clear_past-then-places-at.ensures.offsets c.clear_past-then-places-at.ensures.metas c.clear_past-then-places-at.ensures.values in record { answer = rest.0; pointers = rest.1.0; bits = rest.1.1.0; offsets = rest.1.1.1.0; metas = rest.1.1.1.1.0; values = rest.1.1.1.1.1 }

pub offset_bounds-row_tile_ptr-csr : goal.offset_bounds-row_tile_ptr-csr
offset_bounds-row_tile_ptr-csr c = let h = pointers_fit _ _ c.args.row_tile_ptr.now c.args.masks.now c.args.value_offsets.now c.args.metas.now c.args.values.now _ c.examine-v.ensures c.in_default.is in
    let g = (good _ _ c.args.row_tile_ptr.now c.args.masks.now c.args.value_offsets.now c.args.metas.now c.args.values.now _ c.examine-v.ensures c.in_default.is).rows_in in
    let i = c.build-at.auto.row_tile_ptr in
    search rules

pub bounds-row_tile_ptr-csr : goal.bounds-row_tile_ptr-csr
bounds-row_tile_ptr-csr c = let h = pointers_fit _ _ c.args.row_tile_ptr.now c.args.masks.now c.args.value_offsets.now c.args.metas.now c.args.values.now _ c.examine-v.ensures c.in_default.is in
    let g = (good _ _ c.args.row_tile_ptr.now c.args.masks.now c.args.value_offsets.now c.args.metas.now c.args.values.now _ c.examine-v.ensures c.in_default.is).rows_in in
    let i = c.build-at.auto.row_tile_ptr in
    search rules

pub overflow_add-csr : goal.overflow_add-csr
overflow_add-csr c = let h = pointers_fit _ _ c.args.row_tile_ptr.now c.args.masks.now c.args.value_offsets.now c.args.metas.now c.args.values.now _ c.examine-v.ensures c.in_default.is in
    let g = (good _ _ c.args.row_tile_ptr.now c.args.masks.now c.args.value_offsets.now c.args.metas.now c.args.values.now _ c.examine-v.ensures c.in_default.is).rows_in in
    let i = c.build-at.auto.row_tile_ptr in
    search rules

pub shape_of-row_tile_ptr : goal.shape_of-row_tile_ptr
shape_of-row_tile_ptr c = c.clear_past-2.auto.row_tile_ptr ∙ length-set c.build-at.new.row_tile_ptr c.args.csr.nrows c.narrow.result ∙ c.build-at.auto.row_tile_ptr

pub returns : goal.returns
returns c = let k = c.examine-v.ensures in
    let t = c.in_default.is in
    let n = c.min-room.ensures ∙ ap₂ min c.min.ensures c.min-2.ensures in let rest = from-built _ _ c.args.row_tile_ptr.now c.args.masks.now c.args.value_offsets.now c.args.metas.now c.args.values.now _ k t _ _ n c.min-places.ensures _ _ _ _ _ _ c.build-at.ensures c.build-at.auto.row_tile_ptr c.build-at.auto.masks c.build-at.auto.value_offsets c.build-at.auto.metas c.build-at.auto.values (omega (arith, c.if-room-at.false)) (omega (arith, c.if-places-at.false)) _ _ _ _ _ _ c.narrow.ensures c.clear_past-2.ensures.pointers c.clear_past-2.ensures.bits c.clear_past-2.ensures.offsets c.clear_past-2.ensures.metas c.clear_past-2.ensures.values in record { answer = rest.0; pointers = rest.1.0; bits = rest.1.1.0; offsets = rest.1.1.1.0; metas = rest.1.1.1.1.0; values = rest.1.1.1.1.1 }
