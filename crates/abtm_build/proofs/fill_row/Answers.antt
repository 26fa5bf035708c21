-- `abtm_build::fill_row` meets its contract. Assumes nothing.
use mathlib.Core.Path.{◌≡◌, refl, sym, ◌∙◌}
use Prim.Native.Nat.{◌*◌, ◌^◌}
use native.Mathlib.Omega.{arith}
use lib.ListN.{length}
use Rattle.csr32.proofs.WindowLaws.{zeros_as}
use Rattle.abtm_build.proofs.WindowLaws.{sized_as}
use Rattle.abtm_build.proofs.EmitLaws.{emitting_none, emitting_bounded, emitting_lists}
use Rattle.abtm_build.proofs.FillLaws.{window_outside, passed_none, passed_more, filling_more, filling_done}
use Rattle.abtm_build.proofs.fill_row.Goals as goal

pub loop-next-init : goal.loop-next-init
loop-next-init c = (emitting_none _ _ _ _ _ _ _ _ _ (omega arith), refl, refl, refl, refl, c.requires.zeros, passed_none _)

pub gather-next-requires : goal.gather-next-requires
gather-next-requires c = record { window = omega (arith, c.loop-next-test.true, c.loop-next.invariant.1, c.loop-next.invariant.2); sized = sized_as _ _ _ _ _ _ c.loop-next.invariant.2 c.loop-next.invariant.3 c.loop-next.invariant.4 c.requires.sized; zeros = zeros_as c.loop-next.sums _ _ c.loop-next.invariant.5 (sym c.loop-next.invariant.2) }

pub emit_window-at-requires : goal.emit_window-at-requires
emit_window-at-requires c = let t = c.loop-next-test.true in
    record { fact_1 = sized_as _ _ _ _ _ _ (c.gather-next.auto.sums ∙ c.loop-next.invariant.2) (c.gather-next.auto.words ∙ c.loop-next.invariant.3) (c.gather-next.auto.blocks ∙ c.loop-next.invariant.4) c.requires.sized; fact_2 = omega (arith, t, c.args.row.few); fact_3 = c.gather-next.ensures.words; fact_4 = c.gather-next.ensures.blocks; fact_5 = (emitting_bounded _ _ _ _ _ _ _ _ _ _ _ _ _ _ c.loop-next.invariant.0 (2 ^ 36) (2 ^ 38) c.requires.lists.0 (omega (arith, t, c.args.row.few)), emitting_lists _ _ _ _ _ _ _ _ _ _ _ _ _ _ c.loop-next.invariant.0 c.requires.lists.1) }

pub clear_window-requires : goal.clear_window-requires
clear_window-requires c = record { fact_1 = window_outside c.args.row.cols.now c.args.row.vals.now c.args.row.paired _ _ _ c.gather-next.ensures.sums; fact_2 = sized_as _ _ _ _ _ _ (c.gather-next.auto.sums ∙ c.loop-next.invariant.2) (c.gather-next.auto.words ∙ c.loop-next.invariant.3) (c.gather-next.auto.blocks ∙ c.loop-next.invariant.4) c.requires.sized }

pub loop-next-smaller : goal.loop-next-smaller
loop-next-smaller c = omega (arith, c.loop-next-test.true, c.gather-next.ensures.next.1.after, c.loop-next.invariant.2, c.requires.sized)

pub loop-next-preserved : goal.loop-next-preserved
loop-next-preserved c = let z : length c.loop-next.sums ≡ 64 * length c.args.words.now = c.loop-next.invariant.2 ∙ c.requires.sized.words_are in (
  filling_more _ c.args.row.cols.now c.args.row.vals.now c.args.row.paired _ _ _ _ z c.gather-next.ensures.next.1 _ c.gather-next.ensures.sums _ _ _ _ _ _ _ _ _ _ _ _ _ _ _ c.loop-next.invariant.0 c.emit_window-at.auto.masks c.emit_window-at.auto.value_offsets c.emit_window-at.auto.metas c.emit_window-at.auto.values _ (c.gather-next.auto.words ∙ c.loop-next.invariant.3) c.emit_window-at.ensures,
  c.loop-next.invariant.1,
  c.clear_window.auto.sums ∙ c.gather-next.auto.sums ∙ c.loop-next.invariant.2,
  c.clear_window.auto.words ∙ c.gather-next.auto.words ∙ c.loop-next.invariant.3,
  c.clear_window.auto.blocks ∙ c.gather-next.auto.blocks ∙ c.loop-next.invariant.4,
  zeros_as _ _ _ c.clear_window.ensures (c.gather-next.auto.sums ∙ c.loop-next.invariant.2),
  passed_more c.args.config c.args.row.cols.now c.args.row.vals.now c.args.row.paired _ _ _ _ z c.gather-next.ensures.next.1,
)

pub returns : goal.returns
returns c = record { tiles = filling_done _ c.args.row.cols.now c.args.row.vals.now c.args.row.paired _ c.loop-next.next c.args.row.inside (omega arith) c.loop-next.invariant.6 _ _ _ _ _ _ _ _ _ _ c.loop-next.invariant.0; window = c.loop-next.invariant.5 }
