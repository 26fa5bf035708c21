-- `restricted_local::keep_row` meets its contract. Assumes nothing.
use mathlib.Core.Path.{refl, ◌∙◌, sym, ap}
use mathlib.Core.List.{zip}
use native.Mathlib.Omega.{arith}
use Rattle.csr32.specs.Made.{entries_in}
use Rattle.csr32.proofs.CsrLaws.{column_below}
use Rattle.word.specs.Bits.{count}
use Rattle.mask.specs.Mask.{active}
use Rattle.restricted.proofs.KeepLaws.{keeping_none, keeping_column, keeping_value, keeping_more, keeping_other, keeping_done}
use Rattle.restricted_local.proofs.RowsLaws.{kept_columns, kept_values}
use Rattle.mask.specs.Dof.{lent_mask}
use Rattle.restricted_local.proofs.keep_row.Goals.{then-is_member, else-is_member}
use Rattle.restricted_local.proofs.keep_row.Goals as goal

pub loop-place-init : goal.loop-place-init
loop-place-init c = keeping_none _ _ _ _ _ _ _

pub local_number-requires : goal.local_number-requires
local_number-requires c = column_below _ _ _ _ c.requires.inside (omega arith) refl

pub bounds-out_col_idx-at : goal.bounds-out_col_idx-at
bounds-out_col_idx-at c = keeping_column _ _ _ _ _ _ _ _ _ _ _ c.loop-place.invariant c.args.row.paired (omega arith) _ refl (sym c.if-is_member.true ∙ c.is_member.ensures) c.requires.columns

pub bounds-out_values-at : goal.bounds-out_values-at
bounds-out_values-at c = keeping_value _ _ _ _ _ _ _ _ _ _ _ c.loop-place.invariant c.args.row.paired (omega arith) _ refl (sym c.if-is_member.true ∙ c.is_member.ensures) c.requires.values

pub loop-place-preserved : goal.loop-place-preserved
loop-place-preserved c = elim c.if-is_member.branch [
  | then-is_member w ↦ rw (w.at-is, w.out_col_idx-is, w.out_values-is) (keeping_more _ _ _ _ _ _ _ _ _ _ _ c.loop-place.invariant c.args.row.paired (omega arith) _ refl (sym w.if-is_member.true ∙ c.is_member.ensures) _ (w.local_number.ensures ∙ ap (count (active _)) refl) c.requires.columns c.requires.values)
  | else-is_member w ↦ rw (w.at-is, w.out_col_idx-is, w.out_values-is) (keeping_other _ _ _ _ _ _ _ _ _ _ _ c.loop-place.invariant c.args.row.paired (omega arith) _ refl (sym w.if-is_member.false ∙ c.is_member.ensures))
]

pub returns : goal.returns
returns c = let a = lent_mask c.args.numbering.region in
    let es = entries_in (active a) (zip c.args.row.cols.now c.args.row.vals.now) in
    let k = keeping_done _ _ _ _ _ _ _ _ _ _ _ c.loop-place.invariant (omega arith) in
    record { columns = kept_columns a es _ _ _ _ k.0; values = kept_values a es _ _ _ _ k.1 }
