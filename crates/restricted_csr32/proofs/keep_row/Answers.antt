-- `restricted_csr32::keep_row` meets its contract. Assumes nothing.
use mathlib.Core.Path.{◌∙◌, refl, sym}
use native.Mathlib.Omega.{arith}
use Rattle.restricted.proofs.KeepLaws.{keeping_none, keeping_column, keeping_value, keeping_more, keeping_other, keeping_done}
use Rattle.restricted_csr32.proofs.keep_row.Goals.{then-is_member, else-is_member}
use Rattle.restricted_csr32.proofs.keep_row.Goals as goal

pub loop-place-init : goal.loop-place-init
loop-place-init c = keeping_none _ _ _ _ _ _ _

pub bounds-out_col_idx-at : goal.bounds-out_col_idx-at
bounds-out_col_idx-at c = keeping_column _ _ _ _ _ _ _ _ _ _ _ c.loop-place.invariant c.args.row.paired (omega arith) _ refl (sym c.if-is_member.true ∙ c.is_member.ensures) c.requires.columns

pub bounds-out_values-at : goal.bounds-out_values-at
bounds-out_values-at c = keeping_value _ _ _ _ _ _ _ _ _ _ _ c.loop-place.invariant c.args.row.paired (omega arith) _ refl (sym c.if-is_member.true ∙ c.is_member.ensures) c.requires.values

pub loop-place-preserved : goal.loop-place-preserved
loop-place-preserved c = elim c.if-is_member.branch [
  | then-is_member w ↦ rw (w.at-is, w.out_col_idx-is, w.out_values-is) (keeping_more _ _ _ _ _ _ _ _ _ _ _ c.loop-place.invariant c.args.row.paired (omega arith) _ refl (sym w.if-is_member.true ∙ c.is_member.ensures) _ refl c.requires.columns c.requires.values)
  | else-is_member w ↦ rw (w.at-is, w.out_col_idx-is, w.out_values-is) (keeping_other _ _ _ _ _ _ _ _ _ _ _ c.loop-place.invariant c.args.row.paired (omega arith) _ refl (sym w.if-is_member.false ∙ c.is_member.ensures))
]

pub returns : goal.returns
returns c = let rest = keeping_done _ _ _ _ _ _ _ _ _ _ _ c.loop-place.invariant (omega arith) in record { columns = rest.0; values = rest.1 }
