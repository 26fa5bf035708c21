-- What an accepted restriction leaves is a plot list that its checks accept, and its rows are the source's entries in active columns.
-- Assumes nothing.
use mathlib.Core.Bool.{true, ◌&&◌}
use mathlib.Core.Path.{◌≡◌, ap, ◌∙◌}
use Prim.Native.Nat.{ℕ, ◌<◌}
use lib.Dec.{ltb}
use Rattle.hybit_core.specs.Answer.{accepted}
use Rattle.hybit_core.specs.Floats.{finite}
use Rattle.lent.specs.Lists.{part, every}
use Rattle.lent.proofs.ListLaws.{every-only, every-zip}
use Rattle.mask.specs.Mask.{Mask, active}
use Rattle.csr32.specs.Csr.{Csr, Entry, csr_answer, entries}
use Rattle.csr32.specs.Made.{entries_in, CsrRoom}
use Rattle.csr32.proofs.CsrLaws.{Valid, row_columns, row_values_lem}
use Rattle.csr32.proofs.MadeLaws.{entries_of, made_accepted, left_is}
use Rattle.restricted.specs.Restricted.{restricted, restrict_answer, restricted_left}
use Rattle.restricted_csr32.proofs.FillLaws.{kept_row, kept_few, restrict_facts}

row_good : (m : Csr) (a : Mask) → Valid m → (r : ℕ) → every (λ (e : Entry). ltb e.0 m.cols && finite e.1) (kept_row m a r) ≡ true
unfolding entries
row_good m a v r =
    every-only (λ (e : Entry). ltb e.0 m.cols && finite e.1) (λ (e : Entry). active a e.0) (entries m r)
    (every-zip (λ c. ltb c m.cols) finite (part m.ptr m.col r) (part m.ptr m.val r) (row_columns v r) (row_values_lem v r))

module _ (m : Csr) (a : Mask) (room : CsrRoom) (ok : restrict_answer m a room ≡ accepted) where
  pub left_list : restricted_left m a room ≡ restricted m a
  unfolding restricted
  left_list = left_is m.rows m.cols (kept_row m a) (restrict_answer m a room) room ok

  pub left_row : (r : ℕ) → r < m.rows → entries (restricted_left m a room) r ≡ entries_in (active a) (entries m r)
  unfolding restricted
  left_row r h = ap (λ (l : Csr). entries l r) left_list ∙ entries_of m.rows m.cols (kept_row m a) r h

  pub left_accepted : csr_answer (restricted_left m a room) ≡ accepted
  unfolding restricted
  left_accepted =
      let v : Valid m = (restrict_facts m a room ok).list in
      ap csr_answer left_list ∙ made_accepted m.rows m.cols (kept_row m a) (λ r h. row_good m a v r) v.rows_in v.cols_in (kept_few m a v)
