-- The checks of a restriction at each return of the code, and what an accepted one leaves. Assumes nothing.
use Rattle.std.specs.Prelude.{Result, Ok, Err}
use mathlib.Core.Bool.{Bool, true, false, not, ◌&&◌}
use mathlib.Core.Path.{◌≡◌, sym, ap, ◌∙◌}
use Prim.Native.Nat.{ℕ, suc}
use lib.Dec.{leb, ltb}
use lib.ListN.{length}
use Rattle.hybit_core.specs.Answer.{Answer, accepted, refused, plain, lengths_differ, demand, length_is, ◌and_then◌}
use Rattle.hybit_core.specs.Domain.{few}
use Rattle.hybit_core.specs.Table.{paper, told}
use Rattle.hybit_core.specs.declared.HybitError.{HybitError}
use Rattle.hybit_core.proofs.BoolLaws.{and_first, flag_on, flag_off}
use Rattle.hybit_core.proofs.AnswerLaws.{test_fails, last_fails, last_passes, length_wrong, length_right, call_refused, call_accepted, by_records}
use Rattle.lent.specs.Lists.{only}
use Rattle.mask.specs.Mask.{Mask, active, mask_rules, mask_answer}
use Rattle.csr32.specs.Csr.{Csr, csr_sizes, csr_rules, csr_answer}
use Rattle.csr32.specs.Made.{CsrRoom, fits_csr}
use Rattle.csr32.proofs.CsrLaws.{checked}
use Rattle.csr32.proofs.MadeLaws.{made_pointers, made_columns, made_values, room_fits}
use Rattle.restricted.specs.Restricted.{restricted, restrict_answer, restriction_of}
use Rattle.restricted.specs.declared.ColumnRestriction.{ColumnRestriction}
use Rattle.restricted_csr32.proofs.FillLaws.{kept_row, kept-count}

-- ---- the checks, as the calls of the two records' checks give them

abbrev own_checks : Csr → Mask → CsrRoom → Answer
own_checks m a room = length_is m.cols a.size and_then demand (fits_csr (restricted m a) room) 13

module _ (m : Csr) (a : Mask) (room : CsrRoom) where
  pub mask_large : false ≡ few a.size → refused (plain 1) ≡ restrict_answer m a room
  unfolding restrict_answer
  mask_large e = test_fails (few a.size && csr_sizes m) 1 _ (and_first (few a.size) (csr_sizes m) e)

  module _ (small : true ≡ few a.size) where
    restrict_is : restrict_answer m a room ≡ csr_answer m and_then (mask_answer a and_then own_checks m a room)
    unfolding restrict_answer csr_answer mask_answer
    restrict_is = by_records (few a.size) (csr_sizes m) (mask_rules a) (csr_rules m) (own_checks m a room) small

    pub list_refused : (v : Result Unit HybitError) (e : HybitError) → told v ≡ csr_answer m → v ≡ Err e → refused (paper e) ≡ restrict_answer m a room
    list_refused v e h k = call_refused (csr_answer m) (mask_answer a and_then own_checks m a room) v e h k ∙ sym restrict_is

    module _ (v : Result Unit HybitError) (h : told v ≡ csr_answer m) (k : v ≡ Ok tt) where
      pub mask_refused : (u : Result Unit HybitError) (e : HybitError) → told u ≡ mask_answer a → u ≡ Err e → refused (paper e) ≡ restrict_answer m a room
      mask_refused u e hm km =
          call_accepted (csr_answer m) (mask_answer a and_then own_checks m a room) (refused (paper e)) v h k
          (call_refused (mask_answer a) (own_checks m a room) u e hm km) ∙ sym restrict_is

      module _ (u : Result Unit HybitError) (hm : told u ≡ mask_answer a) (km : u ≡ Ok tt) where
        by_own : (b : Answer) → b ≡ own_checks m a room → b ≡ restrict_answer m a room
        by_own b e =
            call_accepted (csr_answer m) (mask_answer a and_then own_checks m a room) b v h k
            (call_accepted (mask_answer a) (own_checks m a room) b u hm km e) ∙ sym restrict_is

        pub wrong_size : (a.size ≡ m.cols → ⊥) → refused (lengths_differ m.cols a.size) ≡ restrict_answer m a room
        wrong_size l = by_own _ (length_wrong m.cols a.size _ l)

        module _ (l : a.size ≡ m.cols) where
          by_room : (b : Answer) → b ≡ demand (fits_csr (restricted m a) room) 13 → b ≡ restrict_answer m a room
          by_room b e = by_own _ (length_right m.cols a.size _ _ l e)

          pointers : length (restricted m a).ptr ≡ suc m.rows
          unfolding restricted
          pointers = made_pointers m.rows m.cols (kept_row m a)

          columns : length (restricted m a).col ≡ length (only (active a) m.col)
          unfolding restricted
          columns = made_columns m.rows m.cols (kept_row m a) ∙ kept-count m a (checked m v h k)

          values : length (restricted m a).val ≡ length (only (active a) m.col)
          unfolding restricted
          values = made_values m.rows m.cols (kept_row m a) ∙ kept-count m a (checked m v h k)

          -- n entries are kept, and r tells whether they fit, as the code finds both
          module _ (n : ℕ) (e : n ≡ length (only (active a) m.col)) (r : Bool) (f : r ≡ (ltb m.rows room.ptr && leb n room.col && leb n room.val)) where
            fits : r ≡ fits_csr (restricted m a) room
            fits = f ∙ room_fits (restricted m a) room m.rows n pointers (columns ∙ sym e) (values ∙ sym e)

            pub no_room : not r ≡ true → refused (plain 13) ≡ restrict_answer m a room
            no_room q = by_room _ (last_fails (fits_csr (restricted m a) room) 13 (flag_off (fits_csr (restricted m a) room) r fits q))

            pub all-good : not r ≡ false → accepted ≡ restrict_answer m a room
            all-good q = by_room _ (last_passes (fits_csr (restricted m a) room) 13 (flag_on (fits_csr (restricted m a) room) r fits q))

-- ---- the numbers that an accepted one answers

pub restriction_is : (m : Csr) (a : Mask) (kept : ℕ) → kept ≡ length (restricted m a).val
    → ◌≡◌ {A = ColumnRestriction} (record { nrows = m.rows; ncols = m.cols; source_nnz = length m.val; retained_nnz = kept }) (restriction_of m a)
unfolding restriction_of
restriction_is m a kept e = ap (λ (k : ℕ). record { nrows = m.rows; ncols = m.cols; source_nnz = length m.val; retained_nnz = k }) e
