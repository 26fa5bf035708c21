-- The distinct places with an entry, row after row. Assumes nothing.
use mathlib.Core.Bool.{Bool, false}
use mathlib.Core.List.{List, ◌++◌}
use mathlib.Core.Path.{◌≡◌, refl, sym, ap, ap₂, ◌∙◌}
use Prim.Native.Nat.{ℕ, ◌+◌, ◌*◌, ◌^◌, ◌≤◌, ◌<◌}
use native.Mathlib.Nat.{le_refl}
use native.Mathlib.Numerals.{add-one}
use native.Mathlib.Omega.{arith}
use lib.ListN.{length, take, drop, replicate, length-append, length-replicate, take-append-drop}
use lib.Seq.{length-take-le}
use Rattle.hybit_core.specs.Answer.{accepted}
use Rattle.hybit_core.proofs.BoolLaws.{eqb_turned}
use Rattle.lent.specs.Lists.{joined, part, some}
use Rattle.lent.proofs.ListLaws.{zeros_front}
use Rattle.word.specs.Bits.{below, count, ceil64}
use Rattle.word.proofs.BelowLaws.{below_same, length-below-le}
use Rattle.mask.specs.Mask.{mask_words}
use Rattle.mask.specs.Calls.{listed}
use Rattle.mask.proofs.CallLaws.{empty-words}
use Rattle.csr32.specs.Csr.{Csr, csr_answer, entries, present}
use Rattle.csr32.proofs.CsrLaws.{Valid, valid, present_row}
use Rattle.dense_block.specs.Blocks.{structural_slots}

-- the columns of row r
abbrev columns_of : Csr → ℕ → List ℕ
columns_of m r = below (present (entries m r)) m.cols

-- the rows before `row` have so many distinct places, and the bitmap is empty
pub record Summed (m : Csr) (row slots : ℕ) (bits : List ℕ) : Type 0 where
  pub good : Valid m
  pub few : slots ≤ row * 2 ^ 20
  pub is : slots ≡ length (joined (λ r. below (present (entries m r)) m.cols) row)
  pub zeros : bits ≡ replicate 16384 0

pub summed-none : (m : Csr) → csr_answer m ≡ accepted → Summed m 0 0 (replicate 16384 0)
unfolding joined
summed-none m e = record { good = valid m e; few = le_refl 0; is = refl; zeros = refl }

-- ---- the front of an array of zeros is an empty bitmap

module _ (n size : ℕ) (bits : List ℕ) (e : bits ≡ replicate size 0) (h : ceil64 n ≤ size) where
  zeros_room : ceil64 n ≤ length bits
  zeros_room = omega (arith, ap length e ∙ length-replicate {A = ℕ} size 0)

  zeros_empty : take (ceil64 n) bits ≡ mask_words (λ c. false) n
  zeros_empty = ap (take (ceil64 n)) e ∙ zeros_front 0 (ceil64 n) size h ∙ sym (empty-words n)

-- ---- one row more

module _ (m : Csr) (row slots : ℕ) (bits : List ℕ) (inv : Summed m row slots bits) where
  words_in_lem : ceil64 m.cols ≤ 16384
  words_in_lem = omega (arith, inv.good.cols_in)

  pub summed-room : ceil64 m.cols ≤ length bits
  summed-room = zeros_room m.cols 16384 bits inv.zeros words_in_lem

  pub summed-part : ceil64 m.cols ≡ length (take (ceil64 m.cols) bits)
  summed-part = sym (length-take-le (ceil64 m.cols) bits summed-room)

  pub summed-empty : take (ceil64 m.cols) bits ≡ mask_words (λ c. false) m.cols
  summed-empty = zeros_empty m.cols 16384 bits inv.zeros words_in_lem

  -- the row's columns, as the code has them
  module _ (cs : List ℕ) (p : cs ≡ part m.ptr m.col row) where
    module _ (r : ℕ) (g : r ≡ count (listed cs) m.cols) where
      row_is : r ≡ length (columns_of m row)
      unfolding listed
      row_is =
          g ∙ ap (λ (l : List ℕ). count (listed l) m.cols) p
          ∙ ap length (below_same (listed (part m.ptr m.col row)) (present (entries m row)) m.cols
          (λ c. ap (λ (t : ℕ → Bool). some t (part m.ptr m.col row)) (λ i d. eqb_turned c d i) ∙ sym (present_row inv.good row c)))

      pub summed_fits : row < m.rows → slots + r < 2 ^ 64
      summed_fits h = omega (arith, inv.few, inv.good.rows_in, inv.good.cols_in, g, length-below-le (listed cs) m.cols)

      -- front is what the callee leaves in the bitmap
      pub summed_more : (front : List ℕ) → front ≡ mask_words (λ c. false) m.cols → Summed m (row + 1) (slots + r) (front ++ drop (ceil64 m.cols) bits)
      unfolding joined
      summed_more front e = record {
        good = inv.good;
        few = omega (arith, inv.few, inv.good.cols_in, g, length-below-le (listed cs) m.cols);
        is =
            ap₂ (λ (s t : ℕ). s + t) inv.is row_is ∙ sym (length-append (joined (columns_of m) row) (columns_of m row))
            ∙ ap (λ (k : ℕ). length (joined (columns_of m) k)) (sym (add-one row));
        zeros = ap (λ (l : List ℕ). l ++ drop (ceil64 m.cols) bits) (e ∙ sym summed-empty) ∙ take-append-drop (ceil64 m.cols) bits ∙ inv.zeros;
      }

  pub summed_done : m.rows ≤ row → row ≤ m.rows → slots ≡ structural_slots m
  unfolding structural_slots
  summed_done h k = let e : row ≡ m.rows = omega arith in inv.is ∙ ap (λ (n : ℕ). length (joined (columns_of m) n)) e
