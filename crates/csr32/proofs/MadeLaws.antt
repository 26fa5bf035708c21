-- A plot list made row by row: its rows are those rows, its checks find nothing where they lie in the frame and are finite, and what
-- an accepted build hands on is the list. Assumes nothing.
use mathlib.Core.Bool.{Bool, true, ◌&&◌}
use mathlib.Core.List.{List, map, zip}
use mathlib.Core.Path.{◌≡◌, refl, sym, ap, ap₂, ◌∙◌}
use Prim.Native.Nat.{ℕ, suc, ◌^◌, ◌≤◌, ◌<◌}
use native.Mathlib.Omega.{arith}
use native.Mathlib.Decide.{dec_lt}
use lib.Dec.{eqb, leb, ltb}
use lib.ListN.{length, length-map}
use lib.Ieee.{Float}
use borrow.Author.Tests.{le-leb, lt-leb, lt-ltb, le-ltb, eq-eqb}
use Rattle.hybit_core.specs.Answer.{Answer, accepted, demand, ◌and_then◌}
use Rattle.hybit_core.specs.Domain.{few, many, sizes_fit}
use Rattle.hybit_core.specs.Floats.{zero64, finite}
use Rattle.hybit_core.proofs.BoolLaws.{and_left, and_right, and_both, and-four}
use Rattle.lent.specs.Lists.{joined, starts, part, every}
use Rattle.lent.proofs.ListLaws.{map-joined, part-joined, zip_maps, map_id, length-starts, every-joined, every_map, every_by, every-all}
use Rattle.lent.proofs.LentLaws.{handed_used}
use Rattle.csr32.specs.Csr.{Csr, Entry, framed, framed_lists, csr_sizes, csr_rules, csr_answer, entries}
use Rattle.csr32.specs.Made.{csr_of, CsrRoom, fits_csr, csr_left}
use Rattle.csr32.proofs.FrameLaws.{framed-starts}

-- ---- its rows

pub entries_of : (rows cols : ℕ) (row : ℕ → List Entry) (r : ℕ) → r < rows → entries (csr_of rows cols row) r ≡ row r
unfolding entries csr_of
entries_of rows cols row r h =
    ap₂ (λ (cs : List ℕ) (vs : List Float). zip cs vs)
    (ap (λ (l : List ℕ). part (starts row rows) l r) (map-joined (λ (e : Entry). e.0) row rows) ∙ part-joined row (λ r. map (λ (e : Entry). e.0) (row r)) rows r (λ r. length-map (row r) (λ (e : Entry). e.0)) h)
    (ap (λ (l : List Float). part (starts row rows) l r) (map-joined (λ (e : Entry). e.1) row rows) ∙ part-joined row (λ r. map (λ (e : Entry). e.1) (row r)) rows r (λ r. length-map (row r) (λ (e : Entry). e.1)) h)
    ∙ zip_maps (λ (e : Entry). e.0) (λ (e : Entry). e.1) (row r) ∙ map_id (row r)

-- ---- its checks

module _ (rows cols : ℕ) (row : ℕ → List Entry) where
  pub made_columns : length (csr_of rows cols row).col ≡ length (joined row rows)
  unfolding csr_of
  made_columns = length-map (joined row rows) (λ (e : Entry). e.0)

  pub made_values : length (csr_of rows cols row).val ≡ length (joined row rows)
  unfolding csr_of
  made_values = length-map (joined row rows) (λ (e : Entry). e.1)

  pub made_pointers : length (csr_of rows cols row).ptr ≡ suc rows
  unfolding csr_of
  made_pointers = length-starts row rows

  pub made_sizes : rows ≤ 2 ^ 20 → cols ≤ 2 ^ 20 → length (joined row rows) ≤ 2 ^ 24 → csr_sizes (csr_of rows cols row) ≡ true
  unfolding sizes_fit csr_of
  made_sizes a b n =
      let k : ℕ = length (csr_of rows cols row).col in
      let l : ℕ = length (csr_of rows cols row).val in
      and-four (few rows) (few cols) (many k) (many l) (le-leb rows (2 ^ 20) a) (le-leb cols (2 ^ 20) b) (le-leb k (2 ^ 24) (omega (arith, made_columns))) (le-leb l (2 ^ 24) (omega (arith, made_values)))

  -- every entry in the frame and finite
  module _ (good : (r : ℕ) → r < rows → every (λ (e : Entry). ltb e.0 cols && finite e.1) (row r) ≡ true) where
    all-good : every (λ (e : Entry). ltb e.0 cols && finite e.1) (joined row rows) ≡ true
    all-good = every-joined (λ (e : Entry). ltb e.0 cols && finite e.1) row rows good

    good_columns : every (λ c. ltb c cols) (csr_of rows cols row).col ≡ true
    unfolding csr_of
    good_columns =
        every_map (λ c. ltb c cols) (λ (e : Entry). e.0) (joined row rows)
        ∙ every_by (λ (e : Entry). ltb e.0 cols && finite e.1) (λ e. true) (λ (e : Entry). ltb e.0 cols) (joined row rows) (λ e p q. and_left (ltb e.0 cols) (finite e.1) p) all-good (every-all (λ e. true) (joined row rows) (λ e. refl))

    pub good_values : every finite (csr_of rows cols row).val ≡ true
    unfolding csr_of
    good_values =
        every_map finite (λ (e : Entry). e.1) (joined row rows)
        ∙ every_by (λ (e : Entry). ltb e.0 cols && finite e.1) (λ e. true) (λ (e : Entry). finite e.1) (joined row rows) (λ e p q. and_right (ltb e.0 cols) (finite e.1) p) all-good (every-all (λ e. true) (joined row rows) (λ e. refl))

    good_frame : framed_lists rows (csr_of rows cols row).ptr (length (csr_of rows cols row).col) (length (csr_of rows cols row).val) ≡ true
    unfolding framed_lists csr_of
    good_frame =
        let k : ℕ = length (csr_of rows cols row).col in
        let l : ℕ = length (csr_of rows cols row).val in
        and_both (eqb k l) (framed rows (starts row rows) l) (eq-eqb k l (made_columns ∙ sym made_values)) (framed-starts row rows l made_values)

    pub made_rules : csr_rules (csr_of rows cols row) ≡ accepted
    unfolding csr_rules csr_of
    made_rules = rw (good_frame, good_columns, good_values)

    pub made_accepted : rows ≤ 2 ^ 20 → cols ≤ 2 ^ 20 → length (joined row rows) ≤ 2 ^ 24 → csr_answer (csr_of rows cols row) ≡ accepted
    unfolding csr_answer
    made_accepted a b n = ap₂ (λ (s : Bool) (t : Answer). demand s 1 and_then t) (made_sizes a b n) made_rules

  -- ---- what an accepted build hands on

  pub left_is : (a : Answer) (room : CsrRoom) → a ≡ accepted → csr_left a (csr_of rows cols row) room ≡ csr_of rows cols row
  unfolding csr_left csr_of
  left_is a room e =
      let m : Csr = csr_of rows cols row in
      let ptr = handed_used 0 room.ptr a (suc rows) m.ptr e made_pointers in
      let col = handed_used 0 room.col a (length m.val) m.col e (made_columns ∙ sym made_values) in
      let val = handed_used zero64 room.val a (length m.val) m.val e refl in
      λ i. record { rows = rows; cols = cols; ptr = ptr i; col = col i; val = val i }

-- ---- room for a plot list

pub below_is : (m n : ℕ) → ltb m n ≡ leb (suc m) n
below_is m n = go (dec_lt m n)
  where
    go : Dec (m < n) → ltb m n ≡ leb (suc m) n
    go (yes h) = lt-ltb m n h ∙ sym (le-leb (suc m) n (omega arith))
    go (no h) = le-ltb m n (omega arith) ∙ sym (lt-leb (suc m) n (omega arith))

-- as `holds` answers
pub room_fits : (m : Csr) (room : CsrRoom) (rows kept : ℕ) → length m.ptr ≡ suc rows → length m.col ≡ kept → length m.val ≡ kept → (ltb rows room.ptr && leb kept room.col && leb kept room.val) ≡ fits_csr m room
unfolding fits_csr
room_fits m room rows kept p c v = rw (p, c, v, below_is rows room.ptr)
