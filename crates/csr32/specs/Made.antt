-- A plot list made row by row: its lists, the room that they take, and what a build of one leaves.
use Rattle.std.specs.Prelude.{ℕ, suc, Bool, ◌&&◌, List, map, leb, length}
use Rattle.hybit_core.specs.Answer.{Answer}
use Rattle.hybit_core.specs.Floats.{zero64}
use Rattle.lent.specs.Lists.{joined, starts, only}
use Rattle.lent.specs.Lent.{handed}
use Rattle.csr32.specs.Csr.{Csr, Entry}
use Rattle.csr32.specs.declared.capacity.CsrCapacity.{CsrCapacity}

-- the entries in the columns of a test, in stored order
abbrev pub entries_in : (ℕ → Bool) → List Entry → List Entry
entries_in t es = only (λ (e : Entry). t e.0) es

-- the plot list whose row r has the entries `row r`
unfoldable pub csr_of : ℕ → ℕ → (ℕ → List Entry) → Csr
csr_of rows cols row = record {
  rows = rows;
  cols = cols;
  ptr = starts row rows;
  col = map (λ (e : Entry). e.0) (joined row rows);
  val = map (λ (e : Entry). e.1) (joined row rows);
}

-- the lengths of the three lent lists
pub record CsrRoom : Type 0 where
  pub ptr : ℕ
  pub col : ℕ
  pub val : ℕ

abbrev pub as_csr_room : ℕ → ℕ → ℕ → CsrRoom
as_csr_room p c v = record { ptr = p; col = c; val = v }

abbrev pub room_of : CsrCapacity → CsrRoom
room_of c = as_csr_room c.row_ptr c.col_idx c.values

-- 13 finds nothing
unfoldable pub fits_csr : Csr → CsrRoom → Bool
fits_csr m room = leb (length m.ptr) room.ptr && leb (length m.col) room.col && leb (length m.val) room.val

-- the plot list that a build leaves in three lent lists, each handed on by its used part
unfoldable pub csr_left : Answer → Csr → CsrRoom → Csr
csr_left a m room = record {
  rows = m.rows;
  cols = m.cols;
  ptr = handed 0 room.ptr a (suc m.rows) m.ptr;
  col = handed 0 room.col a (length m.val) m.col;
  val = handed zero64 room.val a (length m.val) m.val;
}
