-- Packing (document 01, "Packed store"): the store of a plot list, and the pruned dot of a plot list through its store.
use Rattle.std.specs.Prelude.{ℕ, suc, Bool, ◌&&◌, List, leb, length, Float}
use Rattle.hybit_core.specs.Answer.{Answer, Given, demand, on_given, ◌and_then◌}
use Rattle.hybit_core.specs.Floats.{zero64}
use Rattle.lent.specs.Lent.{handed}
use Rattle.mask.specs.Mask.{Mask, active}
use Rattle.csr32.specs.Csr.{Csr, entries, present, merged, at}
use Rattle.topology.specs.Calls.{Room, as_room, fits_words}
use Rattle.metadata_first.specs.Store.{Store, packed_of}
use Rattle.metadata_first.specs.Dot.{sparse_dot_row, Three, three_of, demanded}
use Rattle.metadata_first_merge.specs.Merge.{merge_answer}

-- the store of a plot list: each column that has an entry, with its merged value
unfoldable pub store_of : Csr → Store
store_of m = packed_of m.rows m.cols (λ r. present (entries m r)) (λ r. merged (entries m r))

-- the lengths of the five lent lists
pub record StoreRoom : Type 0 where
  pub words : Room
  pub vptr : ℕ
  pub vals : ℕ

abbrev pub as_store_room : ℕ → ℕ → ℕ → ℕ → ℕ → StoreRoom
as_store_room p w m vp vs = record { words = as_room p w m; vptr = vp; vals = vs }

-- 13 finds nothing
unfoldable pub fits_store : Store → StoreRoom → Bool
fits_store s room = fits_words s.words room.words && leb (length s.vptr) room.vptr && leb (length s.vals) room.vals

-- from_csr32: 1; 2, 3, 4; 4 for an infinite merged value; 13
unfoldable pub pack_answer : Csr → StoreRoom → Answer
pack_answer m room = merge_answer m and_then demand (fits_store (store_of m) room) 13

-- ---- the store that a later call is handed

-- what packing leaves in the five lent lists, each handed on by its used part
unfoldable pub packed : Csr → StoreRoom → Store
packed m room =
    let s = store_of m in
    let a = pack_answer m room in
    record {
      words = record {
        rows = m.rows;
        cols = m.cols;
        ptr = handed 0 room.words.ptr a (suc m.rows) s.words.ptr;
        word = handed 0 room.words.word a (length s.words.word) s.words.word;
        mask = handed 0 room.words.mask a (length s.words.word) s.words.mask;
        total = s.words.total;
      };
      vptr = handed 0 room.vptr a (suc m.rows) s.vptr;
      vals = handed zero64 room.vals a s.words.total s.vals;
    }

-- the three of a row's pruned dot: packing, then `sparse_dot_row` on the store that it left
abbrev pub pruned_dot : Csr → StoreRoom → Mask → List Float → ℕ → Given Three
pruned_dot m room a x r = on_given three_of (sparse_dot_row (packed m room) a x r)

-- the three that demand 2 and demand 3 want of a row, from the matrix itself
abbrev pub wanted : Csr → Mask → List Float → ℕ → Three
wanted m a x r = demanded m.cols (entries m r) (active a) (at x)
