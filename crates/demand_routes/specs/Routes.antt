-- Demand 3's two dots of a row: what each answers, call after call, in the records that the calls leave. The first refusal is the
-- answer, and a list that a refused call or one after it was to write holds zeros.
use Rattle.std.specs.Prelude.{ℕ, List, ◌≡◌, leb, Float}
use Rattle.hybit_core.specs.Answer.{Answer, Given, demand}
use Rattle.hybit_core.specs.Floats.{zero64}
use Rattle.lent.specs.Lent.{built}
use Rattle.word.specs.Bits.{ceil64}
use Rattle.mask.specs.Mask.{Mask, all_active}
use Rattle.csr32.specs.Csr.{Csr}
use Rattle.csr32.specs.Made.{CsrRoom}
use Rattle.metadata_first.specs.declared.AbtmRowDot.{AbtmRowDot}
use Rattle.metadata_first.specs.Store.{Store}
use Rattle.metadata_first.specs.Dot.{sparse_dot_row}
use Rattle.metadata_first_build.specs.Pack.{StoreRoom, pack_answer, packed}
use Rattle.restricted.specs.Restricted.{restrict_answer, restricted_left}
use Rattle.demand_examine.specs.Steps.{after}

-- ---- the pruned dot

-- packing, and the dot on the store that it left
unfoldable pub packed_dot : Csr → StoreRoom → Mask → List Float → ℕ → Given AbtmRowDot
packed_dot m room a x r = after (pack_answer m room) (sparse_dot_row (packed m room) a x r)

-- the five lists of a store after a build that answered t
pub record StoreLists (t : Answer) (s : Store) (room : StoreRoom) (p w b vp : List ℕ) (vs : List Float) : Type 0 where
  pub pointers : p ≡ built 0 room.words.ptr t s.words.ptr
  pub numbers : w ≡ built 0 room.words.word t s.words.word
  pub bits : b ≡ built 0 room.words.mask t s.words.mask
  pub starts : vp ≡ built 0 room.vptr t s.vptr
  pub values : vs ≡ built zero64 room.vals t s.vals

-- ---- restricting, packing, and the dot with every plot active

-- 13 for the words of that mask, in a list of n places
unfoldable pub all_answer : Csr → ℕ → Answer
all_answer m n = demand (leb (ceil64 m.cols) n) 13

unfoldable pub all_dot : Csr → List Float → ℕ → ℕ → StoreRoom → Given AbtmRowDot
all_dot m x r n rp = after (all_answer m n) (packed_dot m rp (all_active m.cols) x r)

unfoldable pub restricted_dot : Csr → Mask → List Float → ℕ → CsrRoom → ℕ → StoreRoom → Given AbtmRowDot
restricted_dot m a x r rc n rp = after (restrict_answer m a rc) (all_dot (restricted_left m a rc) x r n rp)
