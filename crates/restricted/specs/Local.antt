-- Local lists (document 01, "Restricted and local lists"): the rows and columns of a region, numbered anew.
use Rattle.std.specs.Prelude.{ℕ, ◌+◌, ◌*◌, Bool, cond, ◌&&◌, List, map, eqb, leb, ltb, length, get_or, Float}
use Rattle.std.specs.Float.{binary64}
use Rattle.std.specs.Float.Ieee.{sub}
use Rattle.hybit_core.specs.Answer.{Answer, demand, length_is, ◌and_then◌}
use Rattle.hybit_core.specs.Domain.{few, saturated}
use Rattle.hybit_core.specs.Floats.{zero64, count_as_float, ratio_of}
use Rattle.lent.specs.Lists.{every, climbs, spread}
use Rattle.word.specs.Bits.{below, count}
use Rattle.mask.specs.Mask.{Mask, active, mask_rules}
use Rattle.csr32.specs.Csr.{Csr, Entry, csr_sizes, csr_rules, entries, at}
use Rattle.csr32.specs.Made.{entries_in, csr_of, CsrRoom, fits_csr}
use Rattle.restricted.specs.declared.LocalRegion.{LocalRegion}

-- ---- from CSR

-- the region's members, ascending: local number i is the i-th of them
unfoldable pub region_members : Mask → List ℕ
region_members a = below (active a) a.size

-- an entry whose column has its new number: the count of region members below it
unfoldable pub renumbered : Mask → Entry → Entry
renumbered a e = (count (active a) e.0, e.1)

-- the region's rows, ascending, each with its entries in the region's columns, in stored order
unfoldable pub local_list : Csr → Mask → Csr
local_list m a =
    let k = length (region_members a) in
    csr_of k k (λ i. map (renumbered a) (entries_in (active a) (entries m (get_or (region_members a) i 0))))

-- the source entries of the region's rows
unfoldable pub region_entries : Csr → Mask → List Entry
region_entries m a = spread (entries m) (region_members a)

-- 13 finds nothing: a list of so many places for the members, and the lists of the local list
unfoldable pub fits_local : Csr → Mask → ℕ → CsrRoom → Bool
fits_local m a places room = leb (length (region_members a)) places && fits_csr (local_list m a) room

-- from_csr32: 1; 2, 3, 4; 5; 10; 6; 13
unfoldable pub local_answer : Csr → Mask → ℕ → CsrRoom → Answer
local_answer m a places room =
    demand (few a.size && csr_sizes m) 1
    and_then csr_rules m
    and_then demand (mask_rules a) 5
    and_then demand (eqb m.rows m.cols) 10
    and_then length_is m.rows a.size
    and_then demand (fits_local m a places room) 13

-- ---- its members, handed in

-- 12 finds nothing: members rising, and below the global size
unfoldable pub member_rules : ℕ → List ℕ → Bool
member_rules n ms = climbs 0 ms && every (λ g. ltb g n) ms

-- the checks of the members: 1, 12
unfoldable pub members_answer : ℕ → List ℕ → Answer
members_answer n ms = demand (few n) 1 and_then demand (member_rules n ms) 12

-- gather_input: 1; 12; 6 for the global vector; 6 for the local one, which is nl long
unfoldable pub gather_answer : ℕ → List ℕ → List Float → ℕ → Answer
gather_answer n ms x nl = members_answer n ms and_then length_is n (length x) and_then length_is (length ms) nl

-- the region's numbers
unfoldable pub gathered : List ℕ → List Float → List Float
gathered ms x = map (at x) ms

-- ---- its numbers

unfoldable pub region_of : Csr → Mask → LocalRegion
region_of m a = record { global_size = m.rows; local_nodes = length (region_members a); local_nnz = length (local_list m a).val; source_row_nnz = length (region_entries m a) }

-- 1.0 − local ÷ source in f64, 0.0 without a source entry
unfoldable pub boundary_ratio : LocalRegion → Float
boundary_ratio s = cond (eqb s.source_row_nnz 0) zero64 (sub binary64 (count_as_float 1) (ratio_of s.local_nnz s.source_row_nnz))

-- a pointer, a column and a member take 4 bytes, a value 8
abbrev pub region_bytes : LocalRegion → ℕ
region_bytes s = saturated (4 * (s.local_nodes + 1) + 12 * s.local_nnz + 4 * s.local_nodes)
