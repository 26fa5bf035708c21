-- What the active columns take from listed tiles, as the code finds it: by the members of a tile's mask that are active, and by
-- the place of each in the list of values.
use Rattle.std.specs.Prelude.{ℕ, ◌+◌, ◌*◌, Bool, cond, ◌&&◌, List, map, leb, ltb, length, get_or, Float, ◌≡◌}
use Rattle.std.specs.Float.{nan}
use Rattle.hybit_core.specs.Answer.{Answer, demand, length_is, ◌and_then◌}
use Rattle.hybit_core.specs.Domain.{few, many}
use Rattle.hybit_core.specs.Floats.{finite}
use Rattle.lent.specs.Lists.{every, spread}
use Rattle.lent.specs.Lent.{Appended}
use Rattle.mask.specs.Mask.{Mask, mask_rules}
use Rattle.word.specs.Bits.{has, count, members, word_of}
use Rattle.csr32.specs.Csr.{Entry}
use Rattle.csr32.specs.Made.{CsrRoom, fits_csr}
use Rattle.abtm.specs.Tiles.{Tiles, tile_sizes, tiles_rules, Listed, word_in, is_dense, slot_count}
use Rattle.restricted.specs.Restricted.{restricted_tiles}

-- the place of column i among a tile's values
unfoldable pub place_in : ℕ → ℕ → ℕ → ℕ
place_in meta mask i = cond (is_dense meta) i (count (has mask) i)

-- its value
unfoldable pub value_in : List Float → ℕ → ℕ → ℕ → ℕ → Float
value_in vals mask offset meta i = get_or vals (offset + place_in meta mask i) nan

-- column i of a listed tile with its value
abbrev pub entry_in : List Float → Listed → ℕ → Entry
entry_in vals e i = (64 * word_in e.1.1 + i, value_in vals e.0 e.1.0 e.1.1 i)

-- the members of a mask that are active: ws are the words of the active columns
unfoldable pub active_bits : List ℕ → ℕ → ℕ → ℕ
active_bits ws mask meta = word_of (λ i. has mask i && has (get_or ws (word_in meta) 0) i)

-- the entries of a listed tile in active columns, ascending
unfoldable pub kept_of : List Float → List ℕ → Listed → List Entry
kept_of vals ws e = map (entry_in vals e) (members (active_bits ws e.0 e.1.1))

unfoldable pub kept_all : List Float → List ℕ → List Listed → List Entry
kept_all vals ws l = spread (kept_of vals ws) l

-- how many entries tiles of these masks and metas keep
unfoldable pub kept_count : List ℕ → List (ℕ × ℕ) → ℕ
kept_count ws l = length (spread (λ (e : ℕ × ℕ). members (active_bits ws e.0 e.1)) l)

-- the tests of what is kept in so many rows: 4, 1, 13
unfoldable pub kept_answer : ℕ → List Entry → CsrRoom → Answer
kept_answer rows kept room =
    demand (every (λ (e : Entry). finite e.1) kept) 4
    and_then demand (many (length kept)) 1
    and_then demand (leb (rows + 1) room.ptr && leb (length kept) room.col && leb (length kept) room.val) 13

-- ---- what the private functions require

-- the values at the columns of `bits` lie in a list of nv values
unfoldable pub bits_inside : ℕ → ℕ → ℕ → ℕ → ℕ → Bool
bits_inside nv bits mask offset meta = every (λ i. ltb (offset + place_in meta mask i) nv) (members bits)

-- a listed tile's values lie in a list of nv values, its word is one of nw
unfoldable pub tile_ready : ℕ → ℕ → Listed → Bool
tile_ready nv nw e = leb (e.1.0 + slot_count e) nv && ltb (word_in e.1.1) nw

-- ---- the two halves of the call's checks

-- those of the records: 1; 12; 5; 6
unfoldable pub records_answer : Tiles → Mask → Answer
records_answer t a =
    demand (few a.size && tile_sizes t) 1
    and_then demand (tiles_rules t) 12
    and_then demand (mask_rules a) 5
    and_then length_is t.cols a.size

-- those of what is kept: 4, 1, 13
unfoldable pub last_answer : Tiles → Mask → CsrRoom → Answer
last_answer t a room =
    demand (every finite (restricted_tiles t a).val) 4
    and_then demand (many (length (restricted_tiles t a).val)) 1
    and_then demand (fits_csr (restricted_tiles t a) room) 13

-- what an accepted build has written before the lists are cleared past it
pub record Restriction (t : Tiles) (a : Mask) (kept : ℕ) (old_p new_p old_c new_c : List ℕ) (old_v new_v : List Float) : Type 0 where
  pub number : kept ≡ length (restricted_tiles t a).val
  pub pointers : Appended (restricted_tiles t a).ptr 0 (t.rows + 1) old_p new_p
  pub columns : Appended (restricted_tiles t a).col 0 kept old_c new_c
  pub values : Appended (restricted_tiles t a).val 0 kept old_v new_v
