-- Demand 3's route by tiles: what it answers, call after call, in the records that the calls leave. The first refusal is the answer,
-- and a list that a refused call or one after it was to write holds zeros.
use Rattle.std.specs.Prelude.{ℕ, List, ◌≡◌, leb, ltb, get_or, Float}
use Rattle.std.specs.Float.{nan}
use Rattle.hybit_core.specs.Answer.{Answer, Given, demand, answers, ◌and_then◌}
use Rattle.hybit_core.specs.Floats.{zero64}
use Rattle.lent.specs.Lent.{built}
use Rattle.mask.specs.Mask.{Mask}
use Rattle.csr32.specs.Csr.{Csr, apply_answer, product}
use Rattle.csr32.specs.Made.{CsrRoom}
use Rattle.abtm.specs.declared.AbtmConfig.{AbtmConfig}
use Rattle.abtm.specs.Tiles.{Tiles}
use Rattle.abtm_build.specs.Build.{TileRoom, tile_answer, tiled}
use Rattle.restricted.specs.Restricted.{restrict_tiles_answer, restricted_tiles_left}
use Rattle.demand_examine.specs.Steps.{after}

-- a list's product, whose row r is answered, in a list of n places: 7; 13; then those of `apply`
unfoldable pub product_answer : Csr → List Float → ℕ → ℕ → Answer
product_answer m x r n = demand (ltb r m.rows) 7 and_then demand (leb m.rows n) 13 and_then apply_answer m x m.rows

-- the same under a name that a lent list called product doesn't hide
abbrev pub product_of : Csr → List Float → List Float
product_of m x = product m x

unfoldable pub list_number : Csr → List Float → ℕ → ℕ → Given Float
list_number m x r n = answers (product_answer m x r n) (get_or (product m x) r nan)

unfoldable pub tile_list_number : Tiles → Mask → List Float → ℕ → CsrRoom → ℕ → Given Float
tile_list_number t a x r rc n = after (restrict_tiles_answer t a rc) (list_number (restricted_tiles_left t a rc) x r n)

unfoldable pub tiles_number : Csr → Mask → List Float → AbtmConfig → ℕ → TileRoom → CsrRoom → ℕ → Given Float
tiles_number m a x h r rt rc n = after (tile_answer m h rt) (tile_list_number (tiled m h rt) a x r rc n)

-- the five lists of tiles after a build that answered a
pub record TileLists (a : Answer) (t : Tiles) (room : TileRoom) (p b o k : List ℕ) (v : List Float) : Type 0 where
  pub pointers : p ≡ built 0 room.ptr a t.ptr
  pub bits : b ≡ built 0 room.mask a t.mask
  pub offsets : o ≡ built 0 room.offset a t.offset
  pub metas : k ≡ built 0 room.meta a t.meta
  pub values : v ≡ built zero64 room.vals a t.vals
