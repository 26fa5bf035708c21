-- The expansion of a mask (document 01, "Tiles"): one hop.
use Rattle.std.specs.Prelude.{ℕ, Bool, true, ◌&&◌, ◌||◌, leb, eqb}
use Rattle.hybit_core.specs.Answer.{Answer, demand, length_is, ◌and_then◌}
use Rattle.hybit_core.specs.Domain.{few}
use Rattle.lent.specs.Lists.{some}
use Rattle.word.specs.Bits.{below, ceil64}
use Rattle.mask.specs.Mask.{Mask, active, mask_rules}
use Rattle.abtm.specs.Tiles.{Tiles, tile_sizes, in_tiles, tiles_rules}

-- c is a column of one of the mask's rows below n
unfoldable pub reached : Tiles → Mask → ℕ → ℕ → Bool
reached t a n c = some (λ r. active a r && in_tiles t r c) (below (λ r. true) n)

-- the mask joined with the columns in the tile masks of its rows
unfoldable pub expanded : Tiles → Mask → ℕ → Bool
expanded t a c = active a c || reached t a t.rows c

-- expand_mask_one_hop: 1; 12; 5; 10; 6; 13
unfoldable pub expand_answer : Tiles → Mask → ℕ → Answer
expand_answer t a room =
    demand (few a.size && tile_sizes t) 1
    and_then demand (tiles_rules t) 12
    and_then demand (mask_rules a) 5
    and_then demand (eqb t.rows t.cols) 10
    and_then length_is t.rows a.size
    and_then demand (leb (ceil64 a.size) room) 13
