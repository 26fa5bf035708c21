-- What the private functions of the product require.
use Rattle.std.specs.Prelude.{ℕ, ◌+◌, Bool, ◌&&◌, leb, ltb}
use Rattle.lent.specs.Lists.{every}
use Rattle.word.specs.Bits.{members}
use Rattle.topology.specs.Words.{word_rule}
use Rattle.abtm.specs.Tiles.{Listed, word_in, slot_count}

-- each column of a mask, from base on, has an x
unfoldable pub columns_inside : ℕ → ℕ → ℕ → Bool
columns_inside nx base mask = every (λ i. ltb (base + i) nx) (members mask)

-- a listed tile's values lie in the list of nv values, its columns below nx
unfoldable pub tile_inside : ℕ → ℕ → Listed → Bool
tile_inside nv nx e = leb (e.1.0 + slot_count e) nv && word_rule nx (word_in e.1.1, e.0)
