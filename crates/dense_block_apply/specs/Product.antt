-- The product of blocks (document 01, "Blocks").
use Rattle.std.specs.Prelude.{ℕ, ◌+◌, ◌-◌, ◌*◌, ◌/◌, ◌%◌, ◌^◌, ◌≤◌, ◌<◌, true, cond, ◌&&◌, leb, ltb, length, get_or, Float}
use mathlib.Core.List.{List, [], ◌∷◌, foldl}
use Rattle.std.specs.Float.{nan, binary64}
use Rattle.std.specs.Float.Ieee.{add, mul}
use Rattle.hybit_core.specs.Answer.{Answer, length_is, ◌and_then◌}
use Rattle.hybit_core.specs.Floats.{zero64}
use Rattle.lent.specs.Lists.{each}
use Rattle.word.specs.Bits.{between}
use Rattle.csr32.specs.Csr.{at}
use Rattle.dense_block.specs.Blocks.{Blocks, inside, blocks_answer}

-- the n products of values from place v on and an x from column c on, ascending
unfoldable pub products : List Float → List Float → ℕ → ℕ → ℕ → List Float
products vals x v c n = each (λ j. mul binary64 (get_or vals (v + j) nan) (at x (c + j))) n

-- s, and each term added to it in order
unfoldable pub term_by_term : Float → List Float → Float
term_by_term s ts = foldl (add binary64) s ts

-- the terms as one number, ((t0 + t1) + ..)
abbrev pub as_one : List Float → Float
as_one [] = zero64
as_one (t ∷ ts) = term_by_term t ts

-- the products of row i of the block at place p, inside the frame
unfoldable pub block_terms : Blocks → List Float → ℕ → ℕ → List Float
block_terms b x i p =
    let w = b.width in
    let c = get_or b.col p 0 in
    products b.vals x (p * (w * w) + w * i) (w * c) (inside w b.cols c)

-- row r's number after one block more: in a full block row a full block adds its terms as one number, a column tail term by term;
-- in a partial last row each block is summed from 0.0
unfoldable pub add_block : Blocks → List Float → ℕ → Float → ℕ → Float
add_block b x r s p =
    let w = b.width in
    let ts = block_terms b x (r % w) p in
    cond (leb (w * (r / w) + w) b.rows)
    (cond (leb (w * get_or b.col p 0 + w) b.cols) (add binary64 s (as_one ts)) (term_by_term s ts))
    (add binary64 s (term_by_term zero64 ts))

-- row r's number s after the blocks from one place up to another
unfoldable pub added_blocks : Blocks → List Float → ℕ → Float → ℕ → ℕ → Float
added_blocks b x r s from to = foldl (add_block b x r) s (between (λ p. true) from to)

-- the number of row r: over the blocks of its block row, from 0.0
unfoldable pub block_sum : Blocks → List Float → ℕ → Float
block_sum b x r =
    let R = r / b.width in
    added_blocks b x r zero64 (get_or b.ptr R 0) (get_or b.ptr (R + 1) 0)

unfoldable pub blocks_product : Blocks → List Float → List Float
blocks_product b x = each (block_sum b x) b.rows

-- apply: 1; 12; 6 for x; 6 for y, which is ny long
unfoldable pub apply_blocks_answer : Blocks → List Float → ℕ → Answer
apply_blocks_answer b x ny = blocks_answer b and_then length_is b.cols (length x) and_then length_is b.rows ny

-- ---- what the code of the full block rows asks and says

-- the widths of blocks
pub data Width : ℕ → Type 0 where
  three : Width 3
  six : Width 6

-- a full block of width w at place p, inside the lists
pub record FullBlock (w : ℕ) (cs : List ℕ) (vals x : List Float) (p : ℕ) : Type 0 where
  pub here : p < length cs
  pub small : p < 2 ^ 24
  pub values : p * (w * w) + w * w ≤ length vals
  pub column : w * get_or cs p 0 + w ≤ length x
  pub few : length x ≤ 2 ^ 20

-- where the full blocks of the places from one up to another end: of rising block columns only the last can reach past the frame
abbrev pub fast_end : ℕ → ℕ → List ℕ → ℕ → ℕ → ℕ
fast_end w cols cs from to = cond (ltb from to && ltb cols (w * get_or cs (to - 1) 0 + w)) (to - 1) to
