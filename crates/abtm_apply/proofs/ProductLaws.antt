-- The product of accepted tiles, row after row. Assumes nothing.
use mathlib.Core.Bool.{true}
use mathlib.Core.List.{List, map, zip}
use mathlib.Core.Path.{◌≡◌, ap, ◌∙◌}
use Prim.Native.Nat.{ℕ, ◌+◌, ◌-◌, ◌≤◌, ◌<◌, ◌^◌}
use native.Mathlib.Omega.{arith}
use lib.ListN.{length, get_or, take, drop, set}
use lib.Ieee.{Float}
use Rattle.hybit_core.specs.Answer.{accepted, length_is, ◌and_then◌}
use Rattle.hybit_core.proofs.BoolLaws.{and_both}
use Rattle.hybit_core.proofs.AnswerLaws.{then_first, then_second, length_accepted}
use Rattle.lent.specs.Lists.{every}
use Rattle.lent.proofs.ListLaws.{every_by}
use Rattle.lent.proofs.LentLaws.{Filled, filled_none, filled_length, filled_more, filled_done}
use Rattle.topology.specs.Words.{word_rule}
use Rattle.abtm.specs.Tiles.{Tiles, Listed, word_in, tile_at, row_tiles, tiles_answer}
use Rattle.abtm_check.proofs.TilesLaws.{AcceptedTiles, tiles_facts, slots_inside, row_listed, row_inside, row_words_lem, lent_listed}
use Rattle.abtm_apply.specs.Product.{sum_tiles, tiles_product, apply_tiles_answer}
use Rattle.abtm_apply.specs.Ready.{tile_inside}

-- y with its first rows written
pub record Rows (t : Tiles) (x old : List Float) (row : ℕ) (y : List Float) : Type 0 where
  pub inside : row ≤ t.rows
  pub filled : Filled (λ r. sum_tiles t.cols x (row_tiles t r)) old row y

pub rows_none : (t : Tiles) (x old : List Float) → Rows t x old 0 old
rows_none t x old = record { inside = omega arith; filled = filled_none (λ r. sum_tiles t.cols x (row_tiles t r)) old }

module _ (t : Tiles) (x : List Float) (ny : ℕ) (e : apply_tiles_answer t x ny ≡ accepted) where
  pub tiles_good : AcceptedTiles t
  unfolding apply_tiles_answer
  tiles_good = tiles_facts t (then_first (tiles_answer t) (length_is t.cols (length x) and_then length_is t.rows ny) e)

  lengths : length_is t.cols (length x) and_then length_is t.rows ny ≡ accepted
  unfolding apply_tiles_answer
  lengths = then_second (tiles_answer t) (length_is t.cols (length x) and_then length_is t.rows ny) e

  x_long : length x ≡ t.cols
  x_long = length_accepted t.cols (length x) (then_first (length_is t.cols (length x)) (length_is t.rows ny) lengths)

  y_long : ny ≡ t.rows
  y_long = length_accepted t.rows ny (then_second (length_is t.cols (length x)) (length_is t.rows ny) lengths)

  pub rows_few : t.rows ≤ 2 ^ 20
  rows_few = tiles_good.rows_in

  -- ---- a row by its two pointers, as the code reads them
  module _ (r a b : ℕ) (h : r < t.rows) (ea : a ≡ get_or t.ptr r 0) (eb : b ≡ get_or t.ptr (r + 1) 0) where
    tiles_inside : every (tile_inside (length t.vals) t.cols) (row_listed t r) ≡ true
    unfolding tile_inside
    tiles_inside =
        every_by (slots_inside (length t.vals)) (λ (e : Listed). word_rule t.cols (word_in e.1.1, e.0)) (tile_inside (length t.vals) t.cols) (row_listed t r)
        (λ e p q. and_both (slots_inside (length t.vals) e) (word_rule t.cols (word_in e.1.1, e.0)) p q) (row_inside t tiles_good r h) (row_words_lem t tiles_good r h)

    pub lent_inside : every (tile_inside (length t.vals) (length x)) (zip (take (b - a) (drop a t.mask)) (zip (take (b - a) (drop a t.offset)) (take (b - a) (drop a t.meta)))) ≡ true
    lent_inside = ap (λ (n : ℕ). every (tile_inside (length t.vals) n) (zip (take (b - a) (drop a t.mask)) (zip (take (b - a) (drop a t.offset)) (take (b - a) (drop a t.meta))))) x_long ∙ ap (every (tile_inside (length t.vals) t.cols)) (lent_listed t tiles_good r a b h ea eb) ∙ tiles_inside

    pub row_number : (s : Float) → s ≡ sum_tiles (length x) x (map (tile_at t.vals) (zip (take (b - a) (drop a t.mask)) (zip (take (b - a) (drop a t.offset)) (take (b - a) (drop a t.meta))))) → s ≡ sum_tiles t.cols x (row_tiles t r)
    unfolding row_tiles
    row_number s q = q ∙ (λ i. sum_tiles (x_long i) x (map (tile_at t.vals) (lent_listed t tiles_good r a b h ea eb i)))

  -- ---- y on the way
  module _ (old : List Float) (o : length old ≡ ny) (row : ℕ) (y : List Float) (inv : Rows t x old row y) where
    pub rows_long : length y ≡ length old
    rows_long = filled_length (λ r. sum_tiles t.cols x (row_tiles t r)) old row y inv.filled (omega (arith, inv.inside, y_long))

    pub rows-room : row < t.rows → row < length y
    rows-room h = omega (arith, rows_long, y_long)

    pub rows_more : (s : Float) → row < t.rows → s ≡ sum_tiles t.cols x (row_tiles t row) → Rows t x old (row + 1) (set y row s)
    rows_more s h q = record { inside = omega arith; filled = filled_more (λ r. sum_tiles t.cols x (row_tiles t r)) old row y inv.filled s q (omega (arith, y_long)) }

    pub rows_done : t.rows ≤ row → y ≡ tiles_product t x
    unfolding tiles_product
    rows_done h = filled_done (λ r. sum_tiles t.cols x (row_tiles t r)) old row y inv.filled t.rows (o ∙ y_long) inv.inside h
