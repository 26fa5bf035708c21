-- Accepted blocks as the code of the product reads them: widths, block rows and the place of a block. Assumes nothing.
use mathlib.Core.Bool.{Bool, true, ◌&&◌}
use mathlib.Core.List.{List}
use mathlib.Core.Path.{◌≡◌, sym, ap, subst, ◌∙◌}
use Prim.Native.Nat.{ℕ, min, ◌+◌, ◌-◌, ◌*◌, ◌/◌, ◌%◌, ◌^◌, ◌≤◌, ◌<◌}
use native.Mathlib.Omega.{arith}
use lib.Dec.{ltb}
use lib.ListN.{length, get_or}
use lib.Ieee.{Float}
use mir.Syntax.{w64}
use mir.Val.{Fits}
use borrow.Author.Tests.{leb-true, eqb-true}
use Rattle.hybit_core.specs.Answer.{accepted, demand, length_is, ◌and_then◌}
use Rattle.hybit_core.specs.Domain.{few, many, sizes_fit}
use Rattle.hybit_core.proofs.BoolLaws.{and_left, and_right}
use Rattle.hybit_core.proofs.AnswerLaws.{demand_accepted, then_first, then_second, length_accepted}
use Rattle.lent.specs.Lists.{every}
use Rattle.csr32.proofs.FrameLaws.{Framed, framed_facts, RowIn, row_in}
use Rattle.csr32.proofs.CsrLaws.{column_below}
use Rattle.dense_block.specs.Blocks.{width_of, blocks_for, Blocks, as_blocks, block_sizes, rows_climb, blocks_rules, blocks_answer}
use Rattle.dense_block.specs.declared.DenseBlockSize.{DenseBlockSize}
use Rattle.dense_block.specs.declared.DenseBlockSize.TheVariants.{B3, B6}
use Rattle.dense_block_check.proofs.RuleLaws.{square_small, slots_fit, pointers_hold, values_hold, columns_hold, accepted_frame}
use Rattle.dense_block_apply.specs.Product.{Width, three, six, apply_blocks_answer}

-- ---- numbers that fit

pub fits_under : {a b : ℕ} → a < b → Fits w64 b → Fits w64 a
fits_under h k = omega arith

pub fits_within : {a b : ℕ} → a ≤ b → Fits w64 b → Fits w64 a
fits_within h k = omega arith

pub fits_forty : {a : ℕ} → a ≤ 2 ^ 40 → Fits w64 a
fits_forty h = omega arith

-- a place of a block list, one more, and its place in bytes
pub fits_next : {a : ℕ} → a < 2 ^ 24 → Fits w64 (a + 1)
fits_next h = omega arith

pub fits_bytes : {a : ℕ} → a ≤ 2 ^ 24 → Fits w64 (a * 4)
fits_bytes h = omega arith

-- n is the smaller of two numbers
pub smaller_left : (n k m : ℕ) → n ≡ min k m → n ≤ k
smaller_left n k m e = omega arith

pub smaller_right : (n k m : ℕ) → n ≡ min k m → n ≤ m
smaller_right n k m e = omega arith

-- ---- widths

width_of_lem : (s : DenseBlockSize) → Width (width_of s)
width_of_lem B3 = three
width_of_lem B6 = six

pub row_over : {w : ℕ} → Width w → (R i : ℕ) → i < w → (w * R + i) / w ≡ R
row_over three R i h = omega arith
row_over six R i h = omega arith

pub row_under : {w : ℕ} → Width w → (R i : ℕ) → i < w → (w * R + i) % w ≡ i
row_under three R i h = omega arith
row_under six R i h = omega arith

pub row_full : {w : ℕ} → Width w → (R n : ℕ) → w * R + w ≤ n → R < blocks_for w n
row_full three R n h = omega arith
row_full six R n h = omega arith

pub row_fits : {w : ℕ} → Width w → (R n : ℕ) → w * R + w ≤ n → Fits w64 n → Fits w64 (R + 1)
row_fits three R n h k = omega arith
row_fits six R n h k = omega arith

pub place_small : {w : ℕ} → Width w → (p : ℕ) → p < 2 ^ 24 → p * (w * w) ≤ 2 ^ 39
place_small three p h = omega arith
place_small six p h = omega arith

-- a row r below the full block rows
pub last_over : {w : ℕ} → Width w → (n r : ℕ) → w * (n / w) ≤ r → r < n → r / w ≡ n / w
last_over three n r h k = omega arith
last_over six n r h k = omega arith

pub last_under : {w : ℕ} → Width w → (n r : ℕ) → w * (n / w) ≤ r → r < n → r % w ≡ r - w * (n / w)
last_under three n r h k = omega arith
last_under six n r h k = omega arith

row_last : {w : ℕ} → Width w → (n r : ℕ) → w * (n / w) ≤ r → r < n → n / w < blocks_for w n
row_last three n r h k = omega arith
row_last six n r h k = omega arith

pub last_short : {w : ℕ} → Width w → (n : ℕ) → n < w * (n / w) + w
last_short three n = omega arith
last_short six n = omega arith

local_small : {w : ℕ} → Width w → (n r : ℕ) → r < n → r - w * (n / w) < w
local_small three n r h = omega arith
local_small six n r h = omega arith

row_in_block : {w : ℕ} → Width w → (i : ℕ) → i < w → w * i + w ≤ w * w
row_in_block three i h = omega arith
row_in_block six i h = omega arith

pub at_most_six : {w : ℕ} → Width w → w ≤ 6
at_most_six three = omega arith
at_most_six six = omega arith

column_inside : {w : ℕ} → Width w → (C n : ℕ) → C < blocks_for w n → w * C < n
column_inside three C n h = omega arith
column_inside six C n h = omega arith

values_inside : {w : ℕ} → Width w → (p k n : ℕ) → n ≡ k * (w * w) → p < k → p * (w * w) + w * w ≤ n
values_inside three p k n e h = omega arith
values_inside six p k n e h = omega arith

-- ---- what accepted blocks are

pub record Ready (b : Blocks) (x : List Float) : Type 0 where
  pub width : Width b.width
  pub rows_in : b.rows ≤ 2 ^ 20
  pub cols_in : b.cols ≤ 2 ^ 20
  pub blocks_in : length b.col ≤ 2 ^ 24
  pub frame : Framed (blocks_for b.width b.rows) b.ptr (length b.col)
  pub values : length b.vals ≡ length b.col * (b.width * b.width)
  pub columns : every (λ C. ltb C (blocks_for b.width b.cols)) b.col ≡ true
  pub climb : rows_climb b ≡ true
  pub x_long : length x ≡ b.cols

module _ (b : Blocks) (x : List Float) (ny : ℕ) (e : apply_blocks_answer b x ny ≡ accepted) where
  rules : blocks_answer b ≡ accepted
  unfolding apply_blocks_answer
  rules = then_first (blocks_answer b) (length_is b.cols (length x) and_then length_is b.rows ny) e

  lengths : length_is b.cols (length x) and_then length_is b.rows ny ≡ accepted
  unfolding apply_blocks_answer
  lengths = then_second (blocks_answer b) (length_is b.cols (length x) and_then length_is b.rows ny) e

  pub y_long : ny ≡ b.rows
  y_long = length_accepted b.rows ny (then_second (length_is b.cols (length x)) (length_is b.rows ny) lengths)

  -- the same, said of the rows' number
  pub at_rows : apply_blocks_answer b x b.rows ≡ accepted
  at_rows = ap (apply_blocks_answer b x) (sym y_long) ∙ e

  sizes : (few b.rows && few b.cols && many (length b.col)) ≡ true
  unfolding blocks_answer sizes_fit
  sizes =
      and_left (few b.rows && few b.cols && many (length b.col)) (many (length b.col))
      (demand_accepted (block_sizes b) 1 (then_first (demand (block_sizes b) 1) (demand (blocks_rules b) 12) rules))

  frame : (few b.rows && few b.cols) ≡ true
  frame = and_left (few b.rows && few b.cols) (many (length b.col)) sizes

  pub rows_few : b.rows ≤ 2 ^ 20
  rows_few = leb-true b.rows (2 ^ 20) (and_left (few b.rows) (few b.cols) frame)

  facts : Width b.width → Ready b x
  unfolding blocks_answer blocks_rules
  facts k =
      let n : ℕ = length b.col in
      let f : Bool = pointers_hold b in
      let v : Bool = values_hold b in
      let c : Bool = columns_hold b in
      let rule : (f && v && c && rows_climb b) ≡ true = demand_accepted (blocks_rules b) 12 (then_second (demand (block_sizes b) 1) (demand (blocks_rules b) 12) rules) in
      let lists : (f && v && c) ≡ true = and_left (f && v && c) (rows_climb b) rule in
      record {
        width = k;
        rows_in = rows_few;
        cols_in = leb-true b.cols (2 ^ 20) (and_right (few b.rows) (few b.cols) frame);
        blocks_in = leb-true n (2 ^ 24) (and_right (few b.rows && few b.cols) (many n) sizes);
        frame = framed_facts (blocks_for b.width b.rows) b.ptr n (accepted_frame b rules);
        values = eqb-true (length b.vals) (n * (b.width * b.width)) (and_right f v (and_left (f && v) c lists));
        columns = and_right (f && v) c lists;
        climb = and_right (f && v && c) (rows_climb b) rule;
        x_long = length_accepted b.cols (length x) (then_first (length_is b.cols (length x)) (length_is b.rows ny) lengths);
      }

-- blocks of the size s; w is its width as the code has it
pub ready : (s : DenseBlockSize) {w n m : ℕ} {ps cs : List ℕ} {vs x : List Float} → w ≡ width_of s → apply_blocks_answer (as_blocks n m (width_of s) ps cs vs) x n ≡ accepted → Ready (as_blocks n m w ps cs vs) x
ready s {w} {n} {m} {ps} {cs} {vs} {x} e a = subst (λ (k : ℕ). Ready (as_blocks n m k ps cs vs) x) (sym e) (facts (as_blocks n m (width_of s) ps cs vs) x n a (width_of_lem s))

-- ---- the places of a block row, from one of them up to the next row's pointer

pub record Row (b : Blocks) (x : List Float) (R from to : ℕ) : Type 0 where
  pub ready : Ready b x
  pub starts : get_or b.ptr R 0 ≤ from
  pub ends : to ≡ get_or b.ptr (R + 1) 0
  pub order : from ≤ to
  pub inside : to ≤ length b.col

module _ {b : Blocks} {x : List Float} {R from to : ℕ} (r : Row b x R from to) (p : ℕ) where
  pub row_here : p < to → p < length b.col
  row_here h = omega (arith, r.inside)

  pub row_small : p ≤ to → p ≤ 2 ^ 24
  row_small h = omega (arith, r.inside, r.ready.blocks_in)

-- the block at place p, whose block column is C
pub record Place (b : Blocks) (p C : ℕ) : Type 0 where
  pub small : p < 2 ^ 24
  pub column : b.width * C < b.cols
  pub values : p * (b.width * b.width) + b.width * b.width ≤ length b.vals

module _ {b : Blocks} {x : List Float} (k : Ready b x) where
  pub full_row : (R : ℕ) → b.width * R + b.width ≤ b.rows → RowIn b.ptr (length b.col) R
  full_row R h = row_in (blocks_for b.width b.rows) b.ptr (length b.col) R k.frame (row_full k.width R b.rows h)

  pub row_from : (R from to : ℕ) → RowIn b.ptr (length b.col) R → get_or b.ptr R 0 ≤ from → from ≤ get_or b.ptr (R + 1) 0 → to ≡ get_or b.ptr (R + 1) 0 → Row b x R from to
  row_from R from to i p l q = record { ready = k; starts = p; ends = q; order = omega arith; inside = omega (arith, i.inside) }

  pub row_is : (R from to : ℕ) → RowIn b.ptr (length b.col) R → from ≡ get_or b.ptr R 0 → to ≡ get_or b.ptr (R + 1) 0 → Row b x R from to
  row_is R from to i p q = row_from R from to i (omega arith) (omega (arith, i.order)) q

  pub place : (p C : ℕ) → p < length b.col → C ≡ get_or b.col p 0 → Place b p C
  place p C h e = record {
    small = omega (arith, k.blocks_in);
    column = column_inside k.width C b.cols (column_below (blocks_for b.width b.cols) b.col p C k.columns h e);
    values = values_inside k.width p (length b.col) (length b.vals) k.values h;
  }

-- ---- a row r below the full block rows, in block row `last`

pub record LastRow (b : Blocks) (x : List Float) (r last : ℕ) : Type 0 where
  pub ready : Ready b x
  pub is : last ≡ b.rows / b.width
  pub below : b.width * last ≤ r
  pub inside : r < b.rows
  pub pointers : RowIn b.ptr (length b.col) last

pub last_row : {b : Blocks} {x : List Float} → Ready b x → (r last : ℕ) → last ≡ b.rows / b.width → b.width * (b.rows / b.width) ≤ r → r < b.rows → LastRow b x r last
last_row {b} k r last is h l = record {
  ready = k;
  is = is;
  below = rw is h;
  inside = l;
  pointers = row_in (blocks_for b.width b.rows) b.ptr (length b.col) last k.frame (rw is (row_last k.width b.rows r h l));
}

-- the block at place p, whose block column is C, and the row's part of it
pub record LastPlace (b : Blocks) (x : List Float) (r last p C : ℕ) : Type 0 where
  pub square : b.width * b.width ≤ 2 ^ 40
  pub first : p * (b.width * b.width) ≤ 2 ^ 40
  pub row : b.width * (r - b.width * last) ≤ 2 ^ 40
  pub start : p * (b.width * b.width) + b.width * (r - b.width * last) ≤ 2 ^ 40
  pub column : b.width * C < b.cols
  pub inside : b.width * C ≤ b.cols
  -- as many terms as lie inside, asked for as the code does
  pub terms : (n : ℕ) → n ≡ min b.width (b.cols - b.width * C)
      → (p * (b.width * b.width) + b.width * (r - b.width * last) + n ≤ length b.vals)
      × ((b.width * C + n ≤ length x) × ((p * (b.width * b.width) + b.width * (r - b.width * last) ≤ 2 ^ 40) × (b.width * C ≤ 2 ^ 40)))

pub last_place : {b : Blocks} {x : List Float} {r last : ℕ} → LastRow b x r last → (p C : ℕ) → p < length b.col → C ≡ get_or b.col p 0 → LastPlace b x r last p C
last_place {b} {x} {r} {last} k p C h e =
    let w = k.ready.width in
    let q = place k.ready p C h e in
    let v : ℕ = b.width * (r - b.width * last) in
    let sq : ℕ = b.width * b.width in
    let at : ℕ = p * sq in
    let row : v + b.width ≤ sq = row_in_block w (r - b.width * last) (rw k.is (local_small w b.rows r k.inside)) in
    let square : sq ≤ 36 = square_small b.width (at_most_six w) in
    let values : at + sq ≤ length b.vals = q.values in
    let few : length b.vals ≤ 2 ^ 40 = omega (arith, slots_fit (length b.col) b.width k.ready.blocks_in (at_most_six w), k.ready.values) in
    let column : b.width * C < b.cols = q.column in
    let long : length x ≡ b.cols = k.ready.x_long in
    let cols : b.cols ≤ 2 ^ 20 = k.ready.cols_in in
    record {
      square = omega arith;
      first = omega arith;
      row = omega arith;
      start = omega arith;
      column = column;
      inside = omega arith;
      terms = λ n g. (omega arith, (omega arith, (omega arith, omega arith)));
    }
