-- A run of entries in one block: the row that it lies in is copied in, merged into and copied back. Assumes nothing.
use mathlib.Core.Bool.{Bool, cond}
use mathlib.Core.List.{List, [], ◌++◌}
use mathlib.Core.Path.{◌≡◌, sym, ap, ◌∙◌, subst}
use Prim.Native.Nat.{ℕ, ◌+◌, ◌-◌, ◌*◌, ◌/◌, ◌%◌, ◌≤◌, ◌<◌}
use native.Mathlib.Nat.{mod-lt, div-add-mod, mul-le-mul_left, mul-suc}
use native.Mathlib.Decide.{dec_lt}
use native.Mathlib.Omega.{arith}
use lib.Dec.{eqb}
use lib.ListN.{length, get_or, take, drop, set, length-drop}
use lib.Seq.{get_or-set_same, length-take-le}
use lib.Ieee.{Float, nan}
use borrow.Author.Tests.{eq-eqb, ne_eqb}
use Rattle.lent.specs.Lists.{each, only}
use Rattle.lent.proofs.ListLaws.{each_is, get_or-each, length-each}
use Rattle.csr32.specs.Csr.{Entry}
use Rattle.dense_block.specs.Blocks.{width_of}
use Rattle.dense_block.specs.declared.DenseBlockSize.{DenseBlockSize}
use Rattle.dense_block_build.specs.Making.{add_values, in_line, in_block}
use Rattle.dense_block_build.proofs.SizeLaws.{square_small}
use Rattle.dense_block_build.proofs.MergeLaws.{at_place}
use Rattle.dense_block_build.proofs.RowLaws.{put_length, put_before, put_in, put_after, part_at}

-- ---- where a row of a block stands

-- a row's values lie inside the block's, which are few
pub row_fits : (s : DenseBlockSize) (w row n : ℕ) → w ≡ width_of s → row < width_of s → n ≡ width_of s * width_of s → (w * row + w ≤ n) × (n ≤ 36)
row_fits s w row n e h l =
    let k : n ≡ w * w = l ∙ ap (λ (k : ℕ). k * k) (sym e) in
    let b : row < w = omega arith in
    (omega (arith, k, mul-le-mul_left w b, mul-suc w row), omega (arith, k, square_small s w e))

pub row_part : (w row : ℕ) (out : List Float) → w * row + w ≤ length out → length (take (w * row + w - w * row) (drop (w * row) out)) ≡ w
row_part w row out h =
    let k : w * row + w - w * row ≡ w = omega arith in
    length-take-le (w * row + w - w * row) (drop (w * row) out) (omega (arith, length-drop (w * row) out)) ∙ k

module _ (w row q : ℕ) (pos : 0 < w) where
  before_row : q < w * row → q / w ≡ row → ⊥
  before_row h e = omega (arith, div-add-mod q w, ap (λ (k : ℕ). w * k) e)

  after_row : w * row + w ≤ q → q / w ≡ row → ⊥
  after_row h e = omega (arith, div-add-mod q w, mod-lt q pos, ap (λ (k : ℕ). w * k) e)

  in_row : w * row ≤ q → q < w * row + w → q / w ≡ row
  in_row a b = go (dec_lt (q / w) row) (dec_lt row (q / w))
    where
      go : Dec (q / w < row) → Dec (row < q / w) → q / w ≡ row
      go (yes x) y = absurd (omega (arith, div-add-mod q w, mod-lt q pos, mul-le-mul_left w x, mul-suc w (q / w)))
      go (no x) (yes y) = absurd (omega (arith, div-add-mod q w, mul-le-mul_left w y, mul-suc w row))
      go (no x) (no y) = omega arith

  place_in_row : w * row ≤ q → q < w * row + w → q % w ≡ q - w * row
  place_in_row a b = omega (arith, div-add-mod q w, ap (λ (k : ℕ). w * k) (in_row a b))

-- ---- the row merged

module _ (w row : ℕ) (line₀ line₁ : List Float) (block : List (List Float)) (es : List Entry) (old new : List Float)
    (pos : 0 < w) (six : w ≤ 6) (h : row < w) (fits : w * row + w ≤ length old) (long : length old ≡ w * w) (room : length block ≡ 6)
    (l₀ : each (λ j. get_or line₀ j nan) w ≡ take (w * row + w - w * row) (drop (w * row) old))
    (l₁ : each (λ j. get_or line₁ j nan) w ≡ in_line w es line₀)
    (n : new ≡ each (λ j. get_or (get_or (set block row line₁) row []) j nan) w) where
  order : w * row ≤ w * row + w
  order = omega arith

  new_long : length new ≡ w * row + w - w * row
  new_long = omega (arith, ap length n ∙ length-each (λ j. get_or (get_or (set block row line₁) row []) j nan) w)

  new_at : (j : ℕ) → j < w → get_or new j nan ≡ add_values (get_or old (w * row + j) nan) (only (at_place w j) es)
  unfolding in_line
  new_at j b =
      ap (λ (l : List Float). get_or l j nan) n ∙ get_or-each (λ j. get_or (get_or (set block row line₁) row []) j nan) w j nan b
      ∙ ap (λ (l : List Float). get_or l j nan) (get_or-set_same block row line₁ [] (omega (arith, room)))
      ∙ sym (get_or-each (λ j. get_or line₁ j nan) w j nan b) ∙ ap (λ (l : List Float). get_or l j nan) l₁ ∙ get_or-each (λ j. add_values (get_or line₀ j nan) (only (at_place w j) es)) w j nan b
      ∙ ap (λ (x : Float). add_values x (only (at_place w j) es))
      (sym (get_or-each (λ j. get_or line₀ j nan) w j nan b) ∙ ap (λ (l : List Float). get_or l j nan) l₀ ∙ part_at nan (w * row) (w * row + w) old new order fits new_long j (omega arith))

  merged_row : take (w * row) old ++ (new ++ drop (w * row + w - w * row) (drop (w * row) old)) ≡ in_block w row es old
  unfolding in_block
  merged_row = each_is nan (λ q. next q (eqb (q / w) row)) (w * w) (take (w * row) old ++ (new ++ drop (w * row + w - w * row) (drop (w * row) old))) (put_length nan (w * row) (w * row + w) old new order fits new_long ∙ long) places
    where
      next : ℕ → Bool → Float
      next q t = cond t (add_values (get_or old q nan) (only (at_place w (q % w)) es)) (get_or old q nan)

      places : (q : ℕ) → q < w * w → get_or (take (w * row) old ++ (new ++ drop (w * row + w - w * row) (drop (w * row) old))) q nan ≡ next q (eqb (q / w) row)
      places q b = go (dec_lt q (w * row)) (dec_lt q (w * row + w))
        where
          go : Dec (q < w * row) → Dec (q < w * row + w) → get_or (take (w * row) old ++ (new ++ drop (w * row + w - w * row) (drop (w * row) old))) q nan ≡ next q (eqb (q / w) row)
          go (yes x) y = put_before nan (w * row) (w * row + w) old new order fits new_long q x ∙ sym (ap (next q) (ne_eqb (q / w) row (before_row w row q pos x)))
          go (no x) (no y) = put_after nan (w * row) (w * row + w) old new order fits new_long q (omega arith) ∙ sym (ap (next q) (ne_eqb (q / w) row (after_row w row q pos (omega arith))))
          go (no x) (yes y) =
              let a : w * row ≤ q = omega arith in
              let k : w * row + (q - w * row) ≡ q = omega arith in
              let m : q - w * row ≡ q % w = sym (place_in_row w row q pos a y) in
              put_in nan (w * row) (w * row + w) old new order fits new_long q a y ∙ new_at (q - w * row) (omega arith)
              ∙ ap (λ (i : ℕ). add_values (get_or old i nan) (only (at_place w (q - w * row)) es)) k ∙ ap (λ (i : ℕ). add_values (get_or old q nan) (only (at_place w i) es)) m
              ∙ sym (ap (next q) (eq-eqb (q / w) row (in_row w row q pos a y)))

-- the same of a width as the code holds it
pub merged_run : (v w row : ℕ) (line₀ line₁ : List Float) (block : List (List Float)) (es : List Entry) (old new : List Float) → w ≡ v → 0 < v → v ≤ 6 → row < v → length old ≡ v * v → w * row + w ≤ length old → length block ≡ 6
    → each (λ j. get_or line₀ j nan) w ≡ take (w * row + w - w * row) (drop (w * row) old) → each (λ j. get_or line₁ j nan) v ≡ in_line v es line₀ → new ≡ each (λ j. get_or (get_or (set block row line₁) row []) j nan) w
    → take (w * row) old ++ (new ++ drop (w * row + w - w * row) (drop (w * row) old)) ≡ in_block v row es old
merged_run v w row line₀ line₁ block es old new e pos six h long fits room l₀ l₁ n =
    subst (λ (k : ℕ). take (k * row) old ++ (new ++ drop (k * row + k - k * row) (drop (k * row) old)) ≡ in_block v row es old) (sym e)
    (merged_row v row line₀ line₁ block es old new pos six h (subst (λ (k : ℕ). k * row + k ≤ length old) e fits) long room
    (subst (λ (k : ℕ). each (λ j. get_or line₀ j nan) k ≡ take (k * row + k - k * row) (drop (k * row) old)) e l₀) l₁ (subst (λ (k : ℕ). new ≡ each (λ j. get_or (get_or (set block row line₁) row []) j nan) k) e n))
