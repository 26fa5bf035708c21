-- The rules of blocks at each return of the code that tests them. Assumes nothing.
use mathlib.Core.Bool.{Bool, true, false, not, ◌&&◌}
use mathlib.Core.List.{List}
use mathlib.Core.Path.{◌≡◌, sym, ap, ap₂, ◌∙◌}
use Prim.Native.Nat.{ℕ, ◌*◌, ◌%◌, ◌^◌, ◌≤◌, ◌<◌}
use native.Mathlib.Nat.{mul-le-mul_right, mod-eq_of_lt}
use native.Mathlib.Omega.{arith}
use lib.Dec.{eqb, ltb}
use lib.ListN.{length}
use borrow.Author.Tests.{leb-true, not-false}
use Rattle.hybit_core.specs.Answer.{accepted, demand}
use Rattle.hybit_core.specs.Domain.{few, many, sizes_fit}
use Rattle.hybit_core.proofs.BoolLaws.{and_left, and_right, is_equal, is_unequal}
use Rattle.hybit_core.proofs.AnswerLaws.{demand_accepted, then_second}
use Rattle.lent.specs.Lists.{every}
use Rattle.csr32.specs.Csr.{framed}
use Rattle.dense_block.specs.Blocks.{Blocks, width_of, blocks_for, block_sizes, rows_climb, blocks_rules, blocks_answer}
use Rattle.dense_block.specs.declared.DenseBlockSize.{DenseBlockSize}
use Rattle.dense_block.specs.declared.DenseBlockSize.TheVariants.{B3, B6}

-- a list whose size passed
pub sizes_few : (a b c d : ℕ) (r : Bool) → r ≡ sizes_fit a b c d → not r ≡ false → c ≤ 2 ^ 24
unfolding sizes_fit
sizes_few a b c d r e h =
    leb-true c (2 ^ 24)
    (and_right (few a && few b) (many c) (and_left (few a && few b && many c) (many d) (sym e ∙ not-false r h)))

-- a column count that passed
pub columns_few : (a b c d : ℕ) (r : Bool) → r ≡ sizes_fit a b c d → not r ≡ false → b ≤ 2 ^ 20
unfolding sizes_fit
columns_few a b c d r e h =
    leb-true b (2 ^ 20)
    (and_right (few a) (few b) (and_left (few a && few b) (many c) (and_left (few a && few b && many c) (many d) (sym e ∙ not-false r h))))

-- so many block columns can be told in 32 bits
pub limit_told : (s : DenseBlockSize) (n g m : ℕ) → n ≤ 2 ^ 20 → g ≡ blocks_for (width_of s) n → m ≡ g % 2 ^ 32 → m ≡ blocks_for (width_of s) n
limit_told s n g m h e q = q ∙ mod-eq_of_lt (small s e) ∙ e
  where
    small : (s : DenseBlockSize) → g ≡ blocks_for (width_of s) n → g < 2 ^ 32
    small B3 e = omega arith
    small B6 e = omega arith

-- the values of so many blocks can be counted
pub square_small : (w : ℕ) → w ≤ 6 → w * w ≤ 36
square_small w l = omega (arith, mul-le-mul_right w l)

pub slots_fit : (n w : ℕ) → n ≤ 2 ^ 24 → w ≤ 6 → n * (w * w) ≤ 2 ^ 24 * 36
slots_fit n w h l = omega (arith, mul-le-mul_right (w * w) h, square_small w l)

-- ---- the code's flags, of the numbers that it has for the width and the block rows and columns

pub pointers_told : (h k n : ℕ) (ps : List ℕ) (t : Bool) → h ≡ k → t ≡ framed h ps n → t ≡ framed k ps n
pointers_told h k n ps t e q = q ∙ ap (λ (j : ℕ). framed j ps n) e

pub values_wrong : (w k n l : ℕ) → w ≡ k → (l ≡ n * (w * w) → ⊥) → false ≡ eqb l (n * (k * k))
values_wrong w k n l e h = is_unequal l (n * (k * k)) (λ q. h (q ∙ ap (λ (j : ℕ). n * (j * j)) (sym e)))

pub values_right : (w k n l : ℕ) → w ≡ k → l ≡ n * (w * w) → true ≡ eqb l (n * (k * k))
values_right w k n l e h = is_equal l (n * (k * k)) (h ∙ ap (λ (j : ℕ). n * (j * j)) e)

-- ---- pointers, values, block columns, rows

module _ (b : Blocks) where
  abbrev pub pointers_hold : Bool
  pointers_hold = framed (blocks_for b.width b.rows) b.ptr (length b.col)

  abbrev pub values_hold : Bool
  values_hold = eqb (length b.vals) (length b.col * (b.width * b.width))

  abbrev pub columns_hold : Bool
  columns_hold = every (λ C. ltb C (blocks_for b.width b.cols)) b.col

  pub rules_unframed : false ≡ pointers_hold → false ≡ blocks_rules b
  unfolding blocks_rules
  rules_unframed e = ap (λ (f : Bool). f && values_hold && columns_hold && rows_climb b) e

  module _ (f : true ≡ pointers_hold) where
    pub rules_values : false ≡ values_hold → false ≡ blocks_rules b
    unfolding blocks_rules
    rules_values e = ap₂ (λ (p v : Bool). p && v && columns_hold && rows_climb b) f e

    module _ (v : true ≡ values_hold) where
      pub rules_rows : (r : Bool) → r ≡ (columns_hold && rows_climb b) → r ≡ blocks_rules b
      unfolding blocks_rules
      rules_rows r q = q ∙ ap₂ (λ (p v : Bool). p && v && columns_hold && rows_climb b) f v

-- what accepted blocks are
pub accepted_frame : (b : Blocks) → blocks_answer b ≡ accepted → framed (blocks_for b.width b.rows) b.ptr (length b.col) ≡ true
unfolding blocks_answer blocks_rules
accepted_frame b e =
    let rules : blocks_rules b ≡ true = demand_accepted (blocks_rules b) 12 (then_second (demand (block_sizes b) 1) (demand (blocks_rules b) 12) e) in
    and_left (pointers_hold b) (values_hold b) (and_left (pointers_hold b && values_hold b) (columns_hold b) (and_left (pointers_hold b && values_hold b && columns_hold b) (rows_climb b) rules))
