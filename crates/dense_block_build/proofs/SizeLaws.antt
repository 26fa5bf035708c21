-- The width of a block, 3 or 6: its bounds, and the places of a block's numbers. Assumes nothing.
use mathlib.Core.Path.{◌≡◌, sym, ap, ◌∙◌}
use Prim.Native.Nat.{ℕ, ◌+◌, ◌*◌, ◌%◌, ◌^◌, ◌≤◌, ◌<◌}
use mir.Syntax.{w64}
use mir.Val.{Fits}
use native.Mathlib.Omega.{arith}
use Rattle.dense_block.specs.Blocks.{width_of}
use Rattle.dense_block.specs.declared.DenseBlockSize.{DenseBlockSize}
use Rattle.dense_block.specs.declared.DenseBlockSize.TheVariants.{B3, B6}
use Rattle.dense_block.proofs.WidthLaws.{width_six}

pub width_pos : (s : DenseBlockSize) → 0 < width_of s
width_pos B3 = omega arith
width_pos B6 = omega arith

pub place_small : (s : DenseBlockSize) (c r : ℕ) → r ≡ c % width_of s → r < 6
place_small B3 c r e = omega arith
place_small B6 c r e = omega arith

-- what copying a block in or out asks, of a width as the code holds it
pub block_fits : (s : DenseBlockSize) (w n : ℕ) → w ≡ width_of s → n ≡ width_of s * width_of s → (w ≤ 6) × (n ≡ w * w)
block_fits s w n e l = (omega (arith, width_six s), l ∙ ap (λ (k : ℕ). k * k) (sym e))

-- the numbers of a block, of a width as the code holds it
pub square_is : (s : DenseBlockSize) (w : ℕ) → w ≡ width_of s → w * w ≡ width_of s * width_of s
square_is s w e = ap (λ (k : ℕ). k * k) e

pub square_pos : (s : DenseBlockSize) (w : ℕ) → w ≡ width_of s → 0 < w * w
square_pos s w e = rw (square_is s w e) (positive s)
  where
    positive : (s : DenseBlockSize) → 0 < width_of s * width_of s
    positive B3 = omega arith
    positive B6 = omega arith

pub square_small : (s : DenseBlockSize) (w : ℕ) → w ≡ width_of s → w * w ≤ 36
square_small s w e = rw (square_is s w e) (small s)
  where
    small : (s : DenseBlockSize) → width_of s * width_of s ≤ 36
    small B3 = omega arith
    small B6 = omega arith

-- the next number, below the length of a list
pub next_fits : (r n : ℕ) → r + 1 < n → n < 2 ^ 64 → Fits w64 (r + 1)
next_fits r n h l = record { fits = omega arith }
