-- The width of a block: 3 or 6, and division by it. Assumes nothing.
use Prim.Native.Nat.{ℕ, ◌/◌, ◌%◌, ◌≤◌}
use mathlib.Core.Path.{◌≡◌, sym, ap, ◌∙◌}
use native.Mathlib.Omega.{arith}
use Rattle.dense_block.specs.Blocks.{width_of, blocks_for}
use Rattle.dense_block.specs.declared.DenseBlockSize.{DenseBlockSize}
use Rattle.dense_block.specs.declared.DenseBlockSize.TheVariants.{B3, B6}

pub width_six : (s : DenseBlockSize) → width_of s ≤ 6
width_six B3 = omega arith
width_six B6 = omega arith

-- what is said of a variant's width, said of the size that is at it
pub full_at : (s v : DenseBlockSize) (n r : ℕ) → s ≡ v → r ≡ n / width_of v → r ≡ n / width_of s
full_at s v n r e q = q ∙ ap (λ (t : DenseBlockSize). n / width_of t) (sym e)

pub blocks_at : (s v : DenseBlockSize) (n r : ℕ) → s ≡ v → r ≡ blocks_for (width_of v) n → r ≡ blocks_for (width_of s) n
blocks_at s v n r e q = q ∙ ap (λ (t : DenseBlockSize). blocks_for (width_of t) n) (sym e)

-- a column's block column and place
pub key_is : (s : DenseBlockSize) (c n r : ℕ) → n ≡ c → r ≡ n / width_of s → r ≡ c / width_of s
key_is s c n r e q = q ∙ ap (λ (k : ℕ). k / width_of s) e

pub place_is : (s v : DenseBlockSize) (c n : ℕ) → s ≡ v → n ≡ c → n % width_of v ≡ c % width_of s
place_is s v c n e q = ap (λ (k : ℕ). k % width_of v) q ∙ ap (λ (t : DenseBlockSize). c % width_of t) (sym e)
