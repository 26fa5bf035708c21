-- A row's dot in the making: what the private functions that walk its words require and ensure.
use Rattle.std.specs.Prelude.{ℕ, ◌+◌, ◌≤◌, ◌^◌, Bool, true, ◌&&◌, ◌≡◌, ltb, length, get_or, Float}
use mathlib.Core.List.{List, foldl}
use Rattle.std.specs.Float.{nan, binary64}
use Rattle.std.specs.Float.Ieee.{add, mul}
use Rattle.hybit_core.specs.Answer.{accepted}
use Rattle.lent.specs.Lists.{every}
use Rattle.word.specs.Bits.{has, count, members}
use Rattle.mask.specs.Mask.{as_mask, active, mask_answer}
use Rattle.csr32.specs.Csr.{at}
use Rattle.topology.specs.Words.{row_member, row_rule}
use Rattle.metadata_first.specs.declared.AbtmRowDot.{AbtmRowDot}
use Rattle.metadata_first.specs.Dot.{dot_of}

-- one word: m its mask, b the bits of it that are multiplied, its first value at `place`, its first column `base`
unfoldable pub word_sum : List Float → List Float → ℕ → ℕ → ℕ → ℕ → Float → Float
word_sum vals x m b place base start =
    foldl (λ (s : Float) (i : ℕ). add binary64 s (mul binary64 (get_or vals (place + count (has m) i) nan) (at x (base + i)))) start (members b)

-- its products read inside lists of so many values and so many columns
unfoldable pub word_inside : ℕ → ℕ → ℕ → ℕ → ℕ → ℕ → Bool
word_inside values columns m b place base = every (λ i. ltb (place + count (has m) i) values && ltb (base + i) columns) (members b)

-- a row of n columns: its words and masks, its values, the words of a mask, a vector
pub record RowReady (n : ℕ) (ws ms : List ℕ) (vals : List Float) (bits : List ℕ) (x : List Float) : Type 0 where
  pub columns_in : n ≤ 2 ^ 20
  pub sides : length ms ≡ length ws
  pub rule : row_rule n ws ms ≡ true
  pub values_are : length vals ≡ count (row_member ws ms) n
  pub mask_valid : mask_answer (as_mask n bits) ≡ accepted
  pub vector_long : length x ≡ n

-- its dot: the value of a column stands at the column's rank
abbrev pub row_dot : ℕ → List ℕ → List ℕ → List Float → List ℕ → List Float → AbtmRowDot
row_dot n ws ms vals bits x = dot_of n (row_member ws ms) (λ c. get_or vals (count (row_member ws ms) c) nan) (active (as_mask n bits)) (at x)
