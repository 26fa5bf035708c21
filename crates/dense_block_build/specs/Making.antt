-- The values of a block row in the making: what the private functions require and ensure.
use Rattle.std.specs.Prelude.{ℕ, ◌+◌, ◌*◌, ◌/◌, ◌%◌, ◌≤◌, cond, ◌≡◌, eqb, length, get_or, Float}
use mathlib.Core.List.{List, foldl}
use Rattle.std.specs.Float.{nan, binary64}
use Rattle.std.specs.Float.Ieee.{add}
use Rattle.lent.specs.Lists.{each, only}
use Rattle.lent.specs.Lent.{padded}
use Rattle.csr32.specs.Csr.{Entry, of_column}

-- s, and the entries' values added to it in stored order
unfoldable pub add_values : Float → List Entry → Float
add_values s es = foldl (λ (t : Float) (e : Entry). add binary64 t e.1) s es

-- the first w numbers of a row of a block after entries in it
unfoldable pub in_line : ℕ → List Entry → List Float → List Float
in_line w es old = each (λ j. add_values (get_or old j nan) (only (λ (e : Entry). eqb (e.0 % w) j) es)) w

-- the values of one block after entries in its row i
unfoldable pub in_block : ℕ → ℕ → List Entry → List Float → List Float
in_block w i es old =
    each (λ q. cond (eqb (q / w) i) (add_values (get_or old q nan) (only (λ (e : Entry). eqb (e.0 % w) (q % w)) es)) (get_or old q nan)) (w * w)

-- the values of the blocks in the block columns cs after entries in row i of their block row
unfoldable pub in_row : ℕ → ℕ → List ℕ → List Entry → List Float → List Float
in_row w i cs es old =
    each (λ q. cond (eqb (q % (w * w) / w) i) (add_values (get_or old q nan) (only (of_column (w * get_or cs (q / (w * w)) 0 + q % w)) es)) (get_or old q nan)) (length cs * (w * w))

-- a result in a lent list that is long enough, and zeros past it
pub record Padded {A : Type 0} (z : A) (l out : List A) : Type 0 where
  pub room : length l ≤ length out
  pub is : out ≡ padded z (length out) l
