-- Row products side by side: what the private functions that make them require and ensure.
use Rattle.std.specs.Prelude.{ℕ, ◌≤◌, true, ◌≡◌, ltb, length, get_or, Float}
use mathlib.Core.List.{List, foldl, zip}
use Rattle.std.proofs.Math.Seq.{slice}
use Rattle.std.specs.Float.{nan, binary64}
use Rattle.std.specs.Float.Ieee.{add, mul}
use Rattle.lent.specs.Lists.{every}
use Rattle.csr32.specs.Csr.{Entry, at}

-- the entries from place a up to place b of columns and values side by side
unfoldable pub between : List ℕ → List Float → ℕ → ℕ → List Entry
between cs vs a b = zip (slice a b cs) (slice a b vs)

-- s, and value × x of each entry added to it in stored order
unfoldable pub added_to : Float → List Entry → List Float → Float
added_to s es x = foldl (λ (t : Float) (e : Entry). add binary64 t (mul binary64 e.1 (at x e.0))) s es

-- the product of the entry at place p
unfoldable pub product_at : List ℕ → List Float → List Float → ℕ → Float
product_at cs vs x p = mul binary64 (get_or vs p nan) (at x (get_or cs p 0))

-- columns and values side by side, each column with an x
pub record Sides (cs : List ℕ) (vs x : List Float) : Type 0 where
  pub same : length vs ≡ length cs
  pub columns : every (λ c. ltb c (length x)) cs ≡ true

-- a part of n places, from a up to b
pub record Places (n a b : ℕ) : Type 0 where
  pub order : a ≤ b
  pub inside : b ≤ n
