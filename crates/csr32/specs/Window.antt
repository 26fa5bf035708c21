-- A window of a row: so many columns from `base` on, and a sum for each.
use Rattle.std.specs.Prelude.{ℕ, ◌+◌, ◌-◌, ◌<◌, Bool, false, ◌&&◌, List, ◌≡◌, eqb, leb, ltb, length, get_or, Float}
use Rattle.std.specs.Float.{nan}
use Rattle.hybit_core.specs.Floats.{zero64}
use Rattle.lent.specs.Lists.{some}

-- column c lies in the window
abbrev pub in_window : ℕ → ℕ → ℕ → Bool
in_window base width c = leb base c && ltb (c - base) width

-- the window is 0.0 but at the columns of cs
pub record Outside (cs : List ℕ) (base : ℕ) (sums : List Float) : Type 0 where
  pub zeros : (i : ℕ) → i < length sums → some (λ c. eqb c (base + i)) cs ≡ false → get_or sums i nan ≡ zero64
