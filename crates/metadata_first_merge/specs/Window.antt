-- A window of a row: so many columns from `base` on. What the private functions that sum and test one require and ensure.
use Rattle.std.specs.Prelude.{ℕ, ◌-◌, Bool, not, ◌||◌, length, get_or, Float}
use mathlib.Core.List.{List, zip}
use Rattle.std.specs.Float.{nan}
use Rattle.hybit_core.specs.Floats.{finite}
use Rattle.lent.specs.Lists.{every}
use Rattle.csr32.specs.Csr.{merged}
use Rattle.csr32.specs.Window.{in_window}

-- the sums of the columns in the window are finite
unfoldable pub sums_finite : ℕ → List Float → List ℕ → Bool
sums_finite base sums cs = every (λ c. not (in_window base (length sums) c) || finite (get_or sums (c - base) nan)) cs

-- the merged values of the columns in the window are finite
unfoldable pub window_finite : ℕ → ℕ → List ℕ → List Float → Bool
window_finite base width cs vs = every (λ c. not (in_window base width c) || finite (merged (zip cs vs) c)) cs
