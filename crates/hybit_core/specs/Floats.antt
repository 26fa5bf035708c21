-- Floats of binary64: 0.0, finiteness, counts as floats and their ratio.
use Rattle.std.specs.Prelude.{ℕ, Bool, true, false, cond, pos, ◌==◌, from_bits, Float}
use Rattle.std.specs.Float.{nan, inf, fin, binary64}
use Rattle.std.specs.Float.Ieee.{div, of_int}

-- 0.0
abbrev pub zero64 : Float
zero64 = from_bits binary64 0

-- neither NaN nor infinite
abbrev pub finite : Float → Bool
finite nan = false
finite (inf s) = false
finite (fin s m e) = true

-- a count as f64: rounded to nearest even where it is above 2^53
unfoldable pub count_as_float : ℕ → Float
count_as_float n = of_int binary64 (pos n)

-- the ratio of two counts: one division, 0.0 where there is nothing to divide by
unfoldable pub ratio_of : ℕ → ℕ → Float
ratio_of part whole = cond (whole == 0) zero64 (div binary64 (count_as_float part) (count_as_float whole))
