-- Numbers as the program trial reads them.
use Rattle.std.specs.Prelude.{ℕ, Float, Option, Some, None, suc, ◌+◌, ◌-◌, ◌*◌, ◌^◌, Bool, cond, ◌&&◌, leb, eqb, length, take, drop}
use mathlib.Core.List.{List, [], ◌∷◌, foldl}
use Rattle.std.specs.Float.Ieee.{neg}
use Rattle.hybit_core.specs.Floats.{ratio_of}
use Rattle.lent.specs.Lists.{every}

-- a digit's byte
unfoldable pub digit : ℕ → Bool
digit b = leb 48 b && leb b 57

-- the number that digits are in base ten, the first the highest
unfoldable pub tens : List ℕ → ℕ
tens w = foldl (λ (v : ℕ) (b : ℕ). 10 * v + (b - 48)) 0 w

-- one to fifteen digits
unfoldable pub numeral : List ℕ → Bool
numeral w = leb 1 (length w) && leb (length w) 15 && every digit w

-- a word as a whole number
unfoldable pub whole_of : List ℕ → Option ℕ
whole_of w = cond (numeral w) (Some (tens w)) None

-- the place of the first byte b, or the length
unfoldable pub place_of : ℕ → List ℕ → ℕ
place_of b [] = 0
place_of b (c ∷ w) = cond (eqb c b) 0 (suc (place_of b w))

-- digits a before a point and k digits b behind it, at most fifteen in all: (a × 10^k + b) ÷ 10^k in f64. Both are below 2^53, so the
-- division is the one rounding
unfoldable pub parts : List ℕ → List ℕ → Option Float
parts a b = cond (numeral a && numeral b && leb (length a + length b) 15) (Some (ratio_of (tens a * 10 ^ length b + tens b) (10 ^ length b))) None

-- digits without a point
unfoldable pub alone : List ℕ → Option Float
alone a = cond (numeral a) (Some (ratio_of (tens a) 1)) None

-- the point is byte 46
unfoldable pub unsigned_of : List ℕ → Option Float
unsigned_of w = cond (eqb (place_of 46 w) (length w)) (alone w) (parts (take (place_of 46 w) w) (drop (suc (place_of 46 w)) w))

unfoldable pub negated : Option Float → Option Float
negated (Some v) = Some (neg v)
negated None = None

-- a word as a decimal: a minus sign, byte 45, may stand before it
unfoldable pub real_of : List ℕ → Option Float
real_of [] = None
real_of (c ∷ w) = cond (eqb c 45) (negated (unsigned_of w)) (unsigned_of (c ∷ w))
