-- Values of tiles (document 01, "Tiles"): zeros of either sign, what may stand at a present and at an absent place, and merging
-- without stored zeros.
use Rattle.std.specs.Prelude.{Bool, true, false, not, ◌&&◌, List, ℕ, eqb, Float}
use Rattle.std.specs.Float.{nan, inf, fin}
use Rattle.lent.specs.Lists.{only}
use Rattle.csr32.specs.Csr.{Entry, merged}

-- a zero of either sign
abbrev pub is_zero : Float → Bool
is_zero nan = false
is_zero (inf s) = false
is_zero (fin s m e) = eqb m 0

-- at a present place: neither NaN nor zero
abbrev pub solid : Float → Bool
solid nan = false
solid (inf s) = true
solid (fin s m e) = not (eqb m 0)

-- at an absent place: +0.0
abbrev pub plus_zero : Float → Bool
plus_zero nan = false
plus_zero (inf s) = false
plus_zero (fin s m e) = not s && eqb m 0

-- a merged value without the stored zeros
unfoldable pub merged_nonzero : List Entry → ℕ → Float
merged_nonzero es c = merged (only (λ (e : Entry). not (is_zero e.1)) es) c
