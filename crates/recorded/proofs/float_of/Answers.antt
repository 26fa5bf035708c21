-- `recorded::float_of` meets its contract: a pattern that it makes a float of is no NaN's. Assumes nothing.
use Rattle.std.proofs.Common.{◌≡◌, ℕ, ◌/◌, ◌%◌, Bool, true, false, not, ◌&&◌, T, eqb, sym, true≢false, eq-eqb, ne_eqb}
use lib.Ieee.{binary64, nan_bits, hid, top, ones}
use Rattle.recorded.proofs.float_of.Goals as goal

no-digits : (b : ℕ) → b % 4503599627370496 ≡ 0 → T (not (nan_bits binary64 b))
unfolding nan_bits
no-digits b h = go (eqb (b % top binary64 / hid binary64) (ones binary64)) (eqb (b % hid binary64) 0) (eq-eqb (b % 4503599627370496) 0 h)
  where
    go : (x y : Bool) → y ≡ true → T (not (x && not y))
    go true true e = tt
    go true false e = absurd (true≢false (sym e))
    go false y e = tt

another-field : (b : ℕ) → (b % 9223372036854775808 / 4503599627370496 ≡ 2047 → ⊥) → T (not (nan_bits binary64 b))
unfolding nan_bits
another-field b h = go (eqb (b % top binary64 / hid binary64) (ones binary64)) (eqb (b % hid binary64) 0) (ne_eqb (b % 9223372036854775808 / 4503599627370496) 2047 h)
  where
    go : (x y : Bool) → x ≡ false → T (not (x && not y))
    go true y e = absurd (true≢false e)
    go false y e = tt

pub float_from_bits-result : goal.float_from_bits-result
float_from_bits-result c = no-digits _ c.if-bits-eq0.true

pub float_from_bits-result-2 : goal.float_from_bits-result-2
float_from_bits-result-2 c = another-field _ c.if-bits-eq2047.false
