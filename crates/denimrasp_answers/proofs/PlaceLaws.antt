-- Laws of the places of a row's part. Assumes nothing.
use mathlib.Core.Path.{◌≡◌}
use mathlib.Core.List.{List}
use Prim.Native.Nat.{ℕ, ◌+◌, ◌≤◌}
use native.Mathlib.Omega.{arith}
use lib.ListN.{length, get_or, get_or-eq_default}
use Rattle.denimrasp_answers.specs.Answers.{places_of}

-- past the last pointer there is no part
pub places-past : (ptr : List ℕ) (r : ℕ) → length ptr ≤ r → (0, 0) ≡ places_of ptr r
unfolding places_of
places-past ptr r h =
    let k : length ptr ≤ r + 1 = omega (arith, h) in
    rw (get_or-eq_default ptr 0 h) (rw (get_or-eq_default ptr 0 k))

pub places_are : (ptr : List ℕ) (r a b : ℕ) → a ≡ get_or ptr r 0 → b ≡ get_or ptr (r + 1) 0 → (a, b) ≡ places_of ptr r
unfolding places_of
places_are ptr r a b h k = rw h (rw k)
