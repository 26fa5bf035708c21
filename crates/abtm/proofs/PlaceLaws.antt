-- The places of a tile; offsets that follow one another. Assumes nothing.
use mathlib.Core.Bool.{Bool, true, false, cond}
use mathlib.Core.List.{List, [], ◌∷◌, map}
use mathlib.Core.Path.{◌≡◌, refl, ap}
use Prim.Native.Nat.{ℕ, suc, ◌+◌, ◌≤◌, ◌<◌}
use native.Mathlib.Omega.{arith}
use lib.Dec.{eqb, leb}
use lib.ListN.{length}
use Rattle.word.specs.Bits.{has, below, members}
use Rattle.word.proofs.BelowLaws.{length-below-le, map_below}
use Rattle.abtm.specs.declared.AbtmConfig.{AbtmConfig}
use Rattle.abtm.specs.Tiles.{kind_in, places_of, places, kind_of, laid}

-- ---- the places of a tile

pub map-places : {A : Type 0} (f g : ℕ → A) (kind mask : ℕ) → ((i : ℕ) → i < 64 → f i ≡ g i) → map f (places_of kind mask) ≡ map g (places_of kind mask)
unfolding places_of members
map-places f g kind mask h = go (eqb kind 2)
  where
    go : (t : Bool) → map f (cond t (below (λ i. true) 64) (below (has mask) 64)) ≡ map g (cond t (below (λ i. true) 64) (below (has mask) 64))
    go true = map_below f g (λ i. true) 64 (λ i l k. h i l)
    go false = map_below f g (has mask) 64 (λ i l k. h i l)

pub places-few : (kind mask : ℕ) → length (places_of kind mask) ≤ 64
unfolding places_of members
places-few kind mask = go (eqb kind 2)
  where
    go : (t : Bool) → length (cond t (below (λ i. true) 64) (below (has mask) 64)) ≤ 64
    go true = length-below-le (λ i. true) 64
    go false = length-below-le (has mask) 64

-- n is how many values a tile takes, as a callee gives it
pub slots_small : (mask meta n : ℕ) → n ≡ length (places mask meta) → n ≤ 64
slots_small mask meta n e = omega (arith, e, places-few (kind_in meta) mask)

-- a build gives no kind 3
pub kind_small : (h : AbtmConfig) (n : ℕ) → kind_of h n ≤ 2
unfolding kind_of
kind_small h n = go (leb n h.sparse_max_nnz) (leb h.dense_min_nnz n)
  where
    go : (s t : Bool) → cond s 0 (cond t 2 1) ≤ 2
    go true t = omega arith
    go false true = omega arith
    go false false = omega arith

-- ---- offsets

pub laid_long : (k : ℕ) (ns : List ℕ) → length (laid k ns) ≡ length ns
unfolding laid
laid_long k [] = refl
laid_long k (n ∷ ns) = ap suc (laid_long (k + n) ns)
