-- One tile's products on the way: those of a Sparse or Bitmap tile, whose values stand in the order of its columns, and those of
-- the places of a Dense tile. Assumes nothing.
use mathlib.Core.Bool.{Bool, true}
use mathlib.Core.List.{List, [], ◌∷◌, map, zip, zip_with}
use mathlib.Core.Path.{◌≡◌, refl, sym, ap, ◌∙◌}
use Prim.Native.Nat.{ℕ, zero, suc, min, ◌+◌, ◌-◌, ◌≤◌, ◌<◌, ◌^◌}
use native.Mathlib.Decide.{dec_lt}
use native.Mathlib.Numerals.{add-one}
use native.Mathlib.Omega.{arith}
use lib.Dec.{ltb}
use lib.ListN.{length, get_or, drop}
use lib.Seq.{drop-cons}
use lib.Ieee.{Float, nan, binary64, add, mul}
use borrow.Author.Tests.{ltb-true, lt-ltb, le-ltb}
use Rattle.hybit_core.specs.Floats.{zero64}
use Rattle.lent.specs.Lists.{cons_if, only, every}
use Rattle.lent.proofs.ListLaws.{every-get_or, every_drop}
use Rattle.word.specs.Bits.{from, below, between, members}
use Rattle.word.proofs.BelowLaws.{below-between, between_cons}
use Rattle.word.proofs.LowestLaws.{members-none}
use Rattle.word.proofs.WalkLaws.{some-members, walk_step, walk_length}
use Rattle.csr32.specs.Csr.{Entry, at}
use Rattle.csr32.specs.Sums.{added_to}
use Rattle.abtm_apply.specs.Ready.{columns_inside}

-- columns from base on, with values
abbrev from_base : ℕ → List ℕ → List Float → List Entry
from_base base places vals = zip (map (λ i. base + i) places) vals

-- one entry more
module _ (base k : ℕ) (rest : List ℕ) (vals : List Float) (p : ℕ) (h : p < length vals) where
  entry_first : from_base base (k ∷ rest) (drop p vals) ≡ (base + k, get_or vals p nan) ∷ from_base base rest (drop (p + 1) vals)
  unfolding zip zip_with
  entry_first = rw (add-one, drop-cons vals p nan)

-- ---- a Sparse or Bitmap tile: of the mask's columns those of b are still to be added to s, with the values from place p on

module _ (vals x : List Float) (base mask : ℕ) where
  pub record Compact (b p : ℕ) (s : Float) : Type 0 where
    pub fits : b < 2 ^ 64
    pub inside : columns_inside (length x) base b ≡ true
    pub places : p + length (members b) ≡ length vals
    pub is : added_to s (from_base base (members b) (drop p vals)) x ≡ added_to zero64 (from_base base (members mask) vals) x

  pub compact_none : mask < 2 ^ 64 → length vals ≡ length (members mask) → columns_inside (length x) base mask ≡ true → Compact mask 0 zero64
  compact_none f e i = record { fits = f; inside = i; places = omega arith; is = refl }

  module _ (b p : ℕ) (s : Float) (inv : Compact b p s) where
    module _ (some : b ≡ 0 → ⊥) where
      pub compact_value : p < length vals
      compact_value = omega (arith, inv.places, some-members b inv.fits some)

      module _ (low : ℕ) (l : low ≡ get_or (members b) 0 64) where
        pub compact_column : base + low < length x
        unfolding columns_inside
        compact_column = ltb-true (base + low) (length x) (rw l (every-get_or (λ i. ltb (base + i) (length x)) (members b) 0 64 inv.inside (some-members b inv.fits some)))

        pub compact_more : (r : ℕ) → members r ≡ drop 1 (members b) → r < 2 ^ 64 → Compact r (p + 1) (add binary64 s (mul binary64 (get_or vals p nan) (at x (base + low))))
        unfolding columns_inside added_to
        compact_more r d f = record {
          fits = f;
          inside = ap (every (λ i. ltb (base + i) (length x))) d ∙ every_drop (λ i. ltb (base + i) (length x)) 1 (members b) inv.inside;
          places = omega (arith, inv.places, walk_length b low r inv.fits some l d);
          is =
              sym
              (ap (λ (t : List ℕ). added_to s (from_base base t (drop p vals)) x) (walk_step b low r inv.fits some l d)
              ∙ ap (λ (t : List Entry). added_to s t x) (entry_first base low (members r) vals p compact_value))
              ∙ inv.is;
        }

    pub compact_done : b ≡ 0 → s ≡ added_to zero64 (from_base base (members mask) vals) x
    unfolding added_to zip zip_with
    compact_done z = sym (ap (λ (t : List ℕ). added_to s (from_base base t (drop p vals)) x) (ap members z ∙ members-none)) ∙ inv.is

-- ---- a Dense tile: the places from j on are still to be added to s, as far as they are in range

module _ (vals x : List Float) (base : ℕ) (start : Float) where
  abbrev in_range : List Entry → List Entry
  in_range es = only (λ (e : Entry). ltb e.0 (length x)) es

  pub record Dense (limit j : ℕ) (s : Float) : Type 0 where
    pub inside : j ≤ limit
    pub is : added_to s (in_range (from_base base (between (λ i. true) j 64) (drop j vals))) x ≡ added_to start (in_range (from_base base (below (λ i. true) 64) vals)) x

  pub dense_none : (limit : ℕ) → Dense limit 0 start
  dense_none limit = record { inside = omega arith; is = ap (λ (t : List ℕ). added_to start (in_range (from_base base t vals)) x) (sym (below-between (λ i. true) 64)) }

  -- past the range nothing is added
  none_left : (d j : ℕ) (vs : List Float) → length x ≤ base + j → in_range (from_base base (from (λ i. true) j d) vs) ≡ []
  unfolding from only zip zip_with
  none_left zero j vs h = refl
  none_left (suc d) j [] h = refl
  none_left (suc d) j (v ∷ vs) h =
      ap (λ (t : Bool). cons_if t (base + j, v) (in_range (from_base base (from (λ i. true) (suc j) d) vs))) (le-ltb (base + j) (length x) h)
      ∙ none_left d (suc j) vs (omega arith)

  module _ (limit j : ℕ) (s : Float) (inv : Dense limit j s) (e : limit ≡ min 64 (length x - base)) (h : base ≤ length x) (v : length vals ≡ 64) where
    dense_value : j < limit → j < length vals
    dense_value l = omega arith

    dense_column : j < limit → base + j < length x
    dense_column l = omega arith

    pub dense_more : j < limit → Dense limit (j + 1) (add binary64 s (mul binary64 (get_or vals j nan) (at x (base + j))))
    unfolding added_to only
    dense_more l =
        let t : ℕ → Bool = λ i. true in
        let step : in_range (from_base base (between t j 64) (drop j vals)) ≡ (base + j, get_or vals j nan) ∷ in_range (from_base base (between t (j + 1) 64) (drop (j + 1) vals)) =
        ap (λ (k : List ℕ). in_range (from_base base k (drop j vals))) (between_cons t j 64 (omega arith) ∙ ap (λ (k : ℕ). j ∷ between t k 64) (sym (add-one j)))
        ∙ ap in_range (entry_first base j (between t (j + 1) 64) vals j (dense_value l))
        ∙ ap (λ (b : Bool). cons_if b (base + j, get_or vals j nan) (in_range (from_base base (between t (j + 1) 64) (drop (j + 1) vals)))) (lt-ltb (base + j) (length x) (dense_column l)) in
        record { inside = omega arith; is = sym (ap (λ (k : List Entry). added_to s k x) step) ∙ inv.is }

    rest-none : limit ≤ j → in_range (from_base base (between (λ i. true) j 64) (drop j vals)) ≡ []
    unfolding between from only zip zip_with
    rest-none l = go (dec_lt j 64)
      where
        go : Dec (j < 64) → in_range (from_base base (from (λ i. true) j (64 - j)) (drop j vals)) ≡ []
        go (yes a) = none_left (64 - j) j (drop j vals) (omega arith)
        go (no a) = let z : 64 - j ≡ 0 = omega arith in ap (λ (d : ℕ). in_range (from_base base (from (λ i. true) j d) (drop j vals))) z

    pub dense_done : limit ≤ j → s ≡ added_to start (in_range (from_base base (below (λ i. true) 64) vals)) x
    unfolding added_to
    dense_done l = sym (ap (λ (k : List Entry). added_to s k x) (rest-none l)) ∙ inv.is
