-- The columns of a tile, walked from the lowest on: where the value of each stands, what is appended and what is tested. Assumes
-- nothing.
use mathlib.Core.Bool.{Bool, true, false, cond}
use mathlib.Core.List.{List, [], ◌∷◌, ◌++◌, map, map-append, append_assoc, append-nil}
use mathlib.Core.Path.{◌≡◌, refl, sym, ap, ◌∙◌}
use Prim.Native.Nat.{ℕ, ◌+◌, ◌*◌, ◌%◌, ◌≤◌, ◌<◌, ◌^◌}
use native.Mathlib.Omega.{arith}
use lib.Dec.{ltb}
use lib.ListN.{length, get_or, drop, set, length-append}
use lib.Ieee.{Float, nan}
use borrow.Author.Tests.{ltb-true}
use Rattle.hybit_core.specs.Floats.{finite}
use Rattle.lent.specs.Lists.{every}
use Rattle.lent.specs.Lent.{Appended}
use Rattle.lent.proofs.ListLaws.{every-get_or, every_drop, every_more, every_fails}
use Rattle.word.specs.Bits.{has, count, members}
use Rattle.word.proofs.BelowLaws.{length-below-le}
use Rattle.word.proofs.LowestLaws.{members-none}
use Rattle.word.proofs.OpLaws.{members-count}
use Rattle.word.proofs.WalkLaws.{some-members, lowest_small, walk_step}
use Rattle.abtm.specs.Tiles.{word_in, is_dense}
use Rattle.restricted_abtm.specs.Kept.{place_in, value_in, bits_inside}
use Rattle.restricted_abtm.proofs.RoomLaws.{Fitting, fitting-none, fitting_more, fitting-past}

-- ---- the place of a column among a tile's values

module _ (meta mask i : ℕ) where
  pub place_dense : is_dense meta ≡ true → i ≡ place_in meta mask i
  unfolding place_in
  place_dense d = ap (λ (b : Bool). cond b i (count (has mask) i)) (sym d)

  pub place_packed : (r : ℕ) → is_dense meta ≡ false → r ≡ count (has mask) i → r ≡ place_in meta mask i
  unfolding place_in
  place_packed r d q = q ∙ ap (λ (b : Bool). cond b i (count (has mask) i)) (sym d)

-- ---- the lowest column that is left, and the columns past it

module _ (nv mask offset meta rest : ℕ) (fits : rest < 2 ^ 64) (some : rest ≡ 0 → ⊥) (inside : bits_inside nv rest mask offset meta ≡ true) where
  place_inside : (low p : ℕ) → low ≡ get_or (members rest) 0 64 → p ≡ place_in meta mask low → offset + p < nv
  unfolding bits_inside
  place_inside low p l q =
      let at : ltb (offset + place_in meta mask low) nv ≡ true = rw l (every-get_or (λ i. ltb (offset + place_in meta mask i) nv) (members rest) 0 64 inside (some-members rest fits some)) in
      rw q (ltb-true (offset + place_in meta mask low) nv at)

  rest-inside : (r : ℕ) → members r ≡ drop 1 (members rest) → bits_inside nv r mask offset meta ≡ true
  unfolding bits_inside
  rest-inside r d = ap (every (λ i. ltb (offset + place_in meta mask i) nv)) d ∙ every_drop (λ i. ltb (offset + place_in meta mask i) nv) 1 (members rest) inside

value-at : (vals : List Float) (mask offset meta low p : ℕ) → p ≡ place_in meta mask low → get_or vals (offset + p) nan ≡ value_in vals mask offset meta low
unfolding value_in
value-at vals mask offset meta low p q = ap (λ (j : ℕ). get_or vals (offset + j) nan) q

-- ---- columns and values appended while there is room: of the columns of bits those of rest are left

pub members-few : (w : ℕ) → length (members w) ≤ 64
members-few w = omega (arith, members-count w, length-below-le (has w) 64)

module _ (vals : List Float) (bits mask offset meta from room : ℕ) (old_c : List ℕ) (old_v : List Float) where
  pub record Keeping (rest at : ℕ) (out_c : List ℕ) (out_v : List Float) : Type 0 where
    pub done : List ℕ
    pub split : done ++ members rest ≡ members bits
    pub place : at ≡ from + length done
    pub fits : rest < 2 ^ 64
    pub inside : bits_inside (length vals) rest mask offset meta ≡ true
    pub columns : Fitting room (map (λ i. 64 * word_in meta + i) done) from at old_c out_c
    pub values : Fitting room (map (value_in vals mask offset meta) done) from at old_v out_v

  pub keeping_none : bits < 2 ^ 64 → bits_inside (length vals) bits mask offset meta ≡ true → Keeping bits from old_c old_v
  keeping_none f i = record {
    done = [];
    split = refl;
    place = omega arith;
    fits = f;
    inside = i;
    columns = fitting-none room from old_c;
    values = fitting-none room from old_v;
  }

  module _ (rest at : ℕ) (out_c : List ℕ) (out_v : List Float) (inv : Keeping rest at out_c out_v) where
    pub keeping_few : at ≤ from + 64
    keeping_few = omega (arith, inv.place, ap length inv.split, length-append inv.done (members rest), members-few bits)

    pub keeping_column_room : at < room → room ≤ length old_c → at < length out_c
    keeping_column_room h l = omega (arith, inv.columns.same)

    pub keeping_value_room : at < room → room ≤ length old_v → at < length out_v
    keeping_value_room h l = omega (arith, inv.values.same)

    module _ (some : rest ≡ 0 → ⊥) (low : ℕ) (l : low ≡ get_or (members rest) 0 64) where
      pub keeping_low : low < 64
      keeping_low = lowest_small rest inv.fits some low l

      pub keeping_place : (p : ℕ) → p ≡ place_in meta mask low → offset + p < length vals
      keeping_place p q = place_inside (length vals) mask offset meta rest inv.fits some inv.inside low p l q

      module _ (r : ℕ) (d : members r ≡ drop 1 (members rest)) (f : r < 2 ^ 64) where
        abbrev past : List ℕ
        past = inv.done ++ (low ∷ [])

        step : (last_c : List ℕ) (last_v : List Float) → Fitting room (map (λ i. 64 * word_in meta + i) past) from (at + 1) old_c last_c → Fitting room (map (value_in vals mask offset meta) past) from (at + 1) old_v last_v → Keeping r (at + 1) last_c last_v
        step last_c last_v c v = record {
          done = past;
          split = append_assoc inv.done (low ∷ []) (members r) ∙ ap (λ (t : List ℕ). inv.done ++ t) (sym (walk_step rest low r inv.fits some l d)) ∙ inv.split;
          place = omega (arith, inv.place, length-append inv.done (low ∷ []));
          fits = f;
          inside = rest-inside (length vals) mask offset meta rest inv.fits some inv.inside r d;
          columns = c;
          values = v;
        }

        one_more : {A : Type 0} (g : ℕ → A) (v : A) → v ≡ g low → map g inv.done ++ (v ∷ []) ≡ map g past
        one_more {A} g v e = ap (λ (x : A). map g inv.done ++ (x ∷ [])) e ∙ sym (map-append g inv.done (low ∷ []))

        pub keeping_past : room ≤ at → Keeping r (at + 1) out_c out_v
        keeping_past h = step out_c out_v (fitting-past room _ from at old_c out_c inv.columns _ h) (fitting-past room _ from at old_v out_v inv.values _ h)

        pub keeping_more : (b u p : ℕ) → at < room → room ≤ length old_c → room ≤ length old_v → b ≡ 64 * word_in meta → 64 * word_in meta ≤ 2 ^ 20 → u ≡ (b + low) % 2 ^ 32 → p ≡ place_in meta mask low
            → Keeping r (at + 1) (set out_c at u) (set out_v at (get_or vals (offset + p) nan))
        keeping_more b u p h hc hv eb small eu q =
            let column : u ≡ 64 * word_in meta + low = omega (arith, keeping_low) in
            let value : get_or vals (offset + p) nan ≡ value_in vals mask offset meta low = value-at vals mask offset meta low p q in
            step (set out_c at u) (set out_v at (get_or vals (offset + p) nan))
            (rw (← one_more (λ i. 64 * word_in meta + i) u column) (fitting_more room (map (λ i. 64 * word_in meta + i) inv.done) from at old_c out_c inv.columns u h hc))
            (rw (← one_more (value_in vals mask offset meta) (get_or vals (offset + p) nan) value) (fitting_more room (map (value_in vals mask offset meta) inv.done) from at old_v out_v inv.values (get_or vals (offset + p) nan) h hv))

    module _ (z : rest ≡ 0) where
      all_done : inv.done ≡ members bits
      all_done = sym (append-nil inv.done) ∙ ap (λ (t : List ℕ). inv.done ++ t) (sym (ap members z ∙ members-none)) ∙ inv.split

      pub kept_next : at ≡ from + length (members bits)
      kept_next = inv.place ∙ ap (λ (t : List ℕ). from + length t) all_done

      pub kept_columns : at ≤ room → Appended (map (λ i. 64 * word_in meta + i) (members bits)) from at old_c out_c
      kept_columns l = rw (← all_done) (inv.columns.written l)

      pub kept_values : at ≤ room → Appended (map (value_in vals mask offset meta) (members bits)) from at old_v out_v
      kept_values l = rw (← all_done) (inv.values.written l)

-- ---- values tested: those of rest decide

module _ (vals : List Float) (bits mask offset meta : ℕ) where
  abbrev good : ℕ → Bool
  good i = finite (value_in vals mask offset meta i)

  pub record Testing (rest : ℕ) : Type 0 where
    pub fits : rest < 2 ^ 64
    pub inside : bits_inside (length vals) rest mask offset meta ≡ true
    pub is : every good (members bits) ≡ every good (members rest)

  pub testing_none : bits < 2 ^ 64 → bits_inside (length vals) bits mask offset meta ≡ true → Testing bits
  testing_none f i = record { fits = f; inside = i; is = refl }

  module _ (rest : ℕ) (inv : Testing rest) where
    module _ (some : rest ≡ 0 → ⊥) (low : ℕ) (l : low ≡ get_or (members rest) 0 64) (p : ℕ) (q : p ≡ place_in meta mask low) where
      pub testing_place : offset + p < length vals
      testing_place = place_inside (length vals) mask offset meta rest inv.fits some inv.inside low p l q

      tested : (b : Bool) → b ≡ finite (get_or vals (offset + p) nan) → b ≡ good (get_or (members rest) 0 64)
      tested b e = e ∙ ap finite (value-at vals mask offset meta low p q) ∙ ap good l

      pub testing_fails : false ≡ finite (get_or vals (offset + p) nan) → false ≡ every good (members bits)
      testing_fails e = every_fails good (members rest) 0 refl 64 (some-members rest inv.fits some) (tested false e) ∙ sym inv.is

      pub testing_more : (r : ℕ) → true ≡ finite (get_or vals (offset + p) nan) → members r ≡ drop 1 (members rest) → r < 2 ^ 64 → Testing r
      testing_more r e d f = record {
        fits = f;
        inside = rest-inside (length vals) mask offset meta rest inv.fits some inv.inside r d;
        is = inv.is ∙ every_more good (members rest) 0 refl 64 (some-members rest inv.fits some) (tested true e) ∙ sym (ap (every good) d);
      }

    pub testing_done : rest ≡ 0 → true ≡ every good (members bits)
    unfolding every
    testing_done z = sym (inv.is ∙ ap (every good) (ap members z ∙ members-none))
