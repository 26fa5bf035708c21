-- A loop that walks the members of a word from the lowest on and writes f of each to a lent list. Assumes nothing.
use mathlib.Core.List.{List, [], ◌∷◌, ◌++◌, map, append_assoc, append-nil}
use mathlib.Core.Path.{◌≡◌, refl, sym, ap, ◌∙◌}
use Prim.Native.Nat.{ℕ, suc, ◌+◌, ◌-◌, ◌≤◌, ◌<◌, ◌^◌}
use native.Mathlib.Numerals.{add-one}
use native.Mathlib.Omega.{arith}
use lib.Bits.{bit_and}
use lib.Count.{count_trailing_zeros}
use lib.ListN.{length, get_or, take, drop, set, length-map, length-set, length-drop}
use lib.Seq.{take-suc-set}
use Rattle.lent.specs.Lent.{Appended}
use Rattle.word.specs.Bits.{members}
use Rattle.word.proofs.LowestLaws.{members_walk, members-none, lowest_lt}

-- a word that is not 0 has a member, and its lowest is below 64
module _ (b : ℕ) (h : b < 2 ^ 64) (some : b ≡ 0 → ⊥) where
  walk_of : members b ≡ count_trailing_zeros 64 b ∷ members (bit_and b (b - 1))
  walk_of = members_walk b (omega arith) h

  pub some-members : 0 < length (members b)
  some-members = omega (arith, ap length walk_of)

  pub lowest_small : (low : ℕ) → low ≡ get_or (members b) 0 64 → low < 64
  lowest_small low l = omega (arith, l ∙ ap (λ (s : List ℕ). get_or s 0 64) walk_of, lowest_lt 64 64 b (omega arith) h)

  pub walk_less : (r : ℕ) → members r ≡ drop 1 (members b) → length (members r) < length (members b)
  walk_less r e = omega (arith, some-members, ap length e, length-drop 1 (members b))

-- b with its lowest member `low`, and r without it
module _ (b low r : ℕ) (h : b < 2 ^ 64) (some : b ≡ 0 → ⊥) (l : low ≡ get_or (members b) 0 64) (e : members r ≡ drop 1 (members b)) where
  pub walk_step : members b ≡ low ∷ members r
  walk_step =
      let w : members b ≡ count_trailing_zeros 64 b ∷ members (bit_and b (b - 1)) = walk_of b h some in
      let t : low ≡ count_trailing_zeros 64 b = l ∙ ap (λ (s : List ℕ). get_or s 0 64) w in
      let d : members r ≡ members (bit_and b (b - 1)) = e ∙ ap (drop 1) w in
      w ∙ sym (λ i. t i ∷ d i)

  pub walk_length : length (members b) ≡ suc (length (members r))
  walk_length = ap length walk_step

-- of the members of w, those of b are still to be written, at place `at` of out
pub record Walking {A : Type 0} (f : ℕ → A) (w from : ℕ) (old : List A) (b at : ℕ) (out : List A) : Type 0 where
  pub fits : b < 2 ^ 64
  pub same : length out ≡ length old
  pub places : at + length (members b) ≡ from + length (members w)
  pub list : take at out ++ map f (members b) ≡ take from old ++ map f (members w)

module _ {A : Type 0} (f : ℕ → A) (w from : ℕ) (old : List A) where
  pub walking_start : w < 2 ^ 64 → Walking f w from old w from old
  walking_start h = record { fits = h; same = refl; places = refl; list = refl }

  module _ (b at : ℕ) (out : List A) (inv : Walking f w from old b at out) where
    pub walking_room : (b ≡ 0 → ⊥) → from + length (members w) ≤ length old → at < length out
    walking_room some room = omega (arith, inv.places, inv.same, some-members b inv.fits some)

    pub walking_more : (low r : ℕ) (v : A) → (b ≡ 0 → ⊥) → from + length (members w) ≤ length old → low ≡ get_or (members b) 0 64 → members r ≡ drop 1 (members b) → v ≡ f low → r < 2 ^ 64
        → Walking f w from old r (at + 1) (set out at v)
    walking_more low r v some room l e q h = record {
      fits = h;
      same = length-set out at v ∙ inv.same;
      places = omega (arith, inv.places, walk_length b low r inv.fits some l e);
      list =
          ap (λ (s : List A). s ++ map f (members r))
          (ap (λ (n : ℕ). take n (set out at v)) (add-one at) ∙ take-suc-set out at v (walking_room some room) ∙ ap (λ (x : A). take at out ++ x ∷ []) q)
          ∙ append_assoc (take at out) (f low ∷ []) (map f (members r))
          ∙ ap (λ (s : List ℕ). take at out ++ map f s) (sym (walk_step b low r inv.fits some l e))
          ∙ inv.list;
    }

    pub walking_done : b ≡ 0 → Appended (map f (members w)) from at old out
    walking_done z =
        let none : members b ≡ [] = ap members z ∙ members-none in
        record {
          next = omega (arith, inv.places, ap length none, length-map (members w) f);
          list = sym (append-nil (take at out)) ∙ ap (λ (l : List ℕ). take at out ++ map f l) (sym none) ∙ inv.list;
        }
