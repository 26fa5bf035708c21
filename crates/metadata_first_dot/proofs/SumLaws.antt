-- One word's products, added bit by bit from the lowest on. Assumes nothing.
use mathlib.Core.Bool.{Bool, true, not, ◌&&◌}
use mathlib.Core.List.{List, foldl}
use mathlib.Core.Path.{◌≡◌, refl, sym, ap, ◌∙◌}
use Prim.Native.Nat.{ℕ, ◌+◌, ◌^◌, ◌<◌}
use lib.Dec.{eqb, ltb}
use mir.Val.{bool_byte}
use lib.ListN.{length, get_or, drop}
use lib.Ieee.{Float, nan, binary64, add, mul}
use borrow.Author.Tests.{ltb-true, eq-eqb, ne_eqb}
use Rattle.hybit_core.proofs.BoolLaws.{and_left, and_right}
use Rattle.lent.specs.Lists.{every}
use Rattle.lent.proofs.ListLaws.{every-get_or, every_drop}
use Rattle.word.specs.Bits.{has, count, members}
use Rattle.word.proofs.LowestLaws.{none, members-none}
use Rattle.word.proofs.WalkLaws.{some-members, walk_step}
use Rattle.csr32.specs.Csr.{at}
use Rattle.metadata_first_dot.specs.Walk.{word_sum, word_inside}

module _ (vals x : List Float) (m place base : ℕ) where
  -- no bits add nothing
  pub no_sum : (b : ℕ) (s : Float) → b ≡ 0 → s ≡ word_sum vals x m b place base s
  unfolding word_sum
  no_sum b s z = sym (ap (λ (k : List ℕ). foldl (λ (t : Float) (i : ℕ). add binary64 t (mul binary64 (get_or vals (place + count (has m) i) nan) (at x (base + i)))) s k) (ap members z ∙ members-none))

  -- of the bits, those of b are still to be added to s
  pub record Adding (bits : ℕ) (start : Float) (b : ℕ) (s : Float) : Type 0 where
    pub fits : b < 2 ^ 64
    pub inside : word_inside (length vals) (length x) m b place base ≡ true
    pub is : word_sum vals x m b place base s ≡ word_sum vals x m bits place base start

  pub adding_none : (bits : ℕ) (start : Float) → bits < 2 ^ 64 → word_inside (length vals) (length x) m bits place base ≡ true → Adding bits start bits start
  adding_none bits start h i = record { fits = h; inside = i; is = refl }

  module _ (bits : ℕ) (start : Float) (b : ℕ) (s : Float) (inv : Adding bits start b s) where
    module _ (some : b ≡ 0 → ⊥) (low : ℕ) (l : low ≡ get_or (members b) 0 64) where
      lowest_in : (ltb (place + count (has m) low) (length vals) && ltb (base + low) (length x)) ≡ true
      unfolding word_inside
      lowest_in = rw l (every-get_or (λ i. ltb (place + count (has m) i) (length vals) && ltb (base + i) (length x)) (members b) 0 64 inv.inside (some-members b inv.fits some))

      pub adding_value : (o : ℕ) → o ≡ count (has m) low → place + o < length vals
      adding_value o e = rw e (ltb-true (place + count (has m) low) (length vals) (and_left (ltb (place + count (has m) low) (length vals)) (ltb (base + low) (length x)) lowest_in))

      pub adding_column : base + low < length x
      adding_column = ltb-true (base + low) (length x) (and_right (ltb (place + count (has m) low) (length vals)) (ltb (base + low) (length x)) lowest_in)

      module _ (r : ℕ) (d : members r ≡ drop 1 (members b)) where
        rest_in : word_inside (length vals) (length x) m r place base ≡ true
        unfolding word_inside
        rest_in = let t : ℕ → Bool = λ i. ltb (place + count (has m) i) (length vals) && ltb (base + i) (length x) in ap (every t) d ∙ every_drop t 1 (members b) inv.inside

        rest_is : (o : ℕ) → o ≡ count (has m) low → word_sum vals x m r place base (add binary64 s (mul binary64 (get_or vals (place + o) nan) (at x (base + low)))) ≡ word_sum vals x m bits place base start
        unfolding word_sum
        rest_is o e =
            let f : Float → ℕ → Float = λ (t : Float) (i : ℕ). add binary64 t (mul binary64 (get_or vals (place + count (has m) i) nan) (at x (base + i))) in
            ap (λ (k : ℕ). foldl f (add binary64 s (mul binary64 (get_or vals (place + k) nan) (at x (base + low)))) (members r)) e
            ∙ sym (ap (foldl f s) (walk_step b low r inv.fits some l d)) ∙ inv.is

        -- the value stands at the rank among the present bits
        pub adding_more : (o : ℕ) → o ≡ count (has m) low → r < 2 ^ 64 → Adding bits start r (add binary64 s (mul binary64 (get_or vals (place + o) nan) (at x (base + low))))
        adding_more o e f = record { fits = f; inside = rest_in; is = rest_is o e }

    pub adding_done : b ≡ 0 → s ≡ word_sum vals x m bits place base start
    adding_done z = no_sum b s z ∙ inv.is

-- ---- what a word counts for

pub no_products : (b : ℕ) → b ≡ 0 → 0 ≡ count (has b) 64
no_products b z = sym (ap (λ (k : ℕ). count (has k) 64) z ∙ ap length (none 64))

pub no_word : (b : ℕ) → b ≡ 0 → 0 ≡ bool_byte (not (eqb b 0))
no_word b z = sym (ap (λ (t : Bool). bool_byte (not t)) (eq-eqb b 0 z))

pub one_word : (b : ℕ) → (b ≡ 0 → ⊥) → 1 ≡ bool_byte (not (eqb b 0))
one_word b h = sym (ap (λ (t : Bool). bool_byte (not t)) (ne_eqb b 0 h))
