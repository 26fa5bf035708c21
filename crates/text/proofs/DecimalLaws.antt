-- Laws of decimals as text: what the parts of a word make. Assumes nothing.
use Rattle.std.specs.Prelude.{Option, Some, None}
use Prim.Native.Nat.{ℕ, suc, ◌+◌, ◌-◌, ◌*◌, ◌^◌, ◌≤◌, ◌<◌}
use mathlib.Core.Bool.{true, false, ◌&&◌, and-true, false≢true}
use mathlib.Core.List.{List, [], ◌∷◌}
use mathlib.Core.Path.{◌≡◌, refl, sym, ◌∙◌}
use native.Mathlib.Nat.{suc-mul, mul-le-mul_right}
use native.Mathlib.Numerals.{add-one}
use native.Mathlib.Omega.{arith}
use lib.Ieee.{Float}
use lib.Pow.{pow-add}
use lib.ListN.{length, get_or, take, drop, length-drop}
use lib.Seq.{take_all}
use borrow.Author.Tests.{le-leb, lt-leb, eq-eqb, ne_eqb}
use Rattle.hybit_core.specs.Floats.{ratio_of}
use Rattle.text.specs.Numbers.{numeral, whole_of, place_of, parts, alone, unsigned_of, negated, real_of}
use Rattle.text.proofs.NumberLaws.{power_most, whole_is, whole-not, whole-small, and_last, place_most, place_found, place_missing}
use Rattle.std.specs.List.{position}
use lib.Dec.{eqb}
use lib.Pointwise.{pointwise}
use Rattle.hybit_core.proofs.BoolLaws.{and_left}

-- ---- digits without a point

pub alone_bad : (w : List ℕ) (r : (Option ℕ)) → r ≡ whole_of w → r ≡ None → None ≡ alone w
unfolding alone
alone_bad w r e q = rw (whole-not w r e q)

pub alone-good : (w : List ℕ) (r : (Option ℕ)) (v : ℕ) (f : Float) → r ≡ whole_of w → r ≡ Some v → f ≡ ratio_of v 1 → Some f ≡ alone w
unfolding alone
alone-good w r v f e q h = let k = whole_is w r v e q in rw (k.0, k.1, h)

-- ---- digits a before a point, and digits b behind it

module _ (a b : List ℕ) where
  pub parts_before : (r : (Option ℕ)) → r ≡ whole_of a → r ≡ None → None ≡ parts a b
  unfolding parts
  parts_before r e q = rw (whole-not a r e q)

  pub parts_behind : (r : (Option ℕ)) → r ≡ whole_of b → r ≡ None → None ≡ parts a b
  unfolding parts
  parts_behind r e q = rw (whole-not b r e q, and_last (numeral a) false refl)

  pub parts_long : 15 < length a + length b → None ≡ parts a b
  unfolding parts
  parts_long h = rw (lt-leb (length a + length b) 15 h, and_last (numeral a && numeral b) false refl)

  module _ (r s : (Option ℕ)) (x y p : ℕ) (e : r ≡ whole_of a) (f : r ≡ Some x) (g : s ≡ whole_of b) (h : s ≡ Some y) (l : length a + length b ≤ 15) (q : p ≡ 10 ^ length b) where
    pub parts-small : x * p + y < 10 ^ 15
    parts-small =
        let j = whole_is a r x e f in
        let k = whole_is b s y g h in
        let front : suc x * p ≤ 10 ^ length a * p = mul-le-mul_right p (rw j.1 at (whole-small a j.0)) in
        let all : 10 ^ length a * p ≡ 10 ^ (length a + length b) = rw (q, pow-add 10 (length a) (length b)) in
        omega (arith, power_most (length a + length b) 15 l, suc-mul x p, whole-small b k.0, k.1)

    pub parts-good : (v : Float) → v ≡ ratio_of (x * p + y) p → Some v ≡ parts a b
    unfolding parts
    parts-good v u =
        let j = whole_is a r x e f in
        let k = whole_is b s y g h in
        rw (j.0, j.1, k.0, k.1, le-leb (length a + length b) 15 l, u, q)

-- ---- a word, with a point at place p or without

-- what lies behind place k, as it is lent
lent_rest : (w : List ℕ) (k : ℕ) → take (length w - k) (drop k w) ≡ drop k w
lent_rest w k = take_all (length w - k) (drop k w) (simp length-drop (omega arith))

pub point_inside : (p : ℕ) (w : List ℕ) → p ≡ place_of 46 w → (p ≡ length w → ⊥) → p < length w
point_inside p w e n = omega (arith, place_most 46 w)

-- by the place of the point
pub unsigned_alone_at : (p : ℕ) (w : List ℕ) (r : Option Float) → p ≡ place_of 46 w → p ≡ length w → r ≡ alone w → r ≡ unsigned_of w
unfolding unsigned_of
unsigned_alone_at p w r e h k = k ∙ rw (eq-eqb (place_of 46 w) (length w) (sym e ∙ h))

pub unsigned_parts_at : (p : ℕ) (w : List ℕ) (r : Option Float) → p ≡ place_of 46 w → (p ≡ length w → ⊥) → r ≡ parts (take p w) (take (length w - (p + 1)) (drop (p + 1) w)) → r ≡ unsigned_of w
unfolding unsigned_of
unsigned_parts_at p w r e n k = k ∙ rw (lent_rest w (p + 1), ne_eqb (place_of 46 w) (length w) (λ d. n (e ∙ d)), add-one, e)

-- by what the library's `position` finds
pub unsigned_alone : (w : List ℕ) (r : (Option Float)) → position (λ x. eqb x 46) w ≡ None → r ≡ alone w → r ≡ unsigned_of w
unfolding unsigned_of
unsigned_alone w r e k = k ∙ rw (eq-eqb (place_of 46 w) (length w) (omega (arith, place_missing 46 w e, place_most 46 w)))

pub unsigned_parts : (p : ℕ) (w : List ℕ) (r : (Option Float)) → position (λ x. eqb x 46) w ≡ Some p → r ≡ parts (take p w) (take (length w - (p + 1)) (drop (p + 1) w)) → r ≡ unsigned_of w
unfolding unsigned_of
unsigned_parts p w r e k =
    let f = place_found 46 p w e in
    k ∙ rw (lent_rest w (p + 1), ne_eqb (place_of 46 w) (length w) (omega (arith, f.0, f.1)), add-one, f.0)

-- ---- a word, with a minus sign or without

pub real_none : (w : List ℕ) → length w ≡ 0 → None ≡ real_of w
unfolding real_of
real_none [] h = refl
real_none (c ∷ w) h = absurd (omega arith)

-- by the first byte
pub real_minus_at : (w : List ℕ) (u r : Option Float) → (length w ≡ 0 → ⊥) → get_or w 0 0 ≡ 45 → u ≡ unsigned_of (take (length w - 1) (drop 1 w)) → r ≡ negated u → r ≡ real_of w
unfolding real_of
real_minus_at [] u r n h e q = absurd (n refl)
real_minus_at (c ∷ w) u r n h e q = q ∙ rw (eq-eqb c 45 h, e, lent_rest (c ∷ w) 1)

pub real_plain_at : (w : List ℕ) (r : Option Float) → (length w ≡ 0 → ⊥) → (get_or w 0 0 ≡ 45 → ⊥) → r ≡ unsigned_of w → r ≡ real_of w
unfolding real_of
real_plain_at [] r n h e = absurd (n refl)
real_plain_at (c ∷ w) r n h e = e ∙ rw (ne_eqb c 45 h)

-- by the library's test of the front
pub real_minus : (w v : List ℕ) (u r : (Option Float)) → pointwise eqb (take 1 w) (45 ∷ []) ≡ true → v ≡ drop 1 w → u ≡ unsigned_of v → r ≡ negated u → r ≡ real_of w
unfolding real_of
real_minus [] v u r n m e q = absurd (false≢true n)
real_minus (c ∷ w) v u r n m e q = q ∙ rw (and_left (eqb c 45) true n, e, m)

pub real_plain : (w : List ℕ) (r : (Option Float)) → pointwise eqb (take 1 w) (45 ∷ []) ≡ false → r ≡ unsigned_of w → r ≡ real_of w
unfolding real_of unsigned_of place_of alone numeral
real_plain [] r n e = e ∙ refl
real_plain (c ∷ w) r n e = e ∙ rw (sym (and-true (eqb c 45)) ∙ n)
