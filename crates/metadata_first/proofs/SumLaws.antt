-- Sums of counts: whether they fit into 64 bits. Assumes nothing.
use mathlib.Core.Bool.{Bool, true, false, not, ◌&&◌}
use mathlib.Core.Path.{◌≡◌, refl, sym, ap, ◌∙◌}
use Prim.Native.Nat.{ℕ, ◌+◌, ◌-◌, ◌^◌, ◌<◌}
use native.Mathlib.Omega.{arith}
use lib.Dec.{leb, ltb}
use lib.Ieee.{Float}
use borrow.Author.Tests.{le-leb, lt-ltb, leb-true, ltb-true}
use Rattle.std.specs.Prelude.{Option, None, Some}
use Rattle.std.specs.Option.{is_some, SomeIff}
use Rattle.hybit_core.specs.Answer.{gives, refuses, plain, answers, demand}
use Rattle.hybit_core.specs.Floats.{ratio_of}
use Rattle.hybit_core.proofs.BoolLaws.{and_left, and_right, same_test, flag_on, flag_off}
use Rattle.metadata_first.specs.declared.AbtmProductPruningStats.{AbtmProductPruningStats}
use Rattle.metadata_first.specs.Dot.{accumulated, totals_fit, accumulate_answer}

-- the same test by the room that is left
pub room_test : (a b : ℕ) → a < 2 ^ 64 → leb b (18446744073709551615 - a) ≡ ltb (a + b) (2 ^ 64)
room_test a b h =
    same_test (leb b (18446744073709551615 - a)) (ltb (a + b) (2 ^ 64))
    (λ e. lt-ltb (a + b) (2 ^ 64) (omega (arith, leb-true b (18446744073709551615 - a) e)))
    (λ e. le-leb b (18446744073709551615 - a) (omega (arith, ltb-true (a + b) (2 ^ 64) e)))

pub sum_test : (a b : ℕ) (r : Option ℕ) → SomeIff r (a + b < 2 ^ 64) (a + b) → is_some r ≡ ltb (a + b) (2 ^ 64)
sum_test a b None h = same_test false (ltb (a + b) (2 ^ 64)) (λ e. cc) (λ e. absurd (h (ltb-true (a + b) (2 ^ 64) e)))
sum_test a b (Some x) h = same_test true (ltb (a + b) (2 ^ 64)) (λ e. lt-ltb (a + b) (2 ^ 64) h.0) (λ e. refl)

-- ---- counts

module _ (t : AbtmProductPruningStats) where
  pub record Fitting : Type 0 where
    pub candidate : t.candidate_products < 2 ^ 64
    pub executed : t.executed_products < 2 ^ 64
    pub skipped : t.skipped_products < 2 ^ 64
    pub words : t.topology_words < 2 ^ 64
    pub active : t.active_words < 2 ^ 64

  pub fitting : totals_fit t ≡ true → Fitting
  unfolding totals_fit
  fitting e =
      let a : Bool = ltb t.candidate_products (2 ^ 64) in
      let b : Bool = ltb t.executed_products (2 ^ 64) in
      let c : Bool = ltb t.skipped_products (2 ^ 64) in
      let d : Bool = ltb t.topology_words (2 ^ 64) in
      let f : Bool = ltb t.active_words (2 ^ 64) in
      let four : (a && b && c && d) ≡ true = and_left (a && b && c && d) f e in
      let three : (a && b && c) ≡ true = and_left (a && b && c) d four in
      let two : (a && b) ≡ true = and_left (a && b) c three in
      record {
        candidate = ltb-true t.candidate_products (2 ^ 64) (and_left a b two);
        executed = ltb-true t.executed_products (2 ^ 64) (and_right a b two);
        skipped = ltb-true t.skipped_products (2 ^ 64) (and_right (a && b) c three);
        words = ltb-true t.topology_words (2 ^ 64) (and_right (a && b && c) d four);
        active = ltb-true t.active_words (2 ^ 64) (and_right (a && b && c && d) f e);
      }

module _ (a b : AbtmProductPruningStats) (x : Bool) (e : x ≡ totals_fit (accumulated a b)) where
  pub totals_fit_lem : not x ≡ false → Fitting (accumulated a b)
  totals_fit_lem h = fitting (accumulated a b) (sym (flag_on (totals_fit (accumulated a b)) x e h))

  pub totals_given : not x ≡ false → gives (accumulated a b) ≡ answers (accumulate_answer a b) (accumulated a b)
  unfolding accumulate_answer
  totals_given h = ap (λ (t : Bool). answers (demand t 1) (accumulated a b)) (flag_on (totals_fit (accumulated a b)) x e h)

  pub totals_refused : not x ≡ true → refuses (plain 1) ≡ answers (accumulate_answer a b) (accumulated a b)
  unfolding accumulate_answer
  totals_refused h = ap (λ (t : Bool). answers (demand t 1) (accumulated a b)) (flag_off (totals_fit (accumulated a b)) x e h)

-- more words are said to be active than there are: none is without a product
pub none-empty : (w a : ℕ) (x : Float) → x ≡ ratio_of 0 w → w < a → x ≡ ratio_of (w - a) w
none-empty w a x e h =
    let z : 0 ≡ w - a = omega arith in
    e ∙ ap (λ (k : ℕ). ratio_of k w) z
