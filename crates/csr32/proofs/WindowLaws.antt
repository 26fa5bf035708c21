-- Laws of a window of a row: the place of a column in it, and clearing it. Assumes nothing.
use mathlib.Core.Bool.{Bool, false, ◌||◌, cond}
use Rattle.std.specs.Prelude.{Option, Some, None}
use mathlib.Core.List.{List}
use mathlib.Core.Path.{◌≡◌, sym, ap, ap₂, ◌∙◌}
use Prim.Native.Nat.{ℕ, ◌+◌, ◌-◌, ◌≤◌, ◌<◌}
use native.Mathlib.Numerals.{add-one}
use native.Mathlib.Decide.{dec_lt}
use native.Mathlib.Omega.{arith}
use lib.Dec.{eqb, leb, ltb}
use lib.ListN.{length, get_or, drop, set, replicate, length-set, length-replicate, get_or-replicate, drop_of_length-le}
use lib.Seq.{ext_get_or, get_or-set_same, get_or-set_other, drop-cons}
use lib.Ieee.{Float, nan}
use borrow.Author.Tests.{ne_eqb, le-leb, lt-ltb, leb-true, ltb-true}
use Rattle.std.proofs.lemmas.Bool.{cond-true}
use Rattle.std.proofs.lemmas.Option.{cond_some, none-some}
use Rattle.hybit_core.proofs.BoolLaws.{and_left, and_right, and_both}
use Rattle.hybit_core.specs.Floats.{zero64}
use Rattle.lent.specs.Lists.{some}
use Rattle.lent.proofs.ListLaws.{some-none}
use Rattle.csr32.specs.Window.{in_window, Outside}

pub zeros_as : (sums : List Float) (m n : ℕ) → sums ≡ replicate m zero64 → m ≡ n → sums ≡ replicate n zero64
zeros_as sums m n e h = e ∙ ap (λ (k : ℕ). replicate k zero64) h

-- ---- what the place of a column in a window says of the column

module _ (base width c : ℕ) (r : Option ℕ) (e : r ≡ cond (in_window base width c) (Some (c - base)) None) where
  pub placed : (i : ℕ) → r ≡ Some i → (c ≡ base + i) × (i < width)
  placed i h =
      let w = cond_some (in_window base width c) (c - base) i (sym e ∙ h) in
      let b = leb-true base c (and_left (leb base c) (ltb (c - base) width) w.0) in
      let g = ltb-true (c - base) width (and_right (leb base c) (ltb (c - base) width) w.0) in
      (omega (arith, b, w.1), omega (arith, g, w.1))

  pub unplaced : r ≡ None → base ≤ c → width ≤ c - base
  unplaced h b = go (dec_lt (c - base) width)
    where
      go : Dec (c - base < width) → width ≤ c - base
      go (no x) = omega arith
      go (yes y) = absurd (none-some (c - base) (sym h ∙ e ∙ cond-true (in_window base width c) (Some (c - base)) None (and_both (leb base c) (ltb (c - base) width) (le-leb base c b) (lt-ltb (c - base) width y))))

-- ---- 0.0 but at the columns from place k on

module _ (cs : List ℕ) (base k : ℕ) (sums : List Float) (inv : Outside (drop k cs) base sums) where
  pub outside_done : (n : ℕ) → length sums ≡ n → length cs ≤ k → sums ≡ replicate n zero64
  outside_done n e h =
      ext_get_or nan sums (replicate n zero64) (e ∙ sym (length-replicate n zero64))
      (λ i b. inv.zeros i b (ap (some (λ c. eqb c (base + i))) (drop_of_length-le cs h) ∙ some-none (λ c. eqb c (base + i))) ∙ sym (get_or-replicate n i zero64 nan (omega arith)))

  module _ (c : ℕ) (h : k < length cs) (e : c ≡ get_or cs k 0) where
    left : (i : ℕ) → (c ≡ base + i → ⊥) → some (λ d. eqb d (base + i)) (drop (k + 1) cs) ≡ false → some (λ d. eqb d (base + i)) (drop k cs) ≡ false
    unfolding some
    left i f s =
        ap (some (λ d. eqb d (base + i))) (drop-cons cs k 0 h)
        ∙ ap₂ (λ (r t : Bool). r || t) (ap (λ (d : ℕ). eqb d (base + i)) (sym e) ∙ ne_eqb c (base + i) f) (ap (λ (n : ℕ). some (λ d. eqb d (base + i)) (drop n cs)) (sym (add-one k)) ∙ s)

    pub outside_other : (base ≤ c → length sums ≤ c - base) → Outside (drop (k + 1) cs) base sums
    outside_other g = record { zeros = λ i q s. inv.zeros i q (left i (λ x. omega (arith, g (omega arith))) s) }

    pub outside_more : (j : ℕ) → c ≡ base + j → j < length sums → Outside (drop (k + 1) cs) base (set sums j zero64)
    outside_more j b g = record { zeros = λ i q s. go i (dec_lt i j) (dec_lt j i) (omega (arith, length-set sums j zero64)) s }
      where
        go : (i : ℕ) → Dec (i < j) → Dec (j < i) → i < length sums → some (λ d. eqb d (base + i)) (drop (k + 1) cs) ≡ false → get_or (set sums j zero64) i nan ≡ zero64
        go i (yes x) y q s = get_or-set_other sums j i zero64 nan (λ z. omega arith) ∙ inv.zeros i q (left i (λ z. omega arith) s)
        go i (no x) (yes y) q s = get_or-set_other sums j i zero64 nan (λ z. omega arith) ∙ inv.zeros i q (left i (λ z. omega arith) s)
        go i (no x) (no y) q s = let z : i ≡ j = omega arith in ap (λ (n : ℕ). get_or (set sums j zero64) n nan) z ∙ get_or-set_same sums j zero64 nan g
