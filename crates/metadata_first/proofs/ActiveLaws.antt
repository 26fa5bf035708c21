-- A row's entries in the columns of a test: what is present among them and what they merge to; so the three of demand 3 depend on
-- the active entries and on the vector at active columns alone. Assumes nothing.
use mathlib.Core.Bool.{Bool, true, false, not, ◌&&◌, ◌||◌, and-true, and-false}
use mathlib.Core.List.{List, [], ◌∷◌, foldl}
use mathlib.Core.Path.{◌≡◌, refl, sym, ap, ap₂, ◌∙◌}
use Prim.Native.Nat.{ℕ, ◌<◌}
use lib.Dec.{eqb}
use lib.Ieee.{Float, binary64, add}
use borrow.Author.Tests.{eqb-true}
use Rattle.hybit_core.specs.Floats.{zero64}
use Rattle.hybit_core.proofs.BoolLaws.{and_left, and_right}
use Rattle.lent.specs.Lists.{cons_if, only, some}
use Rattle.lent.proofs.ListLaws.{only-only, every-all}
use Rattle.csr32.specs.Csr.{Entry, of_column, present, merged}
use Rattle.csr32.specs.Made.{entries_in}
use Rattle.metadata_first.specs.Dot.{dot_of, three_of, demanded}
use Rattle.metadata_first.proofs.DotLaws.{three_cong}

module _ (t : ℕ → Bool) where
  pub present_in : (es : List Entry) (c : ℕ) → present (entries_in t es) c ≡ (present es c && t c)
  unfolding present some only
  present_in [] c = refl
  present_in (e ∷ es) c = go (eqb e.0 c) (t e.0) refl refl (present_in es c)
    where
      go : (s b : Bool) → eqb e.0 c ≡ s → t e.0 ≡ b → some (of_column c) (entries_in t es) ≡ (some (of_column c) es && t c)
          → some (of_column c) (cons_if b e (entries_in t es)) ≡ ((s || some (of_column c) es) && t c)
      go true true x y h = ap (λ (b : Bool). b || some (of_column c) (entries_in t es)) x ∙ sym y ∙ ap t (eqb-true e.0 c x)
      go true false x y h =
          let z : t c ≡ false = sym (ap t (eqb-true e.0 c x)) ∙ y in
          h ∙ ap (λ (b : Bool). some (of_column c) es && b) z ∙ and-false (some (of_column c) es) ∙ sym z
      go false true x y h = ap (λ (b : Bool). b || some (of_column c) (entries_in t es)) x ∙ h
      go false false x y h = h

  pub merged_in : (es : List Entry) (c : ℕ) → t c ≡ true → merged (entries_in t es) c ≡ merged es c
  unfolding merged
  merged_in es c h =
      ap (foldl (λ (s : Float) (e : Entry). add binary64 s e.1) zero64)
      (only-only (of_column c) (λ (e : Entry). t e.0) es (every-all (λ a. not (of_column c a) || t a.0) es (λ a. go a (eqb a.0 c) refl)))
    where
      go : (a : Entry) (s : Bool) → eqb a.0 c ≡ s → (not s || t a.0) ≡ true
      go a true x = ap t (eqb-true a.0 c x) ∙ h
      go a false x = refl

-- the row of the active entries alone, with every column active
pub demanded_in : (n : ℕ) (es : List Entry) (a b : ℕ → Bool) (x : ℕ → Float) → ((c : ℕ) → c < n → b c ≡ true) → demanded n (entries_in a es) b x ≡ demanded n es a x
unfolding demanded dot_of three_of
demanded_in n es a b x all =
    three_cong n (present (entries_in a es)) (present es) b a (merged (entries_in a es)) (merged es) x x
    (λ c l. ap₂ (λ (s t : Bool). s && t) (present_in a es c) (all c l) ∙ and-true (present es c && a c))
    (λ c l e. merged_in a es c (and_right (present es c) (a c) (sym (present_in a es c) ∙ and_left (present (entries_in a es) c) (b c) e)))
    (λ c l e. refl)

-- another row with the same active entries, and another vector that agrees at active columns
pub demanded_same : (n : ℕ) (es fs : List Entry) (a : ℕ → Bool) (x y : ℕ → Float) → entries_in a es ≡ entries_in a fs → ((c : ℕ) → c < n → a c ≡ true → x c ≡ y c)
    → demanded n es a x ≡ demanded n fs a y
unfolding demanded dot_of three_of
demanded_same n es fs a x y e h =
    sym (demanded_in n es a (λ c. true) x (λ c l. refl)) ∙ ap (λ (l : List Entry). demanded n l (λ c. true) x) e ∙ demanded_in n fs a (λ c. true) x (λ c l. refl)
    ∙ three_cong n (present fs) (present fs) a a (merged fs) (merged fs) x y (λ c l. refl) (λ c l e. refl) (λ c l e. h c l (and_right (present fs c) (a c) e))
