-- Entries that pass a test: two tests in either order, a test that all pass; so merging without stored zeros where there is none, and
-- where there is no entry. Assumes nothing.
use mathlib.Core.Bool.{Bool, true, false, not}
use mathlib.Core.List.{List, [], ◌∷◌, foldl}
use mathlib.Core.Path.{◌≡◌, refl, sym, ap, ◌∙◌}
use Prim.Native.Nat.{ℕ}
use lib.Ieee.{Float, binary64, add}
use Rattle.hybit_core.specs.Floats.{zero64}
use Rattle.hybit_core.proofs.BoolLaws.{and_left, and_right}
use Rattle.lent.specs.Lists.{cons_if, only, every}
use Rattle.lent.proofs.ListLaws.{only_none}
use Rattle.csr32.specs.Csr.{Entry, of_column, present, merged}
use Rattle.csr32.specs.Made.{entries_in}
use Rattle.metadata_first.proofs.ActiveLaws.{merged_in}
use Rattle.abtm_values.specs.Values.{is_zero, merged_nonzero}
use Rattle.abtm_values.proofs.ZeroLaws.{zero_is_zero}

pub only_turned : {A : Type 0} (p q : A → Bool) (l : List A) → only p (only q l) ≡ only q (only p l)
unfolding only
only_turned p q [] = refl
only_turned {A} p q (a ∷ l) = go (p a) (q a) refl refl (only_turned p q l)
  where
    go : (s t : Bool) → p a ≡ s → q a ≡ t → only p (only q l) ≡ only q (only p l) → only p (cons_if t a (only q l)) ≡ only q (cons_if s a (only p l))
    go true true x y e = ap (λ (b : Bool). cons_if b a (only p (only q l))) x ∙ ap (λ (l : List A). a ∷ l) e ∙ sym (ap (λ (b : Bool). cons_if b a (only q (only p l))) y)
    go true false x y e = e ∙ sym (ap (λ (b : Bool). cons_if b a (only q (only p l))) y)
    go false true x y e = ap (λ (b : Bool). cons_if b a (only p (only q l))) x ∙ e
    go false false x y e = e

pub only-all : {A : Type 0} (p : A → Bool) (l : List A) → every p l ≡ true → only p l ≡ l
unfolding only every
only-all p [] e = refl
only-all {A} p (a ∷ l) e = ap (λ (b : Bool). cons_if b a (only p l)) (and_left (p a) (every p l) e) ∙ ap (λ (l : List A). a ∷ l) (only-all p l (and_right (p a) (every p l) e))

-- ---- merging without stored zeros

abbrev pub nonzero : Entry → Bool
nonzero e = not (is_zero e.1)

-- in a column of a test under which no entry is zero
pub merged-nonzero : (t : ℕ → Bool) (es : List Entry) (c : ℕ) → every nonzero (entries_in t es) ≡ true → t c ≡ true → merged_nonzero es c ≡ merged es c
unfolding merged_nonzero
merged-nonzero t es c z h =
    sym (merged_in t (only nonzero es) c h)
    ∙ ap (λ (l : List Entry). merged l c) (only_turned (λ (e : Entry). t e.0) nonzero es ∙ only-all nonzero (entries_in t es) z)
    ∙ merged_in t es c h

-- in a column without an entry
absent_nonzero : (es : List Entry) (c : ℕ) → present es c ≡ false → merged_nonzero es c ≡ zero64
unfolding merged_nonzero merged present only
absent_nonzero es c h = ap (foldl (λ (s : Float) (e : Entry). add binary64 s e.1) zero64) (only_turned (of_column c) nonzero es ∙ ap (only nonzero) (only_none (of_column c) es h))

-- so a column whose merged value is not zero has an entry
pub nonzero-present : (es : List Entry) (c : ℕ) → not (is_zero (merged_nonzero es c)) ≡ true → present es c ≡ true
nonzero-present es c h = go (present es c) refl
  where
    go : (b : Bool) → present es c ≡ b → b ≡ true
    go true e = refl
    go false e = sym (ap (λ (x : Float). not (is_zero x)) (absent_nonzero es c e) ∙ ap not zero_is_zero) ∙ h
