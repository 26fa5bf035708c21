-- Laws of merged values: one entry more, and columns without an entry. Assumes nothing.
use mathlib.Core.Bool.{Bool, true, false}
use mathlib.Core.List.{List, [], ◌∷◌, ◌++◌, zip, foldl, foldl-append}
use mathlib.Core.Path.{◌≡◌, refl, sym, ap, ap₂, ◌∙◌}
use Prim.Native.Nat.{ℕ, ◌+◌, ◌≤◌, ◌<◌}
use native.Mathlib.Omega.{arith}
use lib.Dec.{eqb}
use lib.ListN.{length, get_or, take}
use lib.Seq.{take_all}
use lib.Ieee.{Float, nan, binary64, add}
use Rattle.hybit_core.specs.Floats.{zero64}
use Rattle.lent.specs.Lists.{cons_if, only}
use Rattle.lent.proofs.ListLaws.{only-append, only_none}
use Rattle.lent.proofs.PartLaws.{take-zip, zip_suc}
use Rattle.csr32.specs.Csr.{Entry, of_column, present, merged}

-- ---- one entry more

-- a sum with one value more, where the test holds
abbrev pub add_if : Bool → Float → Float → Float
add_if true s v = add binary64 s v
add_if false s v = s

pub merged-none : (c : ℕ) → merged [] c ≡ zero64
unfolding merged only
merged-none c = refl

pub merged_snoc : (es : List Entry) (d : ℕ) (v : Float) (c : ℕ) → merged (es ++ ((d, v) ∷ [])) c ≡ add_if (eqb d c) (merged es c) v
unfolding merged only
merged_snoc es d v c =
    ap (foldl (λ (s : Float) (e : Entry). add binary64 s e.1) zero64) (only-append (of_column c) es ((d, v) ∷ []))
    ∙ foldl-append (λ (s : Float) (e : Entry). add binary64 s e.1) zero64 (only (of_column c) es) (only (of_column c) ((d, v) ∷ []))
    ∙ go (eqb d c)
  where
    go : (t : Bool) → foldl (λ (s : Float) (e : Entry). add binary64 s e.1) (merged es c) (cons_if t (d, v) []) ≡ add_if t (merged es c) v
    go true = refl
    go false = refl

-- the first k entries of two lists side by side, and one more

pub zip_snoc : (cs : List ℕ) (vs : List Float) (k : ℕ) → k < length cs → k < length vs → zip (take (k + 1) cs) (take (k + 1) vs) ≡ zip (take k cs) (take k vs) ++ ((get_or cs k 0, get_or vs k nan) ∷ [])
zip_snoc cs vs k h l = sym (take-zip (k + 1) cs vs) ∙ zip_suc cs vs k 0 nan h l ∙ ap (λ (t : List Entry). t ++ ((get_or cs k 0, get_or vs k nan) ∷ [])) (take-zip k cs vs)

pub firsts_all : (cs : List ℕ) (vs : List Float) (k : ℕ) → length cs ≤ k → length vs ≡ length cs → zip (take k cs) (take k vs) ≡ zip cs vs
firsts_all cs vs k h l = ap₂ (λ (s : List ℕ) (t : List Float). zip s t) (take_all k cs h) (take_all k vs (omega arith))

-- d is the column of entry k, as the code reads it
pub merged_more : (cs : List ℕ) (vs : List Float) (k d c : ℕ) → k < length cs → length vs ≡ length cs → d ≡ get_or cs k 0
    → merged (zip (take (k + 1) cs) (take (k + 1) vs)) c ≡ add_if (eqb d c) (merged (zip (take k cs) (take k vs)) c) (get_or vs k nan)
merged_more cs vs k d c h l e =
    ap (λ (es : List Entry). merged es c) (zip_snoc cs vs k h (omega arith))
    ∙ merged_snoc (zip (take k cs) (take k vs)) (get_or cs k 0) (get_or vs k nan) c
    ∙ ap (λ (n : ℕ). add_if (eqb n c) (merged (zip (take k cs) (take k vs)) c) (get_or vs k nan)) (sym e)

-- ---- a column without an entry

pub merged_absent : (es : List Entry) (c : ℕ) → present es c ≡ false → merged es c ≡ zero64
unfolding present merged
merged_absent es c h = ap (foldl (λ (s : Float) (e : Entry). add binary64 s e.1) zero64) (only_none (of_column c) es h)
