-- A row's entries in the columns of a test, each with the number that its column gets: how many they are, and what the code holds
-- entry after entry. Assumes nothing.
use mathlib.Core.Bool.{Bool, true, false}
use mathlib.Core.List.{List, [], ◌∷◌, ◌++◌, append-nil, map, map-append, zip, zip_with}
use mathlib.Core.Path.{◌≡◌, refl, sym, ap, ◌∙◌}
use Prim.Native.Nat.{ℕ, suc, ◌+◌, ◌≤◌, ◌<◌}
use native.Mathlib.Numerals.{add-one}
use native.Mathlib.Omega.{arith}
use mir.Val.{bool_byte}
use lib.ListN.{length, get_or, set, take, drop, length-append, length-map, length-set, length-take, take-append-drop}
use lib.Seq.{take_all, take-suc}
use lib.Ieee.{Float, nan}
use Rattle.lent.specs.Lists.{cons_if, only}
use Rattle.lent.specs.Lent.{Appended}
use Rattle.lent.proofs.ListLaws.{length-only, only-append, only_snoc}
use Rattle.lent.proofs.PartLaws.{zip_suc}
use Rattle.lent.proofs.LentLaws.{appended_none, appended_snoc}
use Rattle.word.proofs.BelowLaws.{byte_le}
use Rattle.csr32.specs.Csr.{Entry}
use Rattle.csr32.specs.Made.{entries_in}

-- ---- columns, counted

pub byte_small : (b : Bool) (d : ℕ) → d ≡ bool_byte b → d ≤ 1
byte_small b d e = omega (arith, e, byte_le b)

pub record Counted (t : ℕ → Bool) (cs : List ℕ) (k n : ℕ) : Type 0 where
  pub is : n ≡ length (only t (take k cs))

module _ (t : ℕ → Bool) (cs : List ℕ) where
  pub counted_none : Counted t cs 0 0
  unfolding only
  counted_none = record { is = refl }

  module _ (k n : ℕ) (inv : Counted t cs k n) where
    pub counted-le : n ≤ k
    counted-le = omega (arith, inv.is, length-only t (take k cs), length-take k cs)

    -- c is the column at k, as the code reads it
    pub counted_more : (b : Bool) (d : ℕ) → k < length cs → (c : ℕ) → c ≡ get_or cs k 0 → b ≡ t c → d ≡ bool_byte b → Counted t cs (k + 1) (n + d)
    counted_more b d h c here e q = record { is = sum ∙ sym (ap (λ (i : ℕ). length (only t (take i cs))) (add-one k) ∙ ap (λ (l : List ℕ). length (only t l)) (take-suc cs k 0 h) ∙ ap length (only_snoc t (take k cs) (get_or cs k 0) b (e ∙ ap t here))) }
      where
        one : (b : Bool) → bool_byte b ≡ length (cons_if b (get_or cs k 0) [])
        one true = refl
        one false = refl

        sum : n + d ≡ length (only t (take k cs) ++ cons_if b (get_or cs k 0) [])
        sum = omega (arith, inv.is, q, one b, length-append (only t (take k cs)) (cons_if b (get_or cs k 0) []))

    pub counted_done : length cs ≤ k → n ≡ length (only t cs)
    counted_done h = inv.is ∙ ap (λ (l : List ℕ). length (only t l)) (take_all k cs h)

-- ---- entries, appended

-- as many entries are kept as columns pass
pub length-kept : (t : ℕ → Bool) (cs : List ℕ) (vs : List Float) → length cs ≡ length vs → length (entries_in t (zip cs vs)) ≡ length (only t cs)
unfolding only zip zip_with
length-kept t [] vs h = refl
length-kept t (c ∷ cs) [] h = absurd (omega arith)
length-kept t (c ∷ cs) (v ∷ vs) h = go (t c) (length-kept t cs vs (omega arith))
  where
    go : (b : Bool) → length (entries_in t (zip cs vs)) ≡ length (only t cs) → length (cons_if b (c, v) (entries_in t (zip cs vs))) ≡ length (cons_if b c (only t cs))
    go true e = ap suc e
    go false e = e

length-zip-le : (cs : List ℕ) (vs : List Float) → length (zip cs vs) ≤ length cs
unfolding zip zip_with
length-zip-le [] vs = omega arith
length-zip-le (c ∷ cs) [] = omega arith
length-zip-le (c ∷ cs) (v ∷ vs) = omega (arith, length-zip-le cs vs)

-- of the first k entries those are written whose columns pass
pub record Keeping (t : ℕ → Bool) (number : Entry → ℕ) (cs : List ℕ) (vs : List Float) (from : ℕ) (oc : List ℕ) (ov : List Float) (k at : ℕ) (nc : List ℕ) (nv : List Float) : Type 0 where
  pub columns : Appended (map number (entries_in t (take k (zip cs vs)))) from at oc nc
  pub values : Appended (map (λ (e : Entry). e.1) (entries_in t (take k (zip cs vs)))) from at ov nv
  pub long_columns : length nc ≡ length oc
  pub long_values : length nv ≡ length ov

module _ (t : ℕ → Bool) (number : Entry → ℕ) (cs : List ℕ) (vs : List Float) (from : ℕ) (oc : List ℕ) (ov : List Float) where
  pub keeping_none : Keeping t number cs vs from oc ov 0 from oc ov
  unfolding only
  keeping_none = record { columns = appended_none from oc; values = appended_none from ov; long_columns = refl; long_values = refl }

  module _ (k at : ℕ) (nc : List ℕ) (nv : List Float) (inv : Keeping t number cs vs from oc ov k at nc nv) where
    pub keeping_done : length cs ≤ k → Appended (map number (entries_in t (zip cs vs))) from at oc nc × Appended (map (λ (e : Entry). e.1) (entries_in t (zip cs vs))) from at ov nv
    keeping_done h =
        let all : take k (zip cs vs) ≡ zip cs vs = take_all k (zip cs vs) (omega (arith, length-zip-le cs vs)) in
        (rw all at inv.columns, rw all at inv.values)

    module _ (same : length vs ≡ length cs) (h : k < length cs) (c : ℕ) (here : c ≡ get_or cs k 0) where
      step : (b : Bool) → b ≡ t c → entries_in t (take (k + 1) (zip cs vs)) ≡ entries_in t (take k (zip cs vs)) ++ cons_if b (get_or cs k 0, get_or vs k nan) []
      step b e =
          ap (λ (es : List Entry). entries_in t es) (zip_suc cs vs k 0 nan h (omega arith))
          ∙ only_snoc (λ (e : Entry). t e.0) (take k (zip cs vs)) (get_or cs k 0, get_or vs k nan) b (e ∙ ap t here)

      -- an entry that is kept has a place
      module _ (e : true ≡ t c) where
        place : at < from + length (entries_in t (zip cs vs))
        place =
            let all : entries_in t (zip cs vs) ≡ entries_in t (take (k + 1) (zip cs vs)) ++ entries_in t (drop (k + 1) (zip cs vs)) =
            ap (λ (es : List Entry). entries_in t es) (sym (take-append-drop (k + 1) (zip cs vs))) ∙ only-append (λ (e : Entry). t e.0) (take (k + 1) (zip cs vs)) (drop (k + 1) (zip cs vs)) in
            omega (arith, inv.columns.next, length-map (entries_in t (take k (zip cs vs))) number, ap length all, length-append (entries_in t (take (k + 1) (zip cs vs))) (entries_in t (drop (k + 1) (zip cs vs))), ap length (step true e), length-append (entries_in t (take k (zip cs vs))) ((get_or cs k 0, get_or vs k nan) ∷ []))

        pub keeping_column : from + length (entries_in t (zip cs vs)) ≤ length oc → at < length nc
        keeping_column r = omega (arith, place, inv.long_columns)

        pub keeping_value : from + length (entries_in t (zip cs vs)) ≤ length ov → at < length nv
        keeping_value r = omega (arith, place, inv.long_values)

        pub keeping_more : (v : ℕ) → v ≡ number (get_or cs k 0, get_or vs k nan) → from + length (entries_in t (zip cs vs)) ≤ length oc → from + length (entries_in t (zip cs vs)) ≤ length ov → Keeping t number cs vs from oc ov (k + 1) (at + 1) (set nc at v) (set nv at (get_or vs k nan))
        keeping_more v q r s = record {
          columns = rw (step true e, map-append, ← q) (appended_snoc _ from at oc nc v inv.columns (keeping_column r));
          values = rw (step true e, map-append) (appended_snoc _ from at ov nv (get_or vs k nan) inv.values (keeping_value s));
          long_columns = length-set nc at v ∙ inv.long_columns;
          long_values = length-set nv at (get_or vs k nan) ∙ inv.long_values;
        }

      pub keeping_other : false ≡ t c → Keeping t number cs vs from oc ov (k + 1) at nc nv
      keeping_other e =
          let left : entries_in t (take (k + 1) (zip cs vs)) ≡ entries_in t (take k (zip cs vs)) = step false e ∙ append-nil (entries_in t (take k (zip cs vs))) in
          record {
            columns = rw left inv.columns;
            values = rw left inv.values;
            long_columns = inv.long_columns;
            long_values = inv.long_values;
          }
