-- Laws of a window of a row: its sums entry after entry, the test of its sums, and the windows of a row taken together. Assumes nothing.
use mathlib.Core.Bool.{Bool, true, false, not, ◌&&◌, ◌||◌, or-true, false≢true}
use mathlib.Core.List.{List, [], zip, zip_with}
use mathlib.Core.Path.{◌≡◌, refl, sym, ap, ap₂, ◌∙◌}
use Prim.Native.Nat.{ℕ, ◌+◌, ◌-◌, ◌^◌, ◌≤◌, ◌<◌}
use native.Mathlib.Decide.{dec_lt}
use native.Mathlib.Omega.{arith}
use lib.Dec.{leb, ltb}
use lib.ListN.{length, get_or, take, drop, set, replicate, length-replicate, get_or-replicate}
use lib.Seq.{length-take-le}
use lib.Ieee.{Float, nan, binary64, add}
use borrow.Author.Tests.{lt-ltb, le-ltb, le-leb, lt-leb, ltb-true, eq-eqb, ne_eqb}
use Rattle.hybit_core.specs.Floats.{zero64, finite}
use Rattle.hybit_core.proofs.BoolLaws.{flag_on, flag_off}
use Rattle.lent.specs.Lists.{each, every}
use Rattle.lent.proofs.ListLaws.{length-each, get_or-each, each_set, each_cong, each_is, every-all, every_more, every_fails, every_done, every_by, zeros_front}
use Rattle.csr32.specs.Csr.{Entry, merged}
use Rattle.csr32.specs.Window.{in_window, Outside}
use Rattle.csr32.proofs.CsrLaws.{present_columns}
use Rattle.csr32.proofs.WindowLaws.{zeros_as}
use Rattle.csr32.proofs.MergedLaws.{add_if, merged-none, merged_more, merged_absent, firsts_all}
use Rattle.metadata_first_merge.specs.Merge.{row_values}
use Rattle.metadata_first_merge.specs.Window.{sums_finite, window_finite}
use Rattle.metadata_first_merge.proofs.MergeLaws.{row_finite}

-- ---- the sums after k entries

pub record Summed (cs : List ℕ) (vs : List Float) (base width k : ℕ) (sums : List Float) : Type 0 where
  pub is : sums ≡ each (λ i. merged (zip (take k cs) (take k vs)) (base + i)) width

module _ (cs : List ℕ) (vs : List Float) (base width : ℕ) where
  pub summed-none : (sums : List Float) → sums ≡ replicate width zero64 → Summed cs vs base width 0 sums
  unfolding zip zip_with
  summed-none sums e =
      record {
        is = e ∙ each_is nan (λ i. merged [] (base + i)) width (replicate width zero64) (length-replicate width zero64) (λ i h. get_or-replicate width i zero64 nan h ∙ sym (merged-none (base + i)));
      }

  module _ (k : ℕ) (sums : List Float) (inv : Summed cs vs base width k sums) where
    pub summed_done : length cs ≤ k → length vs ≡ length cs → sums ≡ each (λ i. merged (zip cs vs) (base + i)) width
    summed_done h l = inv.is ∙ ap (λ (es : List Entry). each (λ i. merged es (base + i)) width) (firsts_all cs vs k h l)

    -- c is the column of entry k, as the code reads it
    module _ (c : ℕ) (h : k < length cs) (l : length vs ≡ length cs) (e : c ≡ get_or cs k 0) where
      other : (i : ℕ) → (c ≡ base + i → ⊥) → merged (zip (take (k + 1) cs) (take (k + 1) vs)) (base + i) ≡ merged (zip (take k cs) (take k vs)) (base + i)
      other i f =
          merged_more cs vs k c (base + i) h l e
          ∙ ap (λ (t : Bool). add_if t (merged (zip (take k cs) (take k vs)) (base + i)) (get_or vs k nan)) (ne_eqb c (base + i) f)

      skip : ((i : ℕ) → i < width → c ≡ base + i → ⊥) → Summed cs vs base width (k + 1) sums
      skip f =
          record {
            is = inv.is ∙ each_cong (λ i. merged (zip (take k cs) (take k vs)) (base + i)) (λ i. merged (zip (take (k + 1) cs) (take (k + 1) vs)) (base + i)) width (λ i b. sym (other i (f i b)));
          }

      pub summed_other : (base ≤ c → width ≤ c - base) → Summed cs vs base width (k + 1) sums
      summed_other g = skip (λ i q x. omega (arith, g (omega arith)))

      pub summed_more : (j : ℕ) → c ≡ base + j → j < width → Summed cs vs base width (k + 1) (set sums j (add binary64 (get_or sums j nan) (get_or vs k nan)))
      summed_more j b g =
          record {
            is = each_set nan (λ i. merged (zip (take k cs) (take k vs)) (base + i)) (λ i. merged (zip (take (k + 1) cs) (take (k + 1) vs)) (base + i)) width j sums _ inv.is g here
                (λ i q x. other i (λ y. x (omega arith)));
          }
        where
          here : add binary64 (get_or sums j nan) (get_or vs k nan) ≡ merged (zip (take (k + 1) cs) (take (k + 1) vs)) (base + j)
          here =
              ap (λ (s : Float). add binary64 s (get_or vs k nan))
              (ap (λ (s : List Float). get_or s j nan) inv.is ∙ get_or-each (λ i. merged (zip (take k cs) (take k vs)) (base + i)) width j nan g)
              ∙ sym (merged_more cs vs k c (base + j) h l e
              ∙ ap (λ (t : Bool). add_if t (merged (zip (take k cs) (take k vs)) (base + j)) (get_or vs k nan)) (eq-eqb c (base + j) b))

-- ---- a test of the columns in the window, at one column

module _ (base width c : ℕ) (t : Bool) where
  pub test_before : c < base → true ≡ (not (in_window base width c) || t)
  test_before h = ap (λ (s : Bool). not (s && ltb (c - base) width) || t) (sym (lt-leb base c h))

  pub test_past : base ≤ c → width ≤ c - base → true ≡ (not (in_window base width c) || t)
  test_past h k = ap₂ (λ (r s : Bool). not (r && s) || t) (sym (le-leb base c h)) (sym (le-ltb (c - base) width k))

  pub test_in : base ≤ c → c - base < width → (r : Bool) → r ≡ t → r ≡ (not (in_window base width c) || t)
  test_in h k r e = e ∙ ap₂ (λ (r s : Bool). not (r && s) || t) (sym (le-leb base c h)) (sym (lt-ltb (c - base) width k))

-- the test of the sums, as a loop over the columns finds: what is left decides

module _ (cs : List ℕ) (base : ℕ) (sums : List Float) (k : ℕ) (inv : sums_finite base sums cs ≡ sums_finite base sums (drop k cs)) where
  pub sums_done : length cs ≤ k → true ≡ sums_finite base sums cs
  unfolding sums_finite
  sums_done h = every_done (λ c. not (in_window base (length sums) c) || finite (get_or sums (c - base) nan)) cs k inv h

  -- c is the column at place k, as the code reads it
  module _ (c : ℕ) (h : k < length cs) (e : c ≡ get_or cs k 0) where
    next : true ≡ (not (in_window base (length sums) c) || finite (get_or sums (c - base) nan)) → sums_finite base sums cs ≡ sums_finite base sums (drop (k + 1) cs)
    unfolding sums_finite
    next t =
        every_more (λ c. not (in_window base (length sums) c) || finite (get_or sums (c - base) nan)) cs k inv 0 h
        (t ∙ ap (λ (c : ℕ). not (in_window base (length sums) c) || finite (get_or sums (c - base) nan)) e)

    pub sums_other : (base ≤ c → length sums ≤ c - base) → sums_finite base sums cs ≡ sums_finite base sums (drop (k + 1) cs)
    sums_other g = go (dec_lt c base)
      where
        go : Dec (c < base) → sums_finite base sums cs ≡ sums_finite base sums (drop (k + 1) cs)
        go (yes b) = next (test_before base (length sums) c (finite (get_or sums (c - base) nan)) b)
        go (no b) = next (test_past base (length sums) c (finite (get_or sums (c - base) nan)) (omega arith) (g (omega arith)))

    -- t is the test of the column's sum, as the code finds it
    module _ (i : ℕ) (b : c ≡ base + i) (g : i < length sums) (t : Bool) (f : t ≡ finite (get_or sums i nan)) where
      found : t ≡ finite (get_or sums (c - base) nan)
      found = let z : i ≡ c - base = omega arith in f ∙ ap (λ (j : ℕ). finite (get_or sums j nan)) z

      pub sums_more : not t ≡ false → sums_finite base sums cs ≡ sums_finite base sums (drop (k + 1) cs)
      sums_more q = next (test_in base (length sums) c (finite (get_or sums (c - base) nan)) (omega arith) (omega arith) true (flag_on (finite (get_or sums (c - base) nan)) t found q))

      pub sums_fails : not t ≡ true → false ≡ sums_finite base sums cs
      unfolding sums_finite
      sums_fails q =
          every_fails (λ c. not (in_window base (length sums) c) || finite (get_or sums (c - base) nan)) cs k inv 0 h
          (test_in base (length sums) c (finite (get_or sums (c - base) nan)) (omega arith) (omega arith) false (flag_off (finite (get_or sums (c - base) nan)) t found q)
          ∙ ap (λ (c : ℕ). not (in_window base (length sums) c) || finite (get_or sums (c - base) nan)) e)

-- ---- the window of a whole row

-- the first m places of an array of n zeros
pub window_start : (m n : ℕ) → 0 < m → m ≤ n → n ≤ 2 ^ 20
    → ((0 < length (take m (replicate n zero64))) × (length (take m (replicate n zero64)) ≤ 2 ^ 20)) × (take m (replicate n zero64) ≡ replicate (length (take m (replicate n zero64))) zero64)
window_start m n h k f =
    let e : length (take m (replicate n zero64)) ≡ m = length-take-le m (replicate n zero64) (omega (arith, length-replicate n zero64)) in
    ((omega arith, omega arith), zeros_as (take m (replicate n zero64)) m (length (take m (replicate n zero64))) (zeros_front zero64 m n k) (sym e))

module _ (cs : List ℕ) (vs : List Float) (base width : ℕ) (sums : List Float) (l : length vs ≡ length cs) (e : sums ≡ each (λ i. merged (zip cs vs) (base + i)) width) where
  sums_length : length sums ≡ width
  sums_length = ap length e ∙ length-each (λ i. merged (zip cs vs) (base + i)) width

  sum-at : (i : ℕ) → i < width → get_or sums i nan ≡ merged (zip cs vs) (base + i)
  sum-at i h = ap (λ (s : List Float). get_or s i nan) e ∙ get_or-each (λ i. merged (zip cs vs) (base + i)) width i nan h

  pub window_outside : Outside cs base sums
  window_outside = record { zeros = λ i h s. sum-at i (omega (arith, sums_length)) ∙ merged_absent (zip cs vs) (base + i) (present_columns cs vs (base + i) (sym l) ∙ s) }

  pub window_test : (r : Bool) → r ≡ sums_finite base sums cs → r ≡ window_finite base width cs vs
  unfolding sums_finite window_finite
  window_test r q = q ∙ ap (λ (p : ℕ → Bool). every p cs) (λ j c. one c j)
    where
      at : (c : ℕ) → Dec (c < base) → Dec (c - base < width) → (not (in_window base width c) || finite (get_or sums (c - base) nan)) ≡ (not (in_window base width c) || finite (merged (zip cs vs) c))
      at c (yes x) y = sym (test_before base width c (finite (get_or sums (c - base) nan)) x) ∙ test_before base width c (finite (merged (zip cs vs) c)) x
      at c (no x) (no y) = sym (test_past base width c (finite (get_or sums (c - base) nan)) (omega arith) (omega arith)) ∙ test_past base width c (finite (merged (zip cs vs) c)) (omega arith) (omega arith)
      at c (no x) (yes y) =
          let z : base + (c - base) ≡ c = omega arith in
          ap (λ (f : Float). not (in_window base width c) || finite f) (sum-at (c - base) y ∙ ap (merged (zip cs vs)) z)

      one : (c : ℕ) → (not (in_window base (length sums) c) || finite (get_or sums (c - base) nan)) ≡ (not (in_window base width c) || finite (merged (zip cs vs) c))
      one c = ap (λ (n : ℕ). not (in_window base n c) || finite (get_or sums (c - base) nan)) sums_length ∙ at c (dec_lt c base) (dec_lt (c - base) width)

-- ---- a row's windows taken together: the columns below base have finite merged values

pub record Searched (cs : List ℕ) (vs : List Float) (base : ℕ) : Type 0 where
  pub is : every (λ c. leb base c || finite (merged (zip cs vs) c)) cs ≡ true

module _ (cs : List ℕ) (vs : List Float) where
  pub searched_none : Searched cs vs 0
  searched_none = record { is = every-all (λ c. leb 0 c || finite (merged (zip cs vs) c)) cs (λ c. ap (λ (t : Bool). t || finite (merged (zip cs vs) c)) (le-leb 0 c (omega arith))) }

  pub searched_more : (base n width : ℕ) → Searched cs vs base → true ≡ window_finite base n cs vs → n ≡ width → Searched cs vs (base + width)
  unfolding window_finite
  searched_more base n width inv e h =
      record {
        is = every_by (λ c. leb base c || finite (merged (zip cs vs) c)) (λ c. not (in_window base width c) || finite (merged (zip cs vs) c)) (λ c. leb (base + width) c || finite (merged (zip cs vs) c)) cs
            (λ c. one c (finite (merged (zip cs vs) c)) (dec_lt c base) (dec_lt (c - base) width)) inv.is (ap (λ (k : ℕ). window_finite base k cs vs) (sym h) ∙ sym e);
      }
    where
      one : (c : ℕ) (t : Bool) → Dec (c < base) → Dec (c - base < width) → (leb base c || t) ≡ true → (not (in_window base width c) || t) ≡ true → (leb (base + width) c || t) ≡ true
      one c t (yes x) y p q = ap (λ (s : Bool). s || t) (lt-leb (base + width) c (omega arith) ∙ sym (lt-leb base c x)) ∙ p
      one c t (no x) (no y) p q = ap (λ (s : Bool). s || t) (le-leb (base + width) c (omega arith))
      one c t (no x) (yes y) p q = ap (λ (s : Bool). s || t) (lt-leb (base + width) c (omega arith)) ∙ test_in base width c t (omega arith) y t refl ∙ q

module _ (n : ℕ) (cs : List ℕ) (vs : List Float) (same : length vs ≡ length cs) (inside : every (λ c. ltb c n) cs ≡ true) where
  pub searched_done : (base : ℕ) → Searched cs vs base → n ≤ base → true ≡ every finite (row_values n (zip cs vs))
  searched_done base inv h =
      sym (sym (row_finite n cs vs same inside)
      ∙ every_by (λ c. ltb c n) (λ c. leb base c || finite (merged (zip cs vs) c)) (λ c. finite (merged (zip cs vs) c)) cs
      (λ c p q. ap (λ (s : Bool). s || finite (merged (zip cs vs) c)) (sym (lt-leb base c (omega (arith, ltb-true c n p)))) ∙ q) inside inv.is)

  pub searched_fails : (base width : ℕ) → false ≡ window_finite base width cs vs → false ≡ every finite (row_values n (zip cs vs))
  unfolding window_finite
  searched_fails base width e = go (every (λ c. finite (merged (zip cs vs) c)) cs) refl ∙ row_finite n cs vs same inside
    where
      go : (t : Bool) → every (λ c. finite (merged (zip cs vs) c)) cs ≡ t → false ≡ t
      go true x =
          absurd (false≢true (e
          ∙ every_by (λ c. finite (merged (zip cs vs) c)) (λ c. finite (merged (zip cs vs) c)) (λ c. not (in_window base width c) || finite (merged (zip cs vs) c)) cs
          (λ c p q. ap (λ (t : Bool). not (in_window base width c) || t) p ∙ or-true (not (in_window base width c))) x x))
      go false x = refl
