-- Laws of a window of a row: marks, its sums entry after entry without the stored zeros. Assumes nothing.
use mathlib.Core.Bool.{Bool, true, false, not, ◌&&◌, and-false}
use mathlib.Core.List.{List, [], ◌∷◌, ◌++◌, zip, zip_with, append-nil}
use mathlib.Core.Path.{◌≡◌, sym, ap, ap₂, subst, ◌∙◌}
use Prim.Native.Nat.{ℕ, min, ◌+◌, ◌-◌, ◌/◌, ◌≤◌, ◌<◌}
use native.Mathlib.Decide.{dec_lt}
use native.Mathlib.Omega.{arith}
use lib.Dec.{eqb}
use lib.ListN.{length, get_or, take, set, replicate, length-set, length-replicate, get_or-replicate}
use lib.Seq.{get_or-set_same, get_or-set_other}
use lib.Ieee.{Float, nan, binary64, add}
use borrow.Author.Tests.{eq-eqb, ne_eqb}
use Rattle.hybit_core.specs.Floats.{zero64}
use Rattle.lent.specs.Lists.{cons_if, each, only}
use Rattle.lent.proofs.ListLaws.{get_or-each, each_set, each_cong, each_is, only-append}
use Rattle.csr32.specs.Csr.{Entry, merged}
use Rattle.csr32.proofs.MergedLaws.{add_if, merged-none, merged_snoc, firsts_all, zip_snoc}
use Rattle.abtm_values.specs.Values.{is_zero, merged_nonzero}
use Rattle.abtm_build.specs.Window.{Marked, Sized, Next}

-- ---- sizes and marks

pub sized_as : (a b c k m n : ℕ) → k ≡ a → m ≡ b → n ≡ c → Sized a b c → Sized k m n
sized_as a b c k m n p q r s = record { words_are = omega (arith, s.words_are); blocks_are = omega (arith, s.blocks_are); some_block = omega (arith, s.some_block); few_blocks = omega (arith, s.few_blocks) }

-- 0.0 everywhere agrees with any marks
pub marked_zeros : (size n : ℕ) (sums : List Float) (marks : List ℕ) → sums ≡ replicate n zero64 → length sums ≡ n → Marked size sums marks
marked_zeros size n sums marks e l = record { zeros = λ i h m. ap (λ (s : List Float). get_or s i nan) e ∙ get_or-replicate n i zero64 nan (omega arith) }

-- a sum changes, and its mark is set
pub marked-set : (size : ℕ) (sums : List Float) (marks : List ℕ) (i : ℕ) (v : Float) → i / size < length marks → Marked size sums marks → Marked size (set sums i v) (set marks (i / size) 1)
marked-set size sums marks i v h inv = record { zeros = λ j b m. go j (dec_lt (j / size) (i / size)) (dec_lt (i / size) (j / size)) (omega (arith, length-set sums i v)) m }
  where
    other : (j : ℕ) → (j / size ≡ i / size → ⊥) → j < length sums → get_or (set marks (i / size) 1) (j / size) 0 ≡ 0 → get_or (set sums i v) j nan ≡ zero64
    other j f b m =
        get_or-set_other sums i j v nan (λ e. f (ap (λ (k : ℕ). k / size) e))
        ∙ inv.zeros j b (sym (get_or-set_other marks (i / size) (j / size) 1 0 f) ∙ m)

    go : (j : ℕ) → Dec (j / size < i / size) → Dec (i / size < j / size) → j < length sums → get_or (set marks (i / size) 1) (j / size) 0 ≡ 0 → get_or (set sums i v) j nan ≡ zero64
    go j (yes x) y b m = other j (λ e. omega arith) b m
    go j (no x) (yes y) b m = other j (λ e. omega arith) b m
    go j (no x) (no y) b m =
        let e : j / size ≡ i / size = omega arith in
        let s : get_or (set marks (i / size) 1) (j / size) 0 ≡ 1 = ap (λ (k : ℕ). get_or (set marks (i / size) 1) k 0) e ∙ get_or-set_same marks (i / size) 1 0 h in
        absurd (omega (arith, s, m))

-- ---- merged values without the stored zeros, one entry more

abbrev nonzero : Entry → Bool
nonzero e = not (is_zero e.1)

nonzero-none : (c : ℕ) → merged_nonzero [] c ≡ zero64
unfolding merged_nonzero only
nonzero-none c = merged-none c

kept_snoc : (es : List Entry) (d : ℕ) (v : Float) (c : ℕ) (t : Bool) → merged (only nonzero es ++ cons_if t (d, v) []) c ≡ add_if (t && eqb d c) (merged (only nonzero es) c) v
kept_snoc es d v c true = merged_snoc (only nonzero es) d v c
kept_snoc es d v c false = ap (λ (l : List Entry). merged l c) (append-nil (only nonzero es))

nonzero_snoc : (es : List Entry) (d : ℕ) (v : Float) (c : ℕ) → merged_nonzero (es ++ ((d, v) ∷ [])) c ≡ add_if (not (is_zero v) && eqb d c) (merged_nonzero es c) v
unfolding merged_nonzero only
nonzero_snoc es d v c = ap (λ (l : List Entry). merged l c) (only-append nonzero es ((d, v) ∷ [])) ∙ kept_snoc es d v c (not (is_zero v))

-- d is the column and v the value of entry k, as the code reads them
nonzero_more : (cs : List ℕ) (vs : List Float) (k d c : ℕ) (v : Float) → k < length cs → length vs ≡ length cs → d ≡ get_or cs k 0 → v ≡ get_or vs k nan
    → merged_nonzero (zip (take (k + 1) cs) (take (k + 1) vs)) c ≡ add_if (not (is_zero v) && eqb d c) (merged_nonzero (zip (take k cs) (take k vs)) c) v
nonzero_more cs vs k d c v h l e f =
    ap (λ (es : List Entry). merged_nonzero es c) (zip_snoc cs vs k h (omega arith))
    ∙ nonzero_snoc (zip (take k cs) (take k vs)) (get_or cs k 0) (get_or vs k nan) c
    ∙ ap₂ (λ (n : ℕ) (x : Float). add_if (not (is_zero x) && eqb n c) (merged_nonzero (zip (take k cs) (take k vs)) c) x) (sym e) (sym f)

-- ---- the window and the next column after k entries

pub record Gathered (cs : List ℕ) (vs : List Float) (base width k : ℕ) (sums : List Float) (next : ℕ) : Type 0 where
  pub is : sums ≡ each (λ i. merged_nonzero (zip (take k cs) (take k vs)) (base + i)) width
  pub after : base + width ≤ next
  pub none : (c : ℕ) → base + width ≤ c → c < next → merged_nonzero (zip (take k cs) (take k vs)) c ≡ zero64

module _ (cs : List ℕ) (vs : List Float) (base width : ℕ) where
  pub gathered_none : (sums : List Float) (past : ℕ) → sums ≡ replicate width zero64 → base + width ≤ past → Gathered cs vs base width 0 sums past
  unfolding zip zip_with
  gathered_none sums past e h =
      record {
        is = e ∙ each_is nan (λ i. merged_nonzero [] (base + i)) width (replicate width zero64) (length-replicate width zero64) (λ i b. get_or-replicate width i zero64 nan b ∙ sym (nonzero-none (base + i)));
        after = h;
        none = λ c a b. nonzero-none c;
      }

  pub gathered_as : (k next : ℕ) (s t : List Float) → t ≡ s → Gathered cs vs base width k s next → Gathered cs vs base width k t next
  gathered_as k next s t e inv = subst (λ (u : List Float). Gathered cs vs base width k u next) (sym e) inv

  pub gathered-at : (k : ℕ) (sums : List Float) (m n : ℕ) → n ≡ m → Gathered cs vs base width k sums m → Gathered cs vs base width k sums n
  gathered-at k sums m n e inv = subst (λ (u : ℕ). Gathered cs vs base width k sums u) (sym e) inv

  module _ (k : ℕ) (sums : List Float) (next : ℕ) (inv : Gathered cs vs base width k sums next) where
    pub gathered_done : length cs ≤ k → length vs ≡ length cs → sums ≡ each (λ i. merged_nonzero (zip cs vs) (base + i)) width
    gathered_done h l = inv.is ∙ ap (λ (es : List Entry). each (λ i. merged_nonzero es (base + i)) width) (firsts_all cs vs k h l)

    pub gathered_next : length cs ≤ k → length vs ≡ length cs → Next (zip cs vs) (base + width) next
    gathered_next h l = record { after = inv.after; none = λ c a b. ap (λ (es : List Entry). merged_nonzero es c) (sym (firsts_all cs vs k h l)) ∙ inv.none c a b }

    -- c is the column and v the value of entry k, as the code reads them
    module _ (c : ℕ) (v : Float) (h : k < length cs) (l : length vs ≡ length cs) (e : c ≡ get_or cs k 0) (f : v ≡ get_or vs k nan) where
      more : (t : Bool) (d : ℕ) → (not (is_zero v) && eqb c d) ≡ t → merged_nonzero (zip (take (k + 1) cs) (take (k + 1) vs)) d ≡ add_if t (merged_nonzero (zip (take k cs) (take k vs)) d) v
      more t d q = nonzero_more cs vs k c d v h l e f ∙ ap (λ (b : Bool). add_if b (merged_nonzero (zip (take k cs) (take k vs)) d) v) q

      other : (d : ℕ) → (c ≡ d → ⊥) → merged_nonzero (zip (take (k + 1) cs) (take (k + 1) vs)) d ≡ merged_nonzero (zip (take k cs) (take k vs)) d
      other d g = more false d (ap (λ (b : Bool). not (is_zero v) && b) (ne_eqb c d g) ∙ and-false (not (is_zero v)))

      same : ((i : ℕ) → i < width → merged_nonzero (zip (take (k + 1) cs) (take (k + 1) vs)) (base + i) ≡ merged_nonzero (zip (take k cs) (take k vs)) (base + i)) → sums ≡ each (λ i. merged_nonzero (zip (take (k + 1) cs) (take (k + 1) vs)) (base + i)) width
      same g = inv.is ∙ each_cong (λ i. merged_nonzero (zip (take k cs) (take k vs)) (base + i)) (λ i. merged_nonzero (zip (take (k + 1) cs) (take (k + 1) vs)) (base + i)) width (λ i b. sym (g i b))

      -- a stored zero
      pub gathered-zero : is_zero v ≡ true → Gathered cs vs base width (k + 1) sums next
      gathered-zero z = record { is = same (λ i b. skip (base + i)); after = inv.after; none = λ d a b. skip d ∙ inv.none d a b }
        where
          skip : (d : ℕ) → merged_nonzero (zip (take (k + 1) cs) (take (k + 1) vs)) d ≡ merged_nonzero (zip (take k cs) (take k vs)) d
          skip d = more false d (ap (λ (b : Bool). not b && eqb c d) z)

      pub gathered_before : c < base → Gathered cs vs base width (k + 1) sums next
      gathered_before b = record { is = same (λ i q. other (base + i) (λ x. omega arith)); after = inv.after; none = λ d a q. other d (λ x. omega arith) ∙ inv.none d a q }

      pub gathered-past : base ≤ c → width ≤ c - base → Gathered cs vs base width (k + 1) sums (min next c)
      gathered-past b g =
          record {
            is = same (λ i q. other (base + i) (λ x. omega arith));
            after = omega (arith, inv.after);
            none = λ d a q. other d (λ x. omega arith) ∙ inv.none d a (omega arith);
          }

      pub gathered_in : is_zero v ≡ false → (j : ℕ) → c ≡ base + j → j < width → Gathered cs vs base width (k + 1) (set sums j (add binary64 (get_or sums j nan) v)) next
      gathered_in z j b g =
          record {
            is = each_set nan (λ i. merged_nonzero (zip (take k cs) (take k vs)) (base + i)) (λ i. merged_nonzero (zip (take (k + 1) cs) (take (k + 1) vs)) (base + i)) width j sums _ inv.is g here
                (λ i q x. other (base + i) (λ y. x (omega arith)));
            after = inv.after;
            none = λ d a q. other d (λ x. omega arith) ∙ inv.none d a q;
          }
        where
          here : add binary64 (get_or sums j nan) v ≡ merged_nonzero (zip (take (k + 1) cs) (take (k + 1) vs)) (base + j)
          here =
              ap (λ (s : Float). add binary64 s v)
              (ap (λ (s : List Float). get_or s j nan) inv.is ∙ get_or-each (λ i. merged_nonzero (zip (take k cs) (take k vs)) (base + i)) width j nan g)
              ∙ sym (more true (base + j) (ap₂ (λ (r s : Bool). not r && s) z (eq-eqb c (base + j) b)))
