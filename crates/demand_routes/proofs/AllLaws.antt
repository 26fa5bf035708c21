-- The mask with every column active, the dot with it, and a restriction before them. Assumes nothing.
use Rattle.std.specs.Prelude.{Result, Ok, Err}
use mathlib.Core.Bool.{Bool, true, ◌&&◌}
use mathlib.Core.List.{List, [], ◌++◌}
use mathlib.Core.Path.{◌≡◌, refl, sym, ap, subst, ◌∙◌}
use Prim.Native.Nat.{ℕ, ◌+◌, ◌-◌, ◌*◌, ◌^◌, ◌≤◌, ◌<◌}
use native.Mathlib.Omega.{arith}
use lib.Dec.{ltb}
use lib.ListN.{length, take, drop}
use lib.Ieee.{Float}
use borrow.Author.Tests.{ltb-true, lt-ltb}
use Rattle.hybit_core.specs.Answer.{plain, Answer, accepted, refused, Given, refuses, demand, answers, ◌and_then◌}
use Rattle.hybit_core.specs.Floats.{zero64}
use Rattle.hybit_core.specs.Table.{given, paper}
use Rattle.hybit_core.specs.declared.HybitError.{HybitError}
use Rattle.hybit_core.proofs.BoolLaws.{and_left, same_test, is_within, is_above}
use Rattle.lent.specs.Lists.{each}
use Rattle.lent.specs.Lent.{padded, built}
use Rattle.lent.proofs.LentLaws.{handed_used, cleared_front}
use Rattle.word.specs.Bits.{has, word_of, mask_of, ceil64}
use Rattle.word.proofs.HasLaws.{has-ones}
use Rattle.word.proofs.OpLaws.{word_cong}
use Rattle.mask.specs.Mask.{Mask, as_mask, mask_words, all_active}
use Rattle.mask.proofs.MaskLaws.{length-words}
use Rattle.csr32.specs.Csr.{Csr, as_csr}
use Rattle.csr32.specs.Made.{csr_of, as_csr_room}
use Rattle.metadata_first.specs.declared.AbtmRowDot.{AbtmRowDot}
use Rattle.metadata_first_build.specs.Pack.{StoreRoom, store_of, pack_answer}
use Rattle.restricted.specs.declared.ColumnRestriction.{ColumnRestriction}
use Rattle.restricted.specs.Restricted.{restricted, restrict_answer, restricted_left, restriction_of}
use Rattle.restricted_csr32.proofs.FillLaws.{Restrictable, restrict_facts, kept_values}
use Rattle.demand_examine.specs.Steps.{after, PlotLists}
use Rattle.demand_routes.specs.Routes.{packed_dot, StoreLists, all_answer, all_dot, restricted_dot}
use Rattle.demand_examine.proofs.StepLaws.{gave, refused_as, plot_lent}

-- ---- its words

pub active_word : (n w r : ℕ) → r ≡ word_of (λ i. has 18446744073709551615 i && ltb i (n - 64 * w)) → r ≡ mask_of (λ c. true) n w
unfolding mask_of
active_word n w r e =
    e
    ∙ word_cong (λ i. has 18446744073709551615 i && ltb i (n - 64 * w)) (λ i. ltb (64 * w + i) n && true)
    (λ i h. ap (λ (b : Bool). b && ltb i (n - 64 * w)) (has-ones 64 i h)
    ∙ same_test (ltb i (n - 64 * w)) (ltb (64 * w + i) n && true) (λ p. ap (λ (b : Bool). b && true) (lt-ltb (64 * w + i) n (let q = ltb-true i (n - 64 * w) p in omega arith)))
    (λ p. lt-ltb i (n - 64 * w) (let q = ltb-true (64 * w + i) n (and_left (ltb (64 * w + i) n) true p) in omega arith)))

-- front: the words, written to the first w places of old
pub all_filled : (n w : ℕ) (front old last : List ℕ) → front ≡ mask_words (λ c. true) n → w ≡ ceil64 n → w ≤ length old → last ≡ padded 0 (length (front ++ drop w old)) (take w (front ++ drop w old)) → last ≡ padded 0 (length old) (mask_words (λ c. true) n)
unfolding mask_words
all_filled n w front old last ef ew h q =
    cleared_front 0 w (mask_of (λ c. true) n) front old last (ef ∙ ap (each (mask_of (λ c. true) n)) (sym ew)) h q ∙ ap (λ (i : ℕ). padded 0 (length old) (each (mask_of (λ c. true) n) i)) ew

-- ---- the dot with it

module _ (m : Csr) (n : ℕ) where
  pub all_short : n < ceil64 m.cols → all_answer m n ≡ refused (plain 13)
  unfolding all_answer
  all_short h = ap (λ (b : Bool). demand b 13) (sym (is_above (ceil64 m.cols) n h))

  pub all_fits : ceil64 m.cols ≤ n → all_answer m n ≡ accepted
  unfolding all_answer
  all_fits h = ap (λ (b : Bool). demand b 13) (sym (is_within (ceil64 m.cols) n h))

  module _ (x : List Float) (r : ℕ) (rp : StoreRoom) (oa op ow om ov : List ℕ) (ox : List Float) where
    abbrev Outcome : Given AbtmRowDot → Type 0
    Outcome g = (g ≡ all_dot m x r n rp) × ((oa ≡ built 0 n (all_answer m n) (mask_words (λ c. true) m.cols)) × StoreLists (all_answer m n and_then pack_answer m rp) (store_of m) rp op ow om ov ox)

    pub all_none : n < ceil64 m.cols → oa ≡ padded 0 n [] → op ≡ padded 0 rp.words.ptr [] → ow ≡ padded 0 rp.words.word [] → om ≡ padded 0 rp.words.mask [] → ov ≡ padded 0 rp.vptr [] → ox ≡ padded zero64 rp.vals []
        → Outcome (refuses (plain 13))
    unfolding all_dot
    all_none h ea ep ew em ev ex =
        subst (λ (t : Answer). (refuses (plain 13) ≡ after t (packed_dot m rp (all_active m.cols) x r)) × ((oa ≡ built 0 n t (mask_words (λ c. true) m.cols)) × StoreLists (t and_then pack_answer m rp) (store_of m) rp op ow om ov ox))
        (sym (all_short h)) (refl, (ea, record { pointers = ep; numbers = ew; bits = em; starts = ev; values = ex }))

    pub all-some : (g : Given AbtmRowDot) (w : ℕ) → ceil64 m.cols ≤ n → w ≡ ceil64 m.cols → oa ≡ padded 0 n (mask_words (λ c. true) m.cols) → g ≡ packed_dot m rp (as_mask m.cols (take w oa)) x r
        → StoreLists (pack_answer m rp) (store_of m) rp op ow om ov ox → Outcome g
    unfolding all_dot
    all-some g w h ew ea eg es =
        let words : take w oa ≡ mask_words (λ c. true) m.cols = ap (take w) ea ∙ handed_used 0 n accepted w (mask_words (λ c. true) m.cols) refl (length-words (λ c. true) m.cols ∙ sym ew) in
        subst (λ (t : Answer). (g ≡ after t (packed_dot m rp (all_active m.cols) x r)) × ((oa ≡ built 0 n t (mask_words (λ c. true) m.cols)) × StoreLists (t and_then pack_answer m rp) (store_of m) rp op ow om ov ox))
        (sym (all_fits h)) (eg ∙ ap (λ (l : List ℕ). packed_dot m rp (as_mask m.cols l) x r) words, (ea, es))

-- ---- a restriction, which answered t, in lists of np, nc and nv places

module _ (m : Csr) (a : Mask) (np nc nv : ℕ) (t : Result ColumnRestriction HybitError) (e : given t ≡ answers (restrict_answer m a (as_csr_room np nc nv)) (restriction_of m a)) where
  module _ (x : List Float) (r n : ℕ) (rp : StoreRoom) (oa op ow om ov : List ℕ) (ox : List Float) (lp lc : List ℕ) (lv : List Float) (ls : PlotLists (restrict_answer m a (as_csr_room np nc nv)) (restricted m a) (as_csr_room np nc nv) lp lc lv) where
    abbrev left : Csr
    left = restricted_left m a (as_csr_room np nc nv)

    abbrev Restricts : Given AbtmRowDot → Type 0
    Restricts g =
        (g ≡ restricted_dot m a x r (as_csr_room np nc nv) n rp)
        × (PlotLists (restrict_answer m a (as_csr_room np nc nv)) (restricted m a) (as_csr_room np nc nv) lp lc lv
        × ((oa ≡ built 0 n (restrict_answer m a (as_csr_room np nc nv) and_then all_answer left n) (mask_words (λ c. true) m.cols))
        × StoreLists (restrict_answer m a (as_csr_room np nc nv) and_then all_answer left n and_then pack_answer left rp) (store_of left) rp op ow om ov ox))

    pub restrict_none : (q : HybitError) → t ≡ Err q → oa ≡ padded 0 n [] → op ≡ padded 0 rp.words.ptr [] → ow ≡ padded 0 rp.words.word [] → om ≡ padded 0 rp.words.mask [] → ov ≡ padded 0 rp.vptr []
        → ox ≡ padded zero64 rp.vals [] → Restricts (refuses (paper q))
    unfolding restricted_dot
    restrict_none q k ea ep ew em ev ex =
        let z : restrict_answer m a (as_csr_room np nc nv) ≡ refused (paper q) = refused_as (restrict_answer m a (as_csr_room np nc nv)) (restriction_of m a) (paper q) (sym (ap given k) ∙ e) in
        let y = subst (λ (s : Answer). (refuses (paper q) ≡ after s (all_dot left x r n rp)) × ((oa ≡ built 0 n (s and_then all_answer left n) (mask_words (λ c. true) m.cols)) × StoreLists (s and_then all_answer left n and_then pack_answer left rp) (store_of left) rp op ow om ov ox))
        (sym z) (refl, (ea, record { pointers = ep; numbers = ew; bits = em; starts = ev; values = ex })) in
        (y.0, (ls, (y.1.0, y.1.1)))

    module _ (s : ColumnRestriction) (k : t ≡ Ok s) where
      made : (restrict_answer m a (as_csr_room np nc nv) ≡ accepted) × (s ≡ restriction_of m a)
      made = gave (restrict_answer m a (as_csr_room np nc nv)) (restriction_of m a) s (sym (ap given k) ∙ e)

      kept_is : s.retained_nnz ≡ length (restricted m a).val
      unfolding restriction_of
      kept_is = ap (λ (i : ColumnRestriction). i.retained_nnz) made.1

      lent_is : as_csr m.rows m.cols (take (m.rows + 1) lp) (take s.retained_nnz lc) (take s.retained_nnz lv) ≡ left
      unfolding restricted csr_of
      lent_is = plot_lent (restrict_answer m a (as_csr_room np nc nv)) (restricted m a) (as_csr_room np nc nv) s.retained_nnz lp lc lv ls kept_is

      pub restrict_some : (g : Given AbtmRowDot) (l : Csr) → l ≡ as_csr m.rows m.cols (take (m.rows + 1) lp) (take s.retained_nnz lc) (take s.retained_nnz lv) → g ≡ all_dot l x r n rp → oa ≡ built 0 n (all_answer l n) (mask_words (λ c. true) m.cols)
          → StoreLists (all_answer l n and_then pack_answer l rp) (store_of l) rp op ow om ov ox → Restricts g
      unfolding restricted_dot
      restrict_some g l el eg ea es =
          let y = subst (λ (i : Csr). (g ≡ all_dot i x r n rp) × ((oa ≡ built 0 n (all_answer i n) (mask_words (λ c. true) m.cols)) × StoreLists (all_answer i n and_then pack_answer i rp) (store_of i) rp op ow om ov ox)) (el ∙ lent_is) (eg, (ea, es)) in
          let w = subst (λ (i : Answer). (g ≡ after i (all_dot left x r n rp)) × ((oa ≡ built 0 n (i and_then all_answer left n) (mask_words (λ c. true) m.cols)) × StoreLists (i and_then all_answer left n and_then pack_answer left rp) (store_of left) rp op ow om ov ox)) (sym made.0) y in
          (w.0, (ls, (w.1.0, w.1.1)))

  -- the used parts lie in their lists
  module _ (s : ColumnRestriction) (k : t ≡ Ok s) where
    pub record RestrictUsed : Type 0 where
      pub rows_in : m.rows ≤ 2 ^ 20
      pub cols_in : m.cols ≤ 2 ^ 20
      pub ptr_in : m.rows + 1 ≤ np
      pub col_in : s.retained_nnz ≤ nc
      pub val_in : s.retained_nnz ≤ nv

    pub restrict_used : RestrictUsed
    unfolding restriction_of
    restrict_used =
        let b = gave (restrict_answer m a (as_csr_room np nc nv)) (restriction_of m a) s (sym (ap given k) ∙ e) in
        let f : Restrictable m a (as_csr_room np nc nv) = restrict_facts m a (as_csr_room np nc nv) b.0 in
        let q : s.retained_nnz ≡ length (restricted m a).val = ap (λ (i : ColumnRestriction). i.retained_nnz) b.1 in
        record { rows_in = f.list.rows_in; cols_in = f.list.cols_in; ptr_in = omega (arith, f.pointers); col_in = omega (arith, f.columns, kept_values m a); val_in = omega (arith, f.values, kept_values m a) }
