-- Laws of the routes: what a call's answer says of its record and used parts, and what the next call is handed. Assumes nothing.
use Rattle.std.specs.Prelude.{Result, Ok, Err}
use mathlib.Core.Bool.{Bool, true, ◌&&◌}
use mathlib.Core.List.{List}
use mathlib.Core.Path.{◌≡◌, sym, ap, ap₂, ◌∙◌}
use Prim.Native.Nat.{ℕ, ◌+◌, ◌^◌, ◌≤◌}
use native.Mathlib.Numerals.{add-one}
use native.Mathlib.Omega.{arith}
use lib.Dec.{leb}
use lib.ListN.{length, take}
use lib.Ieee.{Float}
use borrow.Author.Tests.{leb-true}
use Rattle.hybit_core.specs.Answer.{accepted, Given, refuses, answers}
use Rattle.hybit_core.specs.Floats.{zero64}
use Rattle.hybit_core.specs.Table.{paper, given}
use Rattle.hybit_core.specs.declared.HybitError.{HybitError}
use Rattle.hybit_core.proofs.BoolLaws.{and_left, and_right}
use Rattle.lent.specs.Lent.{built}
use Rattle.mask.specs.Mask.{Mask}
use Rattle.csr32.specs.Csr.{Csr, entries, present}
use Rattle.csr32.proofs.CsrLaws.{valid}
use Rattle.topology.specs.declared.TopologySize.{TopologySize}
use Rattle.topology.specs.Calls.{fits_words, as_size, used_of}
use Rattle.topology.proofs.TopologyLaws.{topology_pointers, topology_sides}
use Rattle.topology_build.specs.Build.{topology_from}
use Rattle.metadata_first.specs.declared.AbtmRowDot.{AbtmRowDot}
use Rattle.metadata_first.specs.Store.{Store, as_store, packed_of}
use Rattle.metadata_first.specs.Dot.{sparse_dot_row}
use Rattle.metadata_first_build.specs.Pack.{as_store_room, store_of, pack_answer, packed}
use Rattle.metadata_first_build.proofs.AnswerLaws.{Packs, packs}
use Rattle.demand_routes.specs.Routes.{packed_dot}
use Rattle.demand_examine.proofs.StepLaws.{gave, refused_as, after_refused, after_accepted}

-- ---- packing, which answered t, in lists of np, nw, nm, nv and nx places

module _ (m : Csr) (np nw nm nv nx : ℕ) (t : Result TopologySize HybitError) (e : given t ≡ answers (pack_answer m (as_store_room np nw nm nv nx)) (used_of (store_of m).words)) where
  pub pack_refused : (x : HybitError) → t ≡ Err x → (a : Mask) (y : List Float) (r : ℕ) → refuses (paper x) ≡ packed_dot m (as_store_room np nw nm nv nx) a y r
  unfolding packed_dot
  pack_refused x k a y r =
      after_refused (pack_answer m (as_store_room np nw nm nv nx)) (sparse_dot_row (packed m (as_store_room np nw nm nv nx)) a y r) (paper x)
      (refused_as (pack_answer m (as_store_room np nw nm nv nx)) (used_of (store_of m).words) (paper x) (sym (ap given k) ∙ e))

  module _ (w n : ℕ) (k : t ≡ Ok (as_size w n)) where
    made : (pack_answer m (as_store_room np nw nm nv nx) ≡ accepted) × (as_size w n ≡ used_of (store_of m).words)
    made = gave (pack_answer m (as_store_room np nw nm nv nx)) (used_of (store_of m).words) (as_size w n) (sym (ap given k) ∙ e)

    words_are : w ≡ length (store_of m).words.word
    words_are = ap (λ (i : TopologySize). i.words) made.1

    total_is : n ≡ (store_of m).words.total
    total_is = ap (λ (i : TopologySize). i.structural_nnz) made.1

    -- the used parts lie in their lists
    pub record PackUsed : Type 0 where
      pub rows_in : m.rows ≤ 2 ^ 20
      pub ptr_in : m.rows + 1 ≤ np
      pub word_in : w ≤ nw
      pub mask_in : w ≤ nm
      pub vptr_in : m.rows + 1 ≤ nv
      pub vals_in : n ≤ nx

    pub pack_used : PackUsed
    unfolding fits_words store_of packed_of
    pack_used =
        let k1 : Packs m np nw nm nv nx = packs m np nw nm nv nx made.0 in
        let fp : Bool = leb (length (topology_from m).ptr) np in
        let fw : Bool = leb (length (topology_from m).word) nw in
        let fm : Bool = leb (length (topology_from m).mask) nm in
        let q : (fp && fw && fm) ≡ true = k1.fits in
        record {
          rows_in = (valid m k1.list).rows_in;
          ptr_in = omega (arith, topology_pointers m.rows m.cols (λ r. present (entries m r)), leb-true (length (topology_from m).ptr) np (and_left fp fw (and_left (fp && fw) fm q)));
          word_in = omega (arith, words_are, leb-true (length (topology_from m).word) nw (and_right fp fw (and_left (fp && fw) fm q)));
          mask_in = omega (arith, words_are, topology_sides m.rows m.cols (λ r. present (entries m r)), leb-true (length (topology_from m).mask) nm (and_right (fp && fw) fm q));
          vptr_in = omega (arith, k1.pointers);
          vals_in = omega (arith, total_is, k1.values);
        }

    -- the dot on what the lists hand on
    module _ (op ow om ov : List ℕ) (ox : List Float) (ep : op ≡ built 0 np (pack_answer m (as_store_room np nw nm nv nx)) (store_of m).words.ptr) (ew : ow ≡ built 0 nw (pack_answer m (as_store_room np nw nm nv nx)) (store_of m).words.word)
        (em : om ≡ built 0 nm (pack_answer m (as_store_room np nw nm nv nx)) (store_of m).words.mask) (ev : ov ≡ built 0 nv (pack_answer m (as_store_room np nw nm nv nx)) (store_of m).vptr) (ex : ox ≡ built zero64 nx (pack_answer m (as_store_room np nw nm nv nx)) (store_of m).vals) where
      lent_is : as_store m.rows m.cols (take (m.rows + 1) op) (take w ow) (take w om) n (take (m.rows + 1) ov) (take n ox) ≡ packed m (as_store_room np nw nm nv nx)
      unfolding packed
      lent_is =
          let p = ap₂ (λ (i : ℕ) (l : List ℕ). take i l) (add-one m.rows) ep in
          let q = ap₂ (λ (i : ℕ) (l : List ℕ). take i l) words_are ew in
          let b = ap₂ (λ (i : ℕ) (l : List ℕ). take i l) words_are em in
          let vp = ap₂ (λ (i : ℕ) (l : List ℕ). take i l) (add-one m.rows) ev in
          let vs = ap₂ (λ (i : ℕ) (l : List Float). take i l) total_is ex in
          λ i. as_store m.rows m.cols (p i) (q i) (b i) (total_is i) (vp i) (vs i)

      pub dot_lent : (a : Mask) (y : List Float) (r : ℕ) (g : Given AbtmRowDot)
          → g ≡ sparse_dot_row (as_store m.rows m.cols (take (m.rows + 1) op) (take w ow) (take w om) n (take (m.rows + 1) ov) (take n ox)) a y r → g ≡ packed_dot m (as_store_room np nw nm nv nx) a y r
      unfolding packed_dot
      dot_lent a y r g h =
          after_accepted (pack_answer m (as_store_room np nw nm nv nx)) (sparse_dot_row (packed m (as_store_room np nw nm nv nx)) a y r) g made.0 (h ∙ ap (λ (s : Store). sparse_dot_row s a y r) lent_is)
