-- Laws of the public build: when it is refused and how, and what each of its ends answers and leaves. Assumes nothing.
use Rattle.std.specs.Prelude.{Result, Ok, Err}
use mathlib.Core.Bool.{Bool, true, false, not, ◌&&◌, true≢false, false≢true}
use mathlib.Core.List.{List, [], ◌++◌}
use mathlib.Core.Path.{◌≡◌, refl, sym, ap, ap₂, ◌∙◌, subst}
use Prim.Native.Nat.{ℕ, ◌+◌, ◌^◌, ◌≤◌, ◌<◌}
use native.Mathlib.Omega.{arith}
use lib.Dec.{leb}
use lib.ListN.{length, take, drop, replicate}
use lib.Seq.{take_at}
use lib.Ieee.{Float}
use borrow.Author.Tests.{le-leb, leb-true, not-true, not-false}
use Rattle.hybit_core.specs.Answer.{Answer, accepted, refused, plain, demand, ◌and_then◌, Given, gives, refuses, answers}
use Rattle.hybit_core.specs.Floats.{zero64, finite}
use Rattle.hybit_core.specs.Table.{paper, told, given}
use Rattle.hybit_core.specs.declared.HybitError.{HybitError}
use Rattle.hybit_core.proofs.BoolLaws.{and_left, and_right, and_both}
use Rattle.hybit_core.proofs.AnswerLaws.{demand_accepted, then_first, then_second, accepted_by, refused_by}
use Rattle.lent.specs.Lists.{every}
use Rattle.lent.specs.Lent.{padded, built}
use Rattle.lent.proofs.LentLaws.{handed_used, front_zeros, written_front}
use Rattle.csr32.specs.Csr.{Csr, framed_lists, csr_answer, entries, present}
use Rattle.csr32.proofs.CsrLaws.{valid}
use Rattle.topology.specs.declared.TopologySize.{TopologySize}
use Rattle.topology.specs.Words.{Words, as_words, topology_of}
use Rattle.topology.specs.Calls.{as_room, fits_words, as_size, used_of}
use Rattle.topology.proofs.TopologyLaws.{accepted_facts, topology_pointers, topology_sides}
use Rattle.topology_build.specs.Build.{topology_from, build_answer}
use Rattle.topology_build.proofs.AnswerLaws.{built_accepted}
use Rattle.metadata_first.specs.Store.{Store, packed_of}
use Rattle.metadata_first.proofs.StoreLaws.{packed_total, packed_pointers}
use Rattle.metadata_first_merge.specs.Merge.{row_values, merged_finite, merge_answer}
use Rattle.metadata_first_build.specs.Pack.{store_of, as_store_room, fits_store, pack_answer}
use Rattle.metadata_first_build.specs.Making.{Valued, last_refusal}

-- what the call answers, and what its lists of np, nw, nm, nv and nx places hold
abbrev Outcome : Answer → Given TopologySize → Store → ℕ → ℕ → ℕ → ℕ → ℕ → List ℕ → List ℕ → List ℕ → List ℕ → List Float → Type 0
Outcome a g s np nw nm nv nx op ow om ov ox =
    (g ≡ answers a (used_of s.words))
    × ((op ≡ built 0 np a s.words.ptr)
    × ((ow ≡ built 0 nw a s.words.word) × ((om ≡ built 0 nm a s.words.mask) × ((ov ≡ built 0 nv a s.vptr) × (ox ≡ built zero64 nx a s.vals)))))

given_same : (x y : TopologySize) → gives x ≡ gives y → x ≡ y
given_same x y e = cc

-- ---- the refusal of a refused build

pub refuse_first : (m : Csr) (v : Result Unit HybitError) (e : HybitError) → told v ≡ merge_answer m → v ≡ Err e → ◌≡◌ {A = Given TopologySize} (refuses (paper e)) (refuses (last_refusal (merge_answer m)))
refuse_first m v e t k = sym (ap (λ (a : Answer). refuses (last_refusal a)) (refused_by (merge_answer m) v e t k))

pub refuse_last : (m : Csr) (v : Result Unit HybitError) → told v ≡ merge_answer m → v ≡ Ok tt → ◌≡◌ {A = Given TopologySize} (refuses (plain 13)) (refuses (last_refusal (merge_answer m)))
refuse_last m v t k = sym (ap (λ (a : Answer). refuses (last_refusal a)) (accepted_by (merge_answer m) v t k))

-- ---- the store that is built

module _ (m : Csr) where
  pub store_total : length (store_of m).vals ≡ (topology_from m).total
  unfolding store_of packed_of
  store_total = packed_total m.rows m.cols (λ r. present (entries m r)) (λ r. _)

  pub store_rows : length (store_of m).vptr ≡ m.rows + 1
  unfolding store_of
  store_rows = packed_pointers m.rows m.cols (λ r. present (entries m r)) (λ r. _)

  pub store_finite : every finite (store_of m).vals ≡ merged_finite m
  unfolding store_of packed_of merged_finite row_values
  store_finite = refl

-- as many values as the words have bits
pub source_total : (m : Csr) (t : Words) → t ≡ topology_from m → t.total ≡ length (store_of m).vals
source_total m t e = ap (λ (t : Words). t.total) e ∙ sym (store_total m)

-- ---- after the build of the words, which answered t

module _ (m : Csr) (np nw nm : ℕ) (t : Result TopologySize HybitError) (e : given t ≡ answers (build_answer m (as_room np nw nm)) (used_of (topology_from m))) where
  module _ (s : TopologySize) (k : t ≡ Ok s) where
    made : (build_answer m (as_room np nw nm) ≡ accepted) × ((s.words ≡ length (topology_from m).word) × (s.structural_nnz ≡ (topology_from m).total))
    made = go (build_answer m (as_room np nw nm)) refl (sym (ap given k) ∙ e)
      where
        go : (a : Answer) → build_answer m (as_room np nw nm) ≡ a → gives s ≡ answers a (used_of (topology_from m)) → (build_answer m (as_room np nw nm) ≡ accepted) × ((s.words ≡ length (topology_from m).word) × (s.structural_nnz ≡ (topology_from m).total))
        go accepted q z = let y : s ≡ used_of (topology_from m) = given_same s (used_of (topology_from m)) z in (q, (ap (λ (i : TopologySize). i.words) y, ap (λ (i : TopologySize). i.structural_nnz) y))
        go (refused t) q z = let y : ◌≡◌ {A = ℕ} 0 1 = cc in absurd (omega arith)

    words_in_lem : fits_words (topology_from m) (as_room np nw nm) ≡ true
    unfolding build_answer
    words_in_lem = demand_accepted _ 13 (then_second (csr_answer m) (demand (fits_words (topology_from m) (as_room np nw nm)) 13) made.0)

    pub list_is : csr_answer m ≡ accepted
    unfolding build_answer
    list_is = then_first (csr_answer m) (demand (fits_words (topology_from m) (as_room np nw nm)) 13) made.0

    -- the used parts lie in their lists
    pub record Used : Type 0 where
      pub rows_in : m.rows ≤ 2 ^ 20
      pub ptr_in : m.rows + 1 ≤ np
      pub word_in : s.words ≤ nw
      pub mask_in : s.words ≤ nm

    pub used : Used
    unfolding fits_words
    used =
        let fp : Bool = leb (length (topology_from m).ptr) np in
        let fw : Bool = leb (length (topology_from m).word) nw in
        let fm : Bool = leb (length (topology_from m).mask) nm in
        record {
          rows_in = (valid m list_is).rows_in;
          ptr_in = omega (arith, topology_pointers m.rows m.cols (λ r. present (entries m r)), leb-true (length (topology_from m).ptr) np (and_left fp fw (and_left (fp && fw) fm words_in_lem)));
          word_in = omega (arith, made.1.0, leb-true (length (topology_from m).word) nw (and_right fp fw (and_left (fp && fw) fm words_in_lem)));
          mask_in = omega (arith, made.1.0, topology_sides m.rows m.cols (λ r. present (entries m r)), leb-true (length (topology_from m).mask) nm (and_right (fp && fw) fm words_in_lem));
        }

    -- what the build of the words left
    module _ (op ow om : List ℕ) (ep : op ≡ built 0 np (build_answer m (as_room np nw nm)) (topology_from m).ptr) (ew : ow ≡ built 0 nw (build_answer m (as_room np nw nm)) (topology_from m).word)
        (em : om ≡ built 0 nm (build_answer m (as_room np nw nm)) (topology_from m).mask) where
      front : (z k : ℕ) (l new : List ℕ) → l ≡ built 0 z (build_answer m (as_room np nw nm)) new → length new ≡ k → take k l ≡ new
      front z k l new q h = ap (take k) q ∙ handed_used 0 z (build_answer m (as_room np nw nm)) k new made.0 h

      -- the used parts are the words of the plot list
      pub pack_source : as_words m.rows m.cols (take (m.rows + 1) op) (take s.words ow) (take s.words om) s.structural_nnz ≡ topology_from m
      unfolding topology_of
      pack_source =
          let pointers : take (m.rows + 1) op ≡ (topology_from m).ptr = front np (m.rows + 1) op (topology_from m).ptr ep (omega (arith, topology_pointers m.rows m.cols (λ r. present (entries m r)))) in
          let words : take s.words ow ≡ (topology_from m).word = front nw s.words ow (topology_from m).word ew (sym made.1.0) in
          let masks : take s.words om ≡ (topology_from m).mask = front nm s.words om (topology_from m).mask em (sym (topology_sides m.rows m.cols (λ r. present (entries m r))) ∙ sym made.1.0) in
          let total : s.structural_nnz ≡ (topology_from m).total = made.1.1 in
          λ i. record { rows = m.rows; cols = m.cols; ptr = pointers i; word = words i; mask = masks i; total = total i }

      -- so their pointers fit their words and masks
      pub pack_framed : framed_lists m.rows (take (m.rows + 1) op) (length (take s.words ow)) (length (take s.words om)) ≡ true
      pack_framed =
          subst (λ (t : Words). framed_lists t.rows t.ptr (length t.word) (length t.mask) ≡ true) (sym pack_source) (accepted_facts (topology_from m) (built_accepted m list_is)).lists

-- ---- an accepted build, as facts

module _ (m : Csr) (np nw nm nv nx : ℕ) where
  abbrev whole : Answer
  whole = pack_answer m (as_store_room np nw nm nv nx)

  pub record Packs : Type 0 where
    pub list : csr_answer m ≡ accepted
    pub finites : merged_finite m ≡ true
    pub fits : fits_words (topology_from m) (as_room np nw nm) ≡ true
    pub pointers : m.rows + 1 ≤ nv
    pub values : (topology_from m).total ≤ nx

  pub packs : whole ≡ accepted → Packs
  unfolding pack_answer merge_answer fits_store store_of packed_of
  packs e =
      let merging : merge_answer m ≡ accepted = then_first (merge_answer m) (demand (fits_store (store_of m) (as_store_room np nw nm nv nx)) 13) e in
      let fw : Bool = fits_words (topology_from m) (as_room np nw nm) in
      let fp : Bool = leb (length (store_of m).vptr) nv in
      let fv : Bool = leb (length (store_of m).vals) nx in
      let room : (fw && fp && fv) ≡ true = demand_accepted (fw && fp && fv) 13 (then_second (merge_answer m) (demand (fw && fp && fv) 13) e) in
      record {
        list = then_first (csr_answer m) (demand (merged_finite m) 4) merging;
        finites = demand_accepted (merged_finite m) 4 (then_second (csr_answer m) (demand (merged_finite m) 4) merging);
        fits = and_left fw fp (and_left (fw && fp) fv room);
        pointers = omega (arith, store_rows m, leb-true (length (store_of m).vptr) nv (and_right fw fp (and_left (fw && fp) fv room)));
        values = omega (arith, store_total m, leb-true (length (store_of m).vals) nx (and_right (fw && fp) fv room));
      }

  accepts : Packs → whole ≡ accepted
  unfolding pack_answer merge_answer fits_store store_of packed_of
  accepts k =
      let fw : Bool = fits_words (topology_from m) (as_room np nw nm) in
      let fp : Bool = leb (length (store_of m).vptr) nv in
      let fv : Bool = leb (length (store_of m).vals) nx in
      let room : (fw && fp && fv) ≡ true =
      and_both (fw && fp) fv (and_both fw fp k.fits (le-leb (length (store_of m).vptr) nv (omega (arith, store_rows m, k.pointers)))) (le-leb (length (store_of m).vals) nx (omega (arith, store_total m, k.values))) in
      ap₂ (λ (a : Answer) (b : Bool). (a and_then demand b 4) and_then demand (fw && fp && fv) 13) k.list k.finites ∙ ap (λ (b : Bool). demand b 13) room

  -- a build that is not accepted has the refusal of the checks, or else 13
  refuses_last : (Packs → ⊥) → whole ≡ refused (last_refusal (merge_answer m))
  unfolding pack_answer
  refuses_last f = go (merge_answer m) (fits_store (store_of m) (as_store_room np nw nm nv nx)) (λ e. f (packs e))
    where
      go : (a : Answer) (b : Bool) → (a and_then demand b 13 ≡ accepted → ⊥) → a and_then demand b 13 ≡ refused (last_refusal a)
      go accepted true f = absurd (f refl)
      go accepted false f = refl
      go (refused t) b f = refl

  pub pack_refused : (Packs → ⊥) → (g : Given TopologySize) (a b c d f : ℕ) (op ow om ov : List ℕ) (ox : List Float) → g ≡ refuses (last_refusal (merge_answer m))
      → op ≡ padded 0 a [] → ow ≡ padded 0 b [] → om ≡ padded 0 c [] → ov ≡ padded 0 d [] → ox ≡ padded zero64 f []
      → a ≡ np → b ≡ nw → c ≡ nm → d ≡ nv → f ≡ nx → Outcome whole g (store_of m) np nw nm nv nx op ow om ov ox
  pack_refused not-packed g a b c d f op ow om ov ox eg ep ew em ev ex la lb lc ld lf =
      rw (refuses_last not-packed) (
        eg,
        (ep ∙ ap (λ (i : ℕ). padded 0 i []) la, (ew ∙ ap (λ (i : ℕ). padded 0 i []) lb, (em ∙ ap (λ (i : ℕ). padded 0 i []) lc, (ev ∙ ap (λ (i : ℕ). padded 0 i []) ld, ex ∙ ap (λ (i : ℕ). padded zero64 i []) lf)))),
      )

  -- ---- why a build is not accepted, in the order of the code

  module _ (t : Result TopologySize HybitError) (e : given t ≡ answers (build_answer m (as_room np nw nm)) (used_of (topology_from m))) where
    pub no_words : (x : HybitError) → t ≡ Err x → Packs → ⊥
    unfolding build_answer
    no_words x k p = differ (sym (ap given k) ∙ e ∙ ap₂ (λ (a : Answer) (b : Bool). answers (a and_then demand b 13) (used_of (topology_from m))) p.list p.fits)
      where
        differ : refuses (paper x) ≡ gives (used_of (topology_from m)) → ⊥
        differ q = let z : ◌≡◌ {A = ℕ} 0 1 = cc in omega arith

    module _ (s : TopologySize) (k : t ≡ Ok s) where
      words-made : (build_answer m (as_room np nw nm) ≡ accepted) × ((s.words ≡ length (topology_from m).word) × (s.structural_nnz ≡ (topology_from m).total))
      words-made = made m np nw nm t e s k

      -- the values were asked for: b tells whether they are written
      module _ (b : Bool) (ov : List ℕ) (ox : List Float) (vs : Valued m nv nx b ov ox) where
        pub no_values_written : not b ≡ true → Packs → ⊥
        no_values_written h p = vs.not_held (not-true b h) (omega (arith, p.pointers)) (omega (arith, store_total m, p.values)) p.finites

        pub pack_built : not b ≡ false → (op ow om : List ℕ) → op ≡ built 0 np (build_answer m (as_room np nw nm)) (topology_from m).ptr → ow ≡ built 0 nw (build_answer m (as_room np nw nm)) (topology_from m).word
            → om ≡ built 0 nm (build_answer m (as_room np nw nm)) (topology_from m).mask → Outcome whole (gives s) (store_of m) np nw nm nv nx op ow om ov ox
        unfolding store_of packed_of
        pack_built h op ow om ep ew em =
            let y : b ≡ true = not-false b h in
            let k1 = vs.held y in
            let k2 = vs.written y in
            let ok : whole ≡ accepted = accepts (record { list = list_is m np nw nm t e s k; finites = k1.2; fits = words_in_lem m np nw nm t e s k; pointers = omega (arith, k1.0); values = omega (arith, k1.1, store_total m) }) in
            rw ok (
              ap₂ (λ (i j : ℕ). gives (as_size i j)) words-made.1.0 words-made.1.1,
              (
                ep ∙ ap (λ (a : Answer). built 0 np a (topology_from m).ptr) words-made.0,
                (
                  ew ∙ ap (λ (a : Answer). built 0 nw a (topology_from m).word) words-made.0,
                  (em ∙ ap (λ (a : Answer). built 0 nm a (topology_from m).mask) words-made.0, (k2.0, k2.1)),
                ),
              ),
            )

-- ---- the values: n of them, for lists of nv and nx places

module _ (m : Csr) (nv nx n : ℕ) (en : n ≡ length (store_of m).vals) where
  pub few_pointers : (ov : List ℕ) (ox : List Float) → nv ≤ m.rows → Valued m nv nx false ov ox
  few_pointers ov ox h = record { held = λ e. absurd (false≢true e); written = λ e. absurd (false≢true e); not_held = λ e a b f. omega arith }

  pub few_values : (ov : List ℕ) (ox : List Float) → nx < n → Valued m nv nx false ov ox
  few_values ov ox h = record { held = λ e. absurd (false≢true e); written = λ e. absurd (false≢true e); not_held = λ e a b f. omega arith }

  -- both lists are cleared, and then written
  module _ (ov : List ℕ) (ox : List Float) (ev : ov ≡ padded 0 nv []) (ex : ox ≡ padded zero64 nx []) (hv : m.rows < nv) (hx : n ≤ nx) where
    pub pack_zeros : take n ox ≡ replicate (length (store_of m).vals) zero64
    pack_zeros = front_zeros zero64 n nx ox ex hx ∙ ap (λ (i : ℕ). replicate i zero64) en

    module _ (ov1 : List ℕ) (ox1 : List Float) (ev1 : ov1 ≡ (store_of m).vptr) (ex1 : ox1 ≡ (store_of m).vals) where
      values_long : length ox1 ≡ n
      values_long = ap length ex1 ∙ sym en

      -- b tells whether they are finite
      pub values_filled : (b : Bool) → b ≡ every finite (take n (ox1 ++ drop n ox)) → Valued m nv nx b (ov1 ++ drop (m.rows + 1) ov) (ox1 ++ drop n ox)
      values_filled b eb =
          let tested : b ≡ merged_finite m = eb ∙ ap (every finite) (take_at ox1 (drop n ox) n values_long ∙ ex1) ∙ store_finite m in
          record {
            held = λ y. (hv, omega arith, sym tested ∙ y);
            written = λ y. (written_front 0 (m.rows + 1) nv ov ov1 ev (ap length ev1 ∙ store_rows m) ∙ ap (padded 0 nv) ev1, written_front zero64 n nx ox ox1 ex values_long ∙ ap (padded zero64 nx) ex1);
            not_held = λ y a c f. absurd (true≢false (sym f ∙ sym tested ∙ y));
          }
