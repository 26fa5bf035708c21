-- What every route asks first, at each return of the code that asks it, and what the answer of a route is then. Assumes nothing.
use Rattle.std.specs.Prelude.{Result, Ok, Err}
use mathlib.Core.Bool.{Bool, true, false, ◌&&◌, true≢false}
use mathlib.Core.List.{List}
use mathlib.Core.Path.{◌≡◌, refl, sym, ap, ◌∙◌}
use Prim.Native.Nat.{ℕ, ◌≤◌, ◌<◌}
use lib.Dec.{ltb}
use lib.ListN.{length}
use lib.Ieee.{Float}
use Rattle.hybit_core.specs.Answer.{Answer, accepted, refused, plain, lengths_differ, demand, ◌and_then◌}
use Rattle.hybit_core.specs.Domain.{few}
use Rattle.hybit_core.specs.Table.{paper, told}
use Rattle.hybit_core.specs.declared.HybitError.{HybitError}
use Rattle.hybit_core.proofs.BoolLaws.{and_first, and_right, is_below, is_not_below}
use Rattle.hybit_core.proofs.AnswerLaws.{demand_accepted, then_first, then_second, test_fails, test_passes, length_wrong, length_right, call_refused, call_accepted, accepted_by, refused_by}
use Rattle.mask.specs.Mask.{Mask, mask_rules, mask_answer}
use Rattle.csr32.specs.Made.{CsrRoom}
use Rattle.csr32.specs.Csr.{Csr, csr_sizes, csr_rules, csr_answer}
use Rattle.metadata_first_merge.specs.Merge.{merged_finite, merge_answer}
use Rattle.metadata_first_build.specs.Pack.{StoreRoom, store_of, fits_store}
use Rattle.abtm.specs.declared.AbtmConfig.{AbtmConfig}
use Rattle.abtm.specs.Calls.{threshold_answer}
use Rattle.abtm_build.specs.Build.{TileRoom}
use Rattle.demand_examine.specs.Calls.{records_answer, question_answer, pruned_answer, restricted_fits, restricted_answer, tiled_fits, tiled_answer}

-- 1 over both records, then the rules of each: as the code asks them, one record after the other
by_records : (f s t : Bool) (rules : Answer) → true ≡ f → demand (f && s) 1 and_then rules and_then demand t 5 ≡ (demand s 1 and_then rules) and_then (demand f 1 and_then demand t 5)
by_records true true t rules e = refl
by_records true false t rules e = refl
by_records false s t rules e = absurd (true≢false e)

module _ (m : Csr) (a : Mask) where
  pub mask_large : false ≡ few a.size → refused (plain 1) ≡ records_answer m a
  unfolding records_answer
  mask_large e = test_fails (few a.size && csr_sizes m) 1 (csr_rules m and_then demand (mask_rules a) 5) (and_first (few a.size) (csr_sizes m) e)

  module _ (small : true ≡ few a.size) where
    records_are : records_answer m a ≡ csr_answer m and_then mask_answer a
    unfolding records_answer csr_answer mask_answer
    records_are = by_records (few a.size) (csr_sizes m) (mask_rules a) (csr_rules m) small

    pub list_refused : (v : Result Unit HybitError) (e : HybitError) → told v ≡ csr_answer m → v ≡ Err e → refused (paper e) ≡ records_answer m a
    list_refused v e h k = call_refused (csr_answer m) (mask_answer a) v e h k ∙ sym records_are

    pub mask-told : (v : Result Unit HybitError) → told v ≡ csr_answer m → v ≡ Ok tt → (u : Answer) → u ≡ mask_answer a → u ≡ records_answer m a
    mask-told v h k u e = call_accepted (csr_answer m) (mask_answer a) u v h k e ∙ sym records_are

  pub records_list : records_answer m a ≡ accepted → csr_answer m ≡ accepted
  unfolding records_answer csr_answer
  records_list e =
      let one : Bool = few a.size && csr_sizes m in
      let rest : Answer = csr_rules m and_then demand (mask_rules a) 5 in
      let s : csr_sizes m ≡ true = and_right (few a.size) (csr_sizes m) (demand_accepted one 1 (then_first (demand one 1) rest e)) in
      ap (λ (b : Bool). demand b 1 and_then csr_rules m) s ∙ then_first (csr_rules m) (demand (mask_rules a) 5) (then_second (demand one 1) rest e)

  -- ---- the question

  module _ (x : List Float) (r : ℕ) where
    abbrev four : Answer
    four = demand (merged_finite m) 4

    pub mask_wrong : (a.size ≡ m.cols → ⊥) → refused (lengths_differ m.cols a.size) ≡ question_answer m a x r
    unfolding question_answer
    mask_wrong l = length_wrong m.cols a.size _ l

    module _ (la : a.size ≡ m.cols) where
      pub vector_wrong : (length x ≡ m.cols → ⊥) → refused (lengths_differ m.cols (length x)) ≡ question_answer m a x r
      unfolding question_answer
      vector_wrong l = length_right m.cols a.size _ _ la (length_wrong m.cols (length x) _ l)

      module _ (lx : length x ≡ m.cols) where
        pub row_outside : m.rows ≤ r → refused (plain 7) ≡ question_answer m a x r
        unfolding question_answer
        row_outside l = length_right m.cols a.size _ _ la (length_right m.cols (length x) _ _ lx (test_fails (ltb r m.rows) 7 four (is_not_below r m.rows l)))

        pub merge_told : r < m.rows → records_answer m a ≡ accepted → (u : Answer) → u ≡ merge_answer m → u ≡ question_answer m a x r
        unfolding question_answer merge_answer
        merge_told l e u h =
            length_right m.cols a.size _ _ la (length_right m.cols (length x) _ _ lx (test_passes (ltb r m.rows) 7 u four (is_below r m.rows l) (h ∙ ap (λ (t : Answer). t and_then four) (records_list e))))

-- ---- a chain whose first checks gave the verdict v

pub checks_refused : (a b c : Answer) (v : Result Unit HybitError) (e : HybitError) → told v ≡ a and_then b → v ≡ Err e → a and_then b and_then c ≡ refused (paper e)
checks_refused a b c v e h k = go a (refused_by (a and_then b) v e h k)
  where
    go : (a : Answer) → a and_then b ≡ refused (paper e) → a and_then b and_then c ≡ refused (paper e)
    go accepted q = ap (λ (t : Answer). t and_then c) q
    go (refused t) q = q

pub checks_accepted : (a b c : Answer) (v : Result Unit HybitError) → told v ≡ a and_then b → v ≡ Ok tt → a and_then b and_then c ≡ c
checks_accepted a b c v h k =
    let q : a and_then b ≡ accepted = accepted_by (a and_then b) v h k in
    ap (λ (t : Answer). t and_then b and_then c) (then_first a b q) ∙ ap (λ (t : Answer). t and_then c) (then_second a b q)

-- ---- the answer of a route where the checks refuse

pub pruned_refused : (m : Csr) (a : Mask) (x : List Float) (r : ℕ) (room : StoreRoom) (v : Result Unit HybitError) (e : HybitError) → told v ≡ records_answer m a and_then question_answer m a x r → v ≡ Err e
    → pruned_answer m a x r room ≡ refused (paper e)
unfolding pruned_answer
pruned_refused m a x r room v e h k = checks_refused (records_answer m a) (question_answer m a x r) (demand (fits_store (store_of m) room) 13) v e h k

pub restricted_refused : (m : Csr) (a : Mask) (x : List Float) (r : ℕ) (rc : CsrRoom) (n : ℕ) (rp : StoreRoom) (v : Result Unit HybitError) (e : HybitError)
    → told v ≡ records_answer m a and_then question_answer m a x r → v ≡ Err e → restricted_answer m a x r rc n rp ≡ refused (paper e)
unfolding restricted_answer
restricted_refused m a x r rc n rp v e h k = checks_refused (records_answer m a) (question_answer m a x r) (restricted_fits m a rc n rp) v e h k

pub tiled_refused : (m : Csr) (a : Mask) (h : AbtmConfig) (x : List Float) (r : ℕ) (rt : TileRoom) (rc : CsrRoom) (n : ℕ) (v : Result Unit HybitError) (e : HybitError)
    → told v ≡ records_answer m a and_then threshold_answer h and_then question_answer m a x r → v ≡ Err e → tiled_answer m a h x r rt rc n ≡ refused (paper e)
unfolding tiled_answer
tiled_refused m a h x r rt rc n v e q k = go (records_answer m a) (threshold_answer h) (refused_by (records_answer m a and_then threshold_answer h and_then question_answer m a x r) v e q k)
  where
    go : (s t : Answer) → s and_then t and_then question_answer m a x r ≡ refused (paper e) → s and_then t and_then question_answer m a x r and_then tiled_fits m a h rt rc n ≡ refused (paper e)
    go accepted accepted z = ap (λ (y : Answer). y and_then tiled_fits m a h rt rc n) z
    go accepted (refused y) z = z
    go (refused y) t z = z
