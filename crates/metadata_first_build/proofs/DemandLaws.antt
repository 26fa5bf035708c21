-- An accepted build: its store is accepted by `check`, is what the lent lists hand on, has the merged values, and its pruned dot
-- is what demand 3 wants, so nothing that masked plots hold reaches it. Assumes nothing.
use mathlib.Core.Bool.{Bool, true, ◌&&◌}
use mathlib.Core.List.{List}
use mathlib.Core.Path.{◌≡◌, refl, sym, ap, ap₂, ◌∙◌}
use Prim.Native.Nat.{ℕ, suc, ◌^◌, ◌≤◌, ◌<◌}
use native.Mathlib.Omega.{arith}
use lib.Dec.{ltb}
use lib.ListN.{length}
use lib.Ieee.{Float}
use borrow.Author.Tests.{lt-ltb, eq-eqb, le-leb}
use Rattle.hybit_core.specs.Answer.{Answer, accepted, demand, demand_length, length_is, gives, answers, on_given, ◌and_then◌}
use Rattle.hybit_core.specs.Domain.{few}
use Rattle.hybit_core.specs.Floats.{zero64}
use Rattle.hybit_core.proofs.BoolLaws.{and_both}
use Rattle.hybit_core.proofs.AnswerLaws.{demand_accepted, then_first, then_second}
use Rattle.lent.proofs.LentLaws.{handed_used}
use Rattle.mask.specs.Mask.{Mask, active, mask_rules}
use Rattle.csr32.specs.Csr.{Csr, entries, present, merged, at}
use Rattle.csr32.specs.Made.{entries_in}
use Rattle.csr32.proofs.CsrLaws.{Valid, valid}
use Rattle.topology.specs.Words.{topology_of}
use Rattle.topology.proofs.TopologyLaws.{accepted_facts, topology_pointers, topology_sides}
use Rattle.topology_build.specs.Build.{topology_from}
use Rattle.topology_build.proofs.AnswerLaws.{built_accepted as words_accepted}
use Rattle.metadata_first.specs.Store.{Store, packed_of, value_at, store_sizes, store_faults, store_answer}
use Rattle.metadata_first.specs.Dot.{dot_of, dot_on, operands_answer, dot_answer, sparse_dot_row, three_of, demanded}
use Rattle.metadata_first.proofs.DotLaws.{demanded-three}
use Rattle.metadata_first.proofs.ActiveLaws.{demanded_same}
use Rattle.metadata_first.proofs.StoreLaws.{value_of_packed, dot_of_packed, packed_checked}
use Rattle.metadata_first_build.specs.Pack.{store_of, StoreRoom, pack_answer, packed, pruned_dot, wanted}
use Rattle.metadata_first_build.proofs.RowsLaws.{store_long, columns_in_lem}
use Rattle.metadata_first_build.proofs.AnswerLaws.{store_total, store_rows, store_finite, Packs, packs}

-- the value of a column that has an entry is its merged value
pub value_of_built : (m : Csr) (r c : ℕ) → r < m.rows → c < m.cols → present (entries m r) c ≡ true → value_at (store_of m) r c ≡ merged (entries m r) c
unfolding store_of
value_of_built m r c h l e = value_of_packed m.rows m.cols (λ r. present (entries m r)) (λ r. merged (entries m r)) r h c l e

module _ (m : Csr) (room : StoreRoom) (e : pack_answer m room ≡ accepted) where
  facts : Packs m room.words.ptr room.words.word room.words.mask room.vptr room.vals
  facts = packs m room.words.ptr room.words.word room.words.mask room.vptr room.vals e

  ok : Valid m
  ok = valid m facts.list

  -- `check` accepts the store
  pub built_accepted : store_answer (store_of m) ≡ accepted
  unfolding store_of packed_of
  built_accepted =
      let words : length (topology_from m).word ≤ 2 ^ 24 = (accepted_facts (topology_from m) (words_accepted m facts.list)).words_in in
      let values : length (store_of m).vals ≤ 2 ^ 24 = omega (arith, store_long m, columns_in_lem m ok) in
      packed_checked m.rows m.cols (λ r. present (entries m r)) (λ r. merged (entries m r)) (store_finite m ∙ facts.finites) ok.rows_in ok.cols_in words values

  -- what the lent lists hand on is the store
  pub packed_is : packed m room ≡ store_of m
  unfolding packed store_of packed_of topology_of
  packed_is =
      let s : Store = store_of m in
      let p : ℕ → ℕ → Bool = λ r. present (entries m r) in
      let ptr = handed_used 0 room.words.ptr (pack_answer m room) (suc m.rows) s.words.ptr e (topology_pointers m.rows m.cols p) in
      let word = handed_used 0 room.words.word (pack_answer m room) (length s.words.word) s.words.word e refl in
      let mask = handed_used 0 room.words.mask (pack_answer m room) (length s.words.word) s.words.mask e (sym (topology_sides m.rows m.cols p)) in
      let vptr = handed_used 0 room.vptr (pack_answer m room) (suc m.rows) s.vptr e (let q = store_rows m in omega arith) in
      let vals = handed_used zero64 room.vals (pack_answer m room) s.words.total s.vals e (store_total m) in
      λ i. record { words = record { rows = m.rows; cols = m.cols; ptr = ptr i; word = word i; mask = mask i; total = s.words.total }; vptr = vptr i; vals = vals i }

  -- ---- its dot, with a mask and a vector of its columns

  module _ (a : Mask) (x : List Float) (r : ℕ) (va : mask_rules a ≡ true) (la : a.size ≡ m.cols) (lx : length x ≡ m.cols) (h : r < m.rows) where
    dot_accepted : dot_answer (store_of m) a x r ≡ accepted
    unfolding dot_answer operands_answer store_answer store_of packed_of topology_of
    dot_accepted =
        let s : Store = store_of m in
        let sizes : store_sizes s ≡ true = demand_accepted (store_sizes s) 1 (then_first (demand (store_sizes s) 1) (store_faults s) built_accepted) in
        let faults : store_faults s ≡ accepted = then_second (demand (store_sizes s) 1) (store_faults s) built_accepted in
        let one : (store_sizes s && few a.size) ≡ true = and_both (store_sizes s) (few a.size) sizes (le-leb a.size (2 ^ 20) (omega (arith, ok.cols_in))) in
        ap₂ (λ (b : Bool) (f : Answer). (demand b 1 and_then f and_then demand (mask_rules a) 5 and_then length_is m.cols a.size and_then length_is m.cols (length x)) and_then demand (ltb r m.rows) 7) one faults
        ∙ ap₂ (λ (b d : Bool). (demand b 5 and_then demand_length d m.cols a.size and_then length_is m.cols (length x)) and_then demand (ltb r m.rows) 7) va (eq-eqb a.size m.cols la)
        ∙ ap₂ (λ (b d : Bool). demand_length b m.cols (length x) and_then demand d 7) (eq-eqb (length x) m.cols lx) (lt-ltb r m.rows h)

    pub built_dot : sparse_dot_row (packed m room) a x r ≡ gives (dot_of m.cols (present (entries m r)) (merged (entries m r)) (active a) (at x))
    unfolding sparse_dot_row store_of
    built_dot =
        ap (λ (s : Store). answers (dot_answer s a x r) (dot_on s a x r)) packed_is ∙ ap (λ (b : Answer). answers b (dot_on (store_of m) a x r)) dot_accepted
        ∙ ap gives (dot_of_packed m.rows m.cols (λ r. present (entries m r)) (λ r. merged (entries m r)) r h a x)

    -- packing and the dot give what the matrix itself has
    pub pruned_dot_lem : pruned_dot m room a x r ≡ gives (wanted m a x r)
    pruned_dot_lem = ap (on_given three_of) built_dot ∙ ap gives (demanded-three m.cols (entries m r) (active a) (at x))

-- two matrices of one frame, both accepted for packing, whose rows r have the same active entries, and two vectors that agree at
-- active columns: the pruned dots of row r give the same three
pub two_runs : (m n : Csr) (rm rn : StoreRoom) → pack_answer m rm ≡ accepted → pack_answer n rn ≡ accepted → m.rows ≡ n.rows → m.cols ≡ n.cols
    → (a : Mask) (x y : List Float) (r : ℕ) → mask_rules a ≡ true → a.size ≡ m.cols → length x ≡ m.cols → length y ≡ m.cols → r < m.rows
    → entries_in (active a) (entries m r) ≡ entries_in (active a) (entries n r) → ((c : ℕ) → active a c ≡ true → at x c ≡ at y c)
    → pruned_dot m rm a x r ≡ pruned_dot n rn a y r
two_runs m n rm rn em en rows cols a x y r va la lx ly h same agree =
    let k : r < n.rows = omega arith in
    pruned_dot_lem m rm em a x r va la lx h
    ∙ ap gives (demanded_same m.cols (entries m r) (entries n r) (active a) (at x) (at y) same (λ c l e. agree c e) ∙ ap (λ (w : ℕ). demanded w (entries n r) (active a) (at y)) cols)
    ∙ sym (pruned_dot_lem n rn en a y r va (la ∙ cols) (ly ∙ cols) k)
