-- What is known once the checks of the dots have accepted, and what the calls leave in lent lists. Assumes nothing.
use Rattle.std.specs.Prelude.{Result, Ok}
use Rattle.hybit_core.specs.declared.HybitError.{HybitError}
use mathlib.Core.Bool.{Bool, true, ◌&&◌}
use mathlib.Core.List.{List, ◌++◌}
use mathlib.Core.Path.{◌≡◌, refl, sym, ap, ap₂, subst, ◌∙◌}
use Prim.Native.Nat.{ℕ, ◌+◌, ◌%◌, ◌^◌, ◌≤◌, ◌<◌}
use native.Mathlib.Omega.{arith}
use lib.Dec.{leb, ltb}
use lib.ListN.{length, get_or, take, drop, set}
use lib.Ieee.{Float, nan}
use borrow.Author.Tests.{ltb-true, leb-true}
use Rattle.hybit_core.specs.Answer.{Answer, accepted, demand, length_is, ◌and_then◌}
use Rattle.hybit_core.specs.Domain.{few}
use Rattle.hybit_core.specs.Floats.{zero64}
use Rattle.hybit_core.specs.Table.{told}
use Rattle.hybit_core.proofs.BoolLaws.{and_left, and_right}
use Rattle.hybit_core.proofs.AnswerLaws.{demand_accepted, then_first, then_second, length_accepted, accepted_by}
use Rattle.lent.specs.Lists.{part}
use Rattle.lent.specs.Lent.{padded}
use Rattle.lent.proofs.LentLaws.{Filled, filled_none, filled_more, filled_length, filled_done, cleared_front}
use Rattle.word.specs.Bits.{count, both}
use Rattle.word.proofs.BelowLaws.{rank_lt, length-below-le}
use Rattle.mask.specs.Mask.{Mask, as_mask, active, mask_rules, mask_answer}
use Rattle.csr32.specs.Csr.{at}
use Rattle.csr32.proofs.FrameLaws.{RowIn, row_left, row_right}
use Rattle.topology.specs.Words.{member, row_member}
use Rattle.topology.proofs.TopologyLaws as topology
use Rattle.topology.proofs.CallLaws.{RowOk, sides_lent, rule_lent}
use Rattle.metadata_first.specs.declared.AbtmRowDot.{AbtmRowDot}
use Rattle.metadata_first.specs.Store.{Store, value_at, store_sizes, store_faults, store_answer}
use Rattle.metadata_first.specs.Dot.{dot_of, dot_on, operands_answer, dot_answer}
use Rattle.metadata_first.proofs.DotLaws.{dot_cong}
use Rattle.metadata_first.proofs.CallLaws.{Stored, stored, row_values_lem, value_in_row}
use Rattle.metadata_first_operands.specs.Checks.{rows_answer}
use Rattle.metadata_first_dot.specs.Rows.{row_sums, row_counts}
use Rattle.metadata_first_dot.specs.Walk.{RowReady, row_dot}

-- ---- operands that the checks accept

pub record Operands (s : Store) (a : Mask) (x : List Float) : Type 0 where
  pub store : Stored s
  pub mask : mask_answer a ≡ accepted
  pub mask_size : a.size ≡ s.words.cols
  pub vector : length x ≡ s.words.cols

pub operands : (s : Store) (a : Mask) (x : List Float) → operands_answer s a x ≡ accepted → Operands s a x
unfolding operands_answer store_answer mask_answer
operands s a x e =
    let z : Bool = store_sizes s && few a.size in
    let lengths : Answer = length_is s.words.cols a.size and_then length_is s.words.cols (length x) in
    let rest : Answer = demand (mask_rules a) 5 and_then lengths in
    let sizes : z ≡ true = demand_accepted z 1 (then_first (demand z 1) (store_faults s and_then rest) e) in
    let e₁ : store_faults s and_then rest ≡ accepted = then_second (demand z 1) (store_faults s and_then rest) e in
    let faults : store_faults s ≡ accepted = then_first (store_faults s) rest e₁ in
    let e₂ : rest ≡ accepted = then_second (store_faults s) rest e₁ in
    let rules : mask_rules a ≡ true = demand_accepted (mask_rules a) 5 (then_first (demand (mask_rules a) 5) lengths e₂) in
    let e₃ : lengths ≡ accepted = then_second (demand (mask_rules a) 5) lengths e₂ in
    record {
      store = stored s (ap₂ (λ (t : Bool) (f : Answer). demand t 1 and_then f) (and_left (store_sizes s) (few a.size) sizes) faults);
      mask = ap₂ (λ (t u : Bool). demand t 1 and_then demand u 5) (and_right (store_sizes s) (few a.size) sizes) rules;
      mask_size = length_accepted s.words.cols a.size (then_first (length_is s.words.cols a.size) (length_is s.words.cols (length x)) e₃);
      vector = length_accepted s.words.cols (length x) (then_second (length_is s.words.cols a.size) (length_is s.words.cols (length x)) e₃);
    }

-- ---- a row of them

module _ (s : Store) (a : Mask) (x : List Float) (e : operands_answer s a x ≡ accepted) where
  known : Operands s a x
  known = operands s a x e

  words_known : topology.Accepted s.words
  words_known = known.store.words_facts

  pub rows_few : s.words.rows ≤ 2 ^ 20
  rows_few = words_known.rows_in

  pub columns_few : s.words.cols ≤ 2 ^ 20
  columns_few = words_known.cols_in

  module _ (r : ℕ) (h : r < s.words.rows) where
    pub row_words_lem : RowIn s.words.ptr (length s.words.word) r
    row_words_lem = row_left s.words.rows s.words.ptr (length s.words.word) (length s.words.mask) words_known.lists r h

    pub row_masks_lem : RowIn s.words.ptr (length s.words.mask) r
    row_masks_lem = row_right s.words.rows s.words.ptr (length s.words.word) (length s.words.mask) words_known.lists r h

    pub row_vals : RowIn s.vptr (length s.vals) r
    row_vals = row_values_lem s known.store r h

    ok : RowOk s.words r
    ok = record { facts = words_known; here = h; left = row_words_lem; right = row_masks_lem }

    -- the row's lent parts
    module _ (us ns : List ℕ) (ys : List Float) (eu : us ≡ part s.words.ptr s.words.word r) (en : ns ≡ part s.words.ptr s.words.mask r) (ey : ys ≡ part s.vptr s.vals r) where
      member_is : row_member us ns ≡ member s.words r
      unfolding member
      member_is = ap₂ (λ (a b : List ℕ). row_member a b) eu en

      count_is : length ys ≡ count (member s.words r) s.words.cols
      count_is = ap length ey ∙ known.store.row_counts r h

      pub ready : RowReady s.words.cols us ns ys a.bits x
      ready = record {
        columns_in = words_known.cols_in;
        sides = sides_lent s.words r ok us ns eu en;
        rule = rule_lent s.words r ok us ns eu en;
        values_are = count_is ∙ ap (λ (p : ℕ → Bool). count p s.words.cols) (sym member_is);
        mask_valid = ap (λ (k : ℕ). mask_answer (as_mask k a.bits)) (sym known.mask_size) ∙ known.mask;
        vector_long = known.vector;
      }

      -- the vector is as long as there are columns
      pub row_ready : RowReady (length x) us ns ys a.bits x
      row_ready = subst (λ (n : ℕ). RowReady n us ns ys a.bits x) (sym known.vector) ready

      -- a value of the row's part is the store's
      value_is : (c : ℕ) → c < s.words.cols → member s.words r c ≡ true → get_or ys (count (row_member us ns) c) nan ≡ value_at s r c
      value_is c l b =
          let p : ℕ → Bool = member s.words r in
          let z : count p c < length (part s.vptr s.vals r) = omega (arith, rank_lt p c s.words.cols l b, known.store.row_counts r h) in
          ap₂ (λ (k : List Float) (q : ℕ → Bool). get_or k (count q c) nan) ey member_is ∙ sym (value_in_row s known.store r h c z)

      pub row_dot_cols : (d : AbtmRowDot) → d ≡ row_dot s.words.cols us ns ys a.bits x → d ≡ dot_on s a x r
      unfolding dot_on
      row_dot_cols d q =
          let p : ℕ → Bool = member s.words r in
          let b : ℕ → Bool = active a in
          q ∙ ap (λ (k : ℕ). dot_of s.words.cols (row_member us ns) (λ c. get_or ys (count (row_member us ns) c) nan) (active (as_mask k a.bits)) (at x)) (sym known.mask_size)
          ∙ dot_cong s.words.cols (row_member us ns) p b b (λ c. get_or ys (count (row_member us ns) c) nan) (value_at s r) (at x) (at x)
          (λ c l. ap (λ (f : ℕ → Bool). f c) member_is) (λ c l. refl)
          (λ c l e. value_is c l (ap (λ (f : ℕ → Bool). f c) (sym member_is) ∙ and_left (row_member us ns c) (b c) e)) (λ c l e. refl)

      pub row_dot_is : (d : AbtmRowDot) → d ≡ row_dot (length x) us ns ys a.bits x → d ≡ dot_on s a x r
      row_dot_is d q = row_dot_cols d (q ∙ ap (λ (k : ℕ). row_dot k us ns ys a.bits x) known.vector)

-- ---- every row

-- at most as many products as columns
executed_few : (s : Store) (a : Mask) (x : List Float) (r : ℕ) → (dot_on s a x r).executed_products ≤ s.words.cols
unfolding dot_on dot_of
executed_few s a x r = length-below-le (both (member s.words r) (active a)) s.words.cols

-- the first r rows are written
pub record Filling (s : Store) (a : Mask) (x sums₀ : List Float) (counts₀ : List ℕ) (r : ℕ) (sums : List Float) (counts : List ℕ) : Type 0 where
  pub upto : r ≤ s.words.rows
  pub totals : Filled (λ r. (dot_on s a x r).sum) sums₀ r sums
  pub numbers : Filled (λ r. (dot_on s a x r).executed_products) counts₀ r counts

module _ (s : Store) (a : Mask) (x sums₀ : List Float) (counts₀ : List ℕ) where
  pub filling_none : Filling s a x sums₀ counts₀ 0 sums₀ counts₀
  filling_none = record { upto = omega arith; totals = filled_none (λ r. (dot_on s a x r).sum) sums₀; numbers = filled_none (λ r. (dot_on s a x r).executed_products) counts₀ }

  module _ (ls : length sums₀ ≡ s.words.rows) (lc : length counts₀ ≡ s.words.rows) (r : ℕ) (sums : List Float) (counts : List ℕ) (f : Filling s a x sums₀ counts₀ r sums counts) where
    pub filling_sums : length sums ≡ s.words.rows
    filling_sums = filled_length (λ r. (dot_on s a x r).sum) sums₀ r sums f.totals (omega (arith, ls, f.upto)) ∙ ls

    pub filling_counts : length counts ≡ s.words.rows
    filling_counts = filled_length (λ r. (dot_on s a x r).executed_products) counts₀ r counts f.numbers (omega (arith, lc, f.upto)) ∙ lc

    -- a count fits 32 bits
    pub filling_more : (d : AbtmRowDot) (k : ℕ) → s.words.cols ≤ 2 ^ 20 → r < s.words.rows → d ≡ dot_on s a x r → k ≡ d.executed_products % 2 ^ 32
        → Filling s a x sums₀ counts₀ (r + 1) (set sums r d.sum) (set counts r k)
    filling_more d k few l e q = record {
      upto = omega arith;
      totals = filled_more (λ r. (dot_on s a x r).sum) sums₀ r sums f.totals d.sum (ap (λ (y : AbtmRowDot). y.sum) e) (omega (arith, ls));
      numbers = filled_more (λ r. (dot_on s a x r).executed_products) counts₀ r counts f.numbers k whole (omega (arith, lc));
    }
      where
        whole : k ≡ (dot_on s a x r).executed_products
        whole = let z : d.executed_products ≡ (dot_on s a x r).executed_products = ap (λ (y : AbtmRowDot). y.executed_products) e in omega (arith, q, z, executed_few s a x r, few)

    module _ (g : s.words.rows ≤ r) where
      pub filling_totals : sums ≡ row_sums s a x
      unfolding row_sums
      filling_totals = filled_done (λ r. (dot_on s a x r).sum) sums₀ r sums f.totals s.words.rows ls f.upto g

      pub filling_numbers : counts ≡ row_counts s a x
      unfolding row_counts
      filling_numbers = filled_done (λ r. (dot_on s a x r).executed_products) counts₀ r counts f.numbers s.words.rows lc f.upto g

-- ---- what an accepted call may do

module _ (s : Store) (a : Mask) (x : List Float) (v : Result Unit HybitError) (ac : v ≡ Ok tt) where
  module _ (r : ℕ) (e : told v ≡ dot_answer s a x r) where
    pub dot_operands : operands_answer s a x ≡ accepted
    unfolding dot_answer
    dot_operands = then_first (operands_answer s a x) (demand (ltb r s.words.rows) 7) (accepted_by (dot_answer s a x r) v e ac)

    pub dot_row : r < s.words.rows
    unfolding dot_answer
    dot_row = ltb-true r s.words.rows (demand_accepted (ltb r s.words.rows) 7 (then_second (operands_answer s a x) (demand (ltb r s.words.rows) 7) (accepted_by (dot_answer s a x r) v e ac)))

  module _ (sums counts : ℕ) (e : told v ≡ rows_answer s a x sums counts) where
    pub rows_operands : operands_answer s a x ≡ accepted
    unfolding rows_answer
    rows_operands = then_first (operands_answer s a x) (demand (leb s.words.rows sums && leb s.words.rows counts) 13) (accepted_by (rows_answer s a x sums counts) v e ac)

    room : (leb s.words.rows sums && leb s.words.rows counts) ≡ true
    unfolding rows_answer
    room =
        demand_accepted (leb s.words.rows sums && leb s.words.rows counts) 13
        (then_second (operands_answer s a x) (demand (leb s.words.rows sums && leb s.words.rows counts) 13) (accepted_by (rows_answer s a x sums counts) v e ac))

    pub sums_room : s.words.rows ≤ sums
    sums_room = leb-true s.words.rows sums (and_left (leb s.words.rows sums) (leb s.words.rows counts) room)

    pub counts_room : s.words.rows ≤ counts
    counts_room = leb-true s.words.rows counts (and_right (leb s.words.rows sums) (leb s.words.rows counts) room)

-- ---- the lists that the rows' dots leave

module _ (s : Store) (a : Mask) (x : List Float) where
  pub sums_built : (front old last : List Float) → front ≡ row_sums s a x → s.words.rows ≤ length old → last ≡ padded zero64 (length (front ++ drop s.words.rows old)) (take s.words.rows (front ++ drop s.words.rows old))
      → last ≡ padded zero64 (length old) (row_sums s a x)
  unfolding row_sums
  sums_built front old last e h q = cleared_front zero64 s.words.rows (λ r. (dot_on s a x r).sum) front old last e h q

  pub counts_built : (front old last : List ℕ) → front ≡ row_counts s a x → s.words.rows ≤ length old → last ≡ padded 0 (length (front ++ drop s.words.rows old)) (take s.words.rows (front ++ drop s.words.rows old))
      → last ≡ padded 0 (length old) (row_counts s a x)
  unfolding row_counts
  counts_built front old last e h q = cleared_front 0 s.words.rows (λ r. (dot_on s a x r).executed_products) front old last e h q
