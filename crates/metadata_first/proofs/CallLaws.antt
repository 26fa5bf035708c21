-- What the calls on a store know once their checks have accepted, and how the checks follow one another. Assumes nothing but masks
-- of 64 bits.
use Rattle.std.specs.Prelude.{Result, Ok, Err}
use mathlib.Core.Bool.{Bool, true, false, ◌&&◌}
use mathlib.Core.List.{List}
use mathlib.Core.Path.{◌≡◌, refl, sym, ap, ap₂, ◌∙◌}
use Prim.Native.Nat.{ℕ, zero, suc, ◌+◌, ◌-◌, ◌*◌, ◌%◌, ◌^◌, ◌≤◌, ◌<◌}
use native.Mathlib.Nat.{le_refl}
use native.Mathlib.Omega.{arith}
use lib.Dec.{eqb, ltb}
use lib.ListN.{length, get_or, take, drop, length-append}
use lib.Seq.{get_or-take, get_or-drop}
use lib.Ieee.{Float, nan}
use borrow.Author.Tests.{leb-true, ltb-true, eqb-true}
use Rattle.hybit_core.specs.Answer.{Answer, accepted, refused, plain, demand, gives, answers, ◌and_then◌}
use Rattle.hybit_core.specs.Domain.{many}
use Rattle.hybit_core.specs.Floats.{finite}
use Rattle.hybit_core.specs.Table.{told, paper}
use Rattle.hybit_core.specs.declared.HybitError.{HybitError}
use Rattle.hybit_core.proofs.BoolLaws.{and_left, and_right, not-both, is_equal, is_unequal}
use Rattle.hybit_core.proofs.AnswerLaws.{demand_accepted, then_first, then_second, accepted_by, given_accepted, test_fails, test_passes, last_fails, last_passes}
use Rattle.lent.specs.Lists.{joined, part, every, spread}
use Rattle.lent.proofs.ListLaws.{every-part, part_lent}
use Rattle.word.specs.Bits.{count}
use Rattle.word.proofs.BitLaws.{every-below-at}
use Rattle.csr32.specs.Csr.{framed}
use Rattle.csr32.proofs.FrameLaws.{Framed, framed_facts, RowIn, row_in, part_length, lists_sides, lists_frame, parts_all, row_left, row_right}
use Rattle.topology.specs.Words.{as_words, member, word_sizes, word_rules, word_answer, set_bits}
use Rattle.topology.specs.Calls.{metadata_bytes}
use Rattle.topology.proofs.RowLaws.{small}
use Rattle.topology.proofs.TopologyLaws.{Accepted, accepted_facts}
use Rattle.topology.proofs.CallLaws.{popcount_is, lists_refused, lists_then, bits_counted}
use Rattle.topology.proofs.ScanLaws.{bits_append}
use Rattle.topology.proofs.QuestionLaws.{rank-all}
use Rattle.metadata_first.specs.Store.{Store, as_store, value_at, store_sizes, value_rules, store_rules, store_faults, store_answer, store_row_answer, store_stats}

-- ---- the checks in the code's order: the number of values, the words' own checks, the store's rules

module _ (s : Store) where
  pub values_first : false ≡ many (length s.vals) → refused (plain 1) ≡ store_answer s
  unfolding store_answer store_sizes
  values_first e = ap (λ (t : Bool). demand (t && word_sizes s.words) 1 and_then store_faults s) e

-- ---- a store that `check` accepted

pub record Stored (s : Store) : Type 0 where
  pub words_accepted : word_answer s.words ≡ accepted
  pub words_facts : Accepted s.words
  pub values_in : length s.vals ≤ 2 ^ 24
  pub frame : Framed s.words.rows s.vptr (length s.vals)
  pub row_counts : (r : ℕ) → r < s.words.rows → length (part s.vptr s.vals r) ≡ count (member s.words r) s.words.cols
  pub values_finite : every finite s.vals ≡ true

pub stored : (s : Store) → store_answer s ≡ accepted → Stored s
unfolding store_answer store_sizes store_faults store_rules value_rules word_answer
stored s e =
    let z : Bool = word_sizes s.words in
    let m : Bool = many (length s.vals) in
    let w : Bool = word_rules s.words in
    let f : Bool = framed s.words.rows s.vptr (length s.vals) in
    let v : Bool = value_rules s in
    let q : Bool = every finite s.vals in
    let sizes : (m && z) ≡ true = demand_accepted (m && z) 1 (then_first (demand (m && z) 1) (store_faults s) e) in
    let faults : store_faults s ≡ accepted = then_second (demand (m && z) 1) (store_faults s) e in
    let words : w ≡ true = demand_accepted w 11 (then_first (demand w 11) (demand (store_rules s) 12) faults) in
    let rules : store_rules s ≡ true = demand_accepted (store_rules s) 12 (then_second (demand w 11) (demand (store_rules s) 12) faults) in
    let counts : (f && v) ≡ true = and_left (f && v) q rules in
    let own : word_answer s.words ≡ accepted = ap₂ (λ (t u : Bool). demand t 1 and_then demand u 11) (and_right m z sizes) words in
    record {
      words_accepted = own;
      words_facts = accepted_facts s.words own;
      values_in = leb-true (length s.vals) (2 ^ 24) (and_left m z sizes);
      frame = framed_facts s.words.rows s.vptr (length s.vals) (and_left f v counts);
      row_counts = λ r l. eqb-true (length (part s.vptr s.vals r)) (count (member s.words r) s.words.cols)
          (every-below-at (λ r. eqb (length (part s.vptr s.vals r)) (count (member s.words r) s.words.cols)) (λ r. true) s.words.rows r (and_right f v counts) l refl);
      values_finite = and_right (f && v) q rules;
    }

pub checked : (s : Store) (v : Result Unit HybitError) → told v ≡ store_answer s → v ≡ Ok tt → Stored s
checked s v e a = stored s (accepted_by (store_answer s) v e a)

-- ---- the rest of the checks, once those of the words but their total have accepted

module _ (n m : ℕ) (ps ws ms : List ℕ) (vp : List ℕ) (vs : List Float) (q : true ≡ many (length vs)) (t : ℕ) where
  abbrev own : Store
  own = as_store n m ps ws ms (set_bits ms) vp vs

  -- the total, then the store's rules
  sizes_then : word_answer (as_words n m ps ws ms t) and_then demand (store_rules own) 12 ≡ store_answer (as_store n m ps ws ms t vp vs)
  unfolding store_answer store_sizes store_faults word_answer store_rules value_rules member
  sizes_then = go (word_sizes (as_words n m ps ws ms t)) (word_rules (as_words n m ps ws ms t)) ∙ ap (λ (u : Bool). demand (u && word_sizes (as_words n m ps ws ms t)) 1 and_then demand (word_rules (as_words n m ps ws ms t)) 11 and_then demand (store_rules own) 12) q
    where
      go : (z u : Bool) → ((demand z 1 and_then demand u 11) and_then demand (store_rules own) 12) ≡ (demand z 1 and_then demand u 11 and_then demand (store_rules own) 12)
      go true u = refl
      go false u = refl

  pub words_refused : (v : Result Unit HybitError) (x : HybitError) → told v ≡ word_answer (as_words n m ps ws ms (set_bits ms)) → v ≡ Err x → refused (paper x) ≡ store_answer (as_store n m ps ws ms t vp vs)
  words_refused v x e h = ap (λ (a : Answer). a and_then demand (store_rules own) 12) (lists_refused n m ps ws ms t v x e h) ∙ sizes_then

  module _ (a : word_answer (as_words n m ps ws ms (set_bits ms)) ≡ accepted) where
    total_then : demand (eqb t (set_bits ms)) 11 and_then demand (store_rules own) 12 ≡ store_answer (as_store n m ps ws ms t vp vs)
    total_then = ap (λ (b : Answer). b and_then demand (store_rules own) 12) (lists_then n m ps ws ms a t) ∙ sizes_then

    pub rules_fail : false ≡ store_rules own → (r : Answer) → r ≡ (demand (eqb t (set_bits ms % 2 ^ 64)) 11 and_then refused (plain 12)) → r ≡ store_answer (as_store n m ps ws ms t vp vs)
    rules_fail f r e =
        e ∙ ap₂ (λ (k : ℕ) (b : Answer). demand (eqb t k) 11 and_then b) (bits_counted n m ps ws ms a t (set_bits ms % 2 ^ 64) refl) (last_fails (store_rules own) 12 f)
        ∙ total_then

    module _ (tiny : small ms ≡ true) (ok : true ≡ store_rules own) where
      facts : Stored own
      unfolding store_answer store_sizes store_faults word_answer
      facts = stored own (go (word_sizes (as_words n m ps ws ms (set_bits ms))) (word_rules (as_words n m ps ws ms (set_bits ms))) (many (length vs)) (store_rules own) a (sym q) (sym ok))
        where
          go : (z w k r : Bool) → (demand z 1 and_then demand w 11) ≡ accepted → k ≡ true → r ≡ true → (demand (k && z) 1 and_then (demand w 11 and_then demand r 12)) ≡ accepted
          go true true true true e f g = refl
          go true false true true e f g = e
          go false w true true e f g = e
          go z w true false e f g = not-both false g refl
          go z w false r e f g = not-both false f refl

      -- as many set bits as values
      bits_values : set_bits ms ≡ length vs
      unfolding joined set_bits spread
      bits_values = sym (ap set_bits (parts_all n ps ms (lists_frame n ps (length ws) (length ms) facts.words_facts.lists))) ∙ upto n (le_refl n) ∙ ap length (parts_all n vp vs facts.frame)
        where
          upto : (k : ℕ) → k ≤ n → set_bits (joined (part ps ms) k) ≡ length (joined (part vp vs) k)
          upto zero h = refl
          upto (suc k) h =
              bits_append (joined (part ps ms) k) (part ps ms k)
              ∙ ap₂ (λ (i j : ℕ). i + j) (upto k (omega arith)) (sym (rank-all (as_words n m ps ws ms (set_bits ms)) k facts.words_facts tiny h) ∙ sym (facts.row_counts k h))
              ∙ sym (length-append (joined (part vp vs) k) (part vp vs k))

      pub values_differ : (t ≡ length vs → ⊥) → refused (plain 11) ≡ store_answer (as_store n m ps ws ms t vp vs)
      values_differ h = test_fails (eqb t (set_bits ms)) 11 (demand (store_rules own) 12) (is_unequal t (set_bits ms) (λ e. h (e ∙ bits_values))) ∙ total_then

      pub values_agree : t ≡ length vs → accepted ≡ store_answer (as_store n m ps ws ms t vp vs)
      values_agree h = test_passes (eqb t (set_bits ms)) 11 accepted (demand (store_rules own) 12) (is_equal t (set_bits ms) (h ∙ sym bits_values)) (last_passes (store_rules own) 12 ok) ∙ total_then

module _ (s : Store) (k : Stored s) (r : ℕ) (h : r < s.words.rows) where
  -- the row's values can be read
  pub row_values_lem : RowIn s.vptr (length s.vals) r
  row_values_lem = row_in s.words.rows s.vptr (length s.vals) r k.frame h

  -- a column's value stands in the row's part at the column's rank
  pub value_in_row : (c : ℕ) → count (member s.words r) c < length (part s.vptr s.vals r)
      → value_at s r c ≡ get_or (part s.vptr s.vals r) (count (member s.words r) c) nan
  unfolding value_at part
  value_in_row c l =
      let a : ℕ = get_or s.vptr r 0 in
      let b : ℕ = get_or s.vptr (r + 1) 0 in
      let n : ℕ = count (member s.words r) c in
      let i : a + n < b = omega (arith, l, part_length s.vptr s.vals r row_values_lem) in
      sym (get_or-drop a (take b s.vals) n nan ∙ get_or-take b s.vals (a + n) nan i)

-- the figures of an accepted store: its pointers are as many as its rows ask for
pub stats_given : (s : Store) (v : Result Unit HybitError) → told v ≡ store_answer s → v ≡ Ok tt
    → gives (record {
      nrows = s.words.rows;
      ncols = s.words.cols;
      structural_nnz = s.words.total;
      topology_metadata_bytes = 4 * (s.words.rows + 1) + 12 * length s.words.word;
      value_row_ptr_bytes = 4 * length s.vptr;
      packed_value_bytes = 8 * length s.vals;
    })
    ≡ answers (store_answer s) (store_stats s)
unfolding store_stats metadata_bytes
stats_given s v e a =
    let l : length s.vptr ≡ s.words.rows + 1 = omega (arith, (checked s v e a).frame.long) in
    given_accepted (store_answer s) (store_stats s)
    (record {
      nrows = s.words.rows;
      ncols = s.words.cols;
      structural_nnz = s.words.total;
      topology_metadata_bytes = 4 * (s.words.rows + 1) + 12 * length s.words.word;
      value_row_ptr_bytes = 4 * length s.vptr;
      packed_value_bytes = 8 * length s.vals;
    }) v e a
    (λ i. record {
      nrows = s.words.rows;
      ncols = s.words.cols;
      structural_nnz = s.words.total;
      topology_metadata_bytes = 4 * (s.words.rows + 1) + 12 * length s.words.word;
      value_row_ptr_bytes = 4 * l i;
      packed_value_bytes = 8 * length s.vals;
    })

-- ---- a row whose question the checks accept

module _ (s : Store) (r : ℕ) where
  pub record RowOk : Type 0 where
    pub facts : Stored s
    pub here : r < s.words.rows
    pub values : RowIn s.vptr (length s.vals) r

  pub row_ok : store_row_answer s r ≡ accepted → RowOk
  unfolding store_row_answer
  row_ok e =
      let k : Stored s = stored s (then_first (store_answer s) (demand (ltb r s.words.rows) 7) e) in
      let h : r < s.words.rows = ltb-true r s.words.rows (demand_accepted _ _ (then_second (store_answer s) (demand (ltb r s.words.rows) 7) e)) in
      record { facts = k; here = h; values = row_values_lem s k r h }

  pub row_checked : (v : Result Unit HybitError) → told v ≡ store_row_answer s r → v ≡ Ok tt → RowOk
  row_checked v e a = row_ok (accepted_by (store_row_answer s r) v e a)

-- ---- one row of `counts_hold`: words that are accepted, value pointers that keep their rule

pub values_here : (n : ℕ) (vp : List ℕ) (k r : ℕ) → framed n vp k ≡ true → r < n → RowIn vp k r
values_here n vp k r f h = row_in n vp k r (framed_facts n vp k f) h

module _ (n m : ℕ) (ps ws ms : List ℕ) (t : ℕ) (a : word_answer (as_words n m ps ws ms t) ≡ accepted) (r : ℕ) (h : r < n) where
  pub masks_here : RowIn ps (length ms) r
  masks_here = row_right n ps (length ws) (length ms) (accepted_facts (as_words n m ps ws ms t) a).lists r h

  pub start_small : get_or ps r 0 ≤ 2 ^ 24
  start_small =
      let k : Accepted (as_words n m ps ws ms t) = accepted_facts (as_words n m ps ws ms t) a in
      omega (arith, k.words_in, lists_sides n ps (length ws) (length ms) k.lists, masks_here.order, masks_here.inside)

  module _ (vp : List ℕ) (vs : List Float) (f : framed n vp (length vs) ≡ true) (tiny : small ms ≡ true) (start end first last k : ℕ) (es : start ≡ get_or ps r 0) (ee : end ≡ get_or ps (r + 1) 0) (ef : first ≡ get_or vp r 0) (el : last ≡ get_or vp (r + 1) 0)
      (ek : k ≡ set_bits (take (end - start) (drop start ms)) % 2 ^ 64) where
    columns_are : k ≡ count (member (as_words n m ps ws ms t) r) m
    columns_are =
        popcount_is (as_words n m ps ws ms t) r
        (record {
          facts = accepted_facts (as_words n m ps ws ms t) a;
          here = h;
          left = row_left n ps (length ws) (length ms) (accepted_facts (as_words n m ps ws ms t) a).lists r h;
          right = masks_here;
        })
        (part ps ws r) (take (end - start) (drop start ms)) refl (part_lent ps ms r start end es ee)
        (ap small (part_lent ps ms r start end es ee) ∙ every-part (λ m. ltb m (2 ^ 64)) ps ms r tiny) k ek

    values_are : length (part vp vs r) ≡ last - first
    values_are = omega (arith, part_length vp vs r (values_here n vp (length vs) r f h))

    pub counts_same : last - first ≡ k → true ≡ eqb (length (part vp vs r)) (count (member (as_words n m ps ws ms t) r) m)
    counts_same e = is_equal (length (part vp vs r)) (count (member (as_words n m ps ws ms t) r) m) (values_are ∙ e ∙ columns_are)

    pub counts_differ : (last - first ≡ k → ⊥) → false ≡ eqb (length (part vp vs r)) (count (member (as_words n m ps ws ms t) r) m)
    counts_differ d = is_unequal (length (part vp vs r)) (count (member (as_words n m ps ws ms t) r) m) (λ e. d (sym values_are ∙ e ∙ sym columns_are))
