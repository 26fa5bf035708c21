-- The record of a membership and values: it has these values, and `check` accepts it. Assumes nothing.
use mathlib.Core.Bool.{Bool, true, ◌&&◌}
use mathlib.Core.List.{List, map}
use mathlib.Core.Path.{◌≡◌, refl, sym, ap, ap₂, ◌∙◌}
use Prim.Native.Nat.{ℕ, ◌+◌, ◌^◌, ◌≤◌, ◌<◌}
use native.Mathlib.Omega.{arith}
use lib.Dec.{eqb}
use lib.ListN.{length, get_or, length-map}
use lib.Ieee.{Float, nan}
use borrow.Author.Tests.{le-leb, eq-eqb}
use Rattle.hybit_core.specs.Answer.{accepted, demand, ◌and_then◌}
use Rattle.hybit_core.specs.Domain.{many}
use Rattle.hybit_core.specs.Floats.{finite}
use Rattle.hybit_core.proofs.BoolLaws.{and_left, and_both}
use Rattle.hybit_core.proofs.AnswerLaws.{demand_accepted, then_first}
use Rattle.lent.specs.Lists.{joined, starts, part, every}
use Rattle.lent.proofs.ListLaws.{part-joined, get_or-joined, get_or-starts, joined_lengths, get_or-map-lt, length-starts}
use Rattle.word.specs.Bits.{below, count}
use Rattle.word.proofs.BelowLaws.{below-at-rank, rank_lt}
use Rattle.word.proofs.BitLaws.{count_cong, every-below}
use Rattle.mask.specs.Mask.{Mask, active}
use Rattle.csr32.specs.Csr.{framed, at}
use Rattle.csr32.proofs.FrameLaws.{framed-starts}
use Rattle.topology.specs.Words.{Words, topology_of, member, word_sizes, word_rules, word_answer}
use Rattle.topology.proofs.TopologyLaws.{member_in, topology_accepted, topology_checked}
use Rattle.metadata_first.specs.Store.{Store, packed_of, value_at, store_sizes, value_rules, store_rules, store_faults, store_answer}
use Rattle.metadata_first.specs.Dot.{dot_of, dot_on}
use Rattle.metadata_first.proofs.DotLaws.{dot_cong}

module _ (rows cols : ℕ) (p : ℕ → ℕ → Bool) (v : ℕ → ℕ → Float) where
  -- as many values as present columns
  sides : (n : ℕ) → length (joined (λ r. below (p r) cols) n) ≡ length (joined (λ r. map (v r) (below (p r) cols)) n)
  sides n = joined_lengths (λ r. below (p r) cols) (λ r. map (v r) (below (p r) cols)) n (λ r. sym (length-map (below (p r) cols) (v r)))

  pub packed_total : length (packed_of rows cols p v).vals ≡ (packed_of rows cols p v).words.total
  unfolding packed_of topology_of
  packed_total = sym (sides rows)

  pub packed_pointers : length (packed_of rows cols p v).vptr ≡ rows + 1
  unfolding packed_of
  packed_pointers = let e = length-starts (λ r. below (p r) cols) rows in omega arith

  module _ (r : ℕ) (h : r < rows) where
    -- its rows
    pub packed_row : part (packed_of rows cols p v).vptr (packed_of rows cols p v).vals r ≡ map (v r) (below (p r) cols)
    unfolding packed_of
    packed_row = part-joined (λ r. below (p r) cols) (λ r. map (v r) (below (p r) cols)) rows r (λ r. length-map (below (p r) cols) (v r)) h

    -- a present column's value is the one given
    pub value_of_packed : (c : ℕ) → c < cols → p r c ≡ true → value_at (packed_of rows cols p v) r c ≡ v r c
    unfolding value_at packed_of
    value_of_packed c l e =
        let f : ℕ → List ℕ = λ r. below (p r) cols in
        let g : ℕ → List Float = λ r. map (v r) (below (p r) cols) in
        let k : ℕ = length (below (p r) c) in
        let lk : k < length (below (p r) cols) = rank_lt (p r) c cols l e in
        let lg : k < length (g r) = omega (arith, length-map (f r) (v r)) in
        let s : get_or (starts f rows) r 0 ≡ length (joined g r) = get_or-starts f rows r (omega arith) ∙ sides r in
        let t : count (member (topology_of rows cols p) r) c ≡ k = count_cong c (member (topology_of rows cols p) r) (p r) (λ i d. member_in rows cols p r h i (omega arith)) in
        ap₂ (λ (a b : ℕ). get_or (joined g rows) (a + b) nan) s t
        ∙ get_or-joined g r rows k nan h lg
        ∙ get_or-map-lt (v r) (f r) k 0 nan lk
        ∙ ap (v r) (below-at-rank (p r) cols c l e)

    -- a row's dot is that of its columns and values
    pub dot_of_packed : (a : Mask) (x : List Float) → dot_on (packed_of rows cols p v) a x r ≡ dot_of cols (p r) (v r) (active a) (at x)
    unfolding dot_on packed_of topology_of
    dot_of_packed a x =
        dot_cong cols (member (topology_of rows cols p) r) (p r) (active a) (active a) (value_at (packed_of rows cols p v) r) (v r) (at x) (at x)
        (λ c l. member_in rows cols p r h c l) (λ c l. refl)
        (λ c l e. value_of_packed c l (sym (member_in rows cols p r h c l) ∙ and_left (member (topology_of rows cols p) r c) (active a c) e)) (λ c l e. refl)

    row_counts_lem : length (part (packed_of rows cols p v).vptr (packed_of rows cols p v).vals r) ≡ count (member (topology_of rows cols p) r) cols
    row_counts_lem =
        ap length packed_row ∙ length-map (below (p r) cols) (v r) ∙ sym (count_cong cols (member (topology_of rows cols p) r) (p r) (λ c l. member_in rows cols p r h c l))

  module _ (f : every finite (packed_of rows cols p v).vals ≡ true) where
    -- `check`'s 12 finds nothing in it where its values are finite
    pub packed_accepted : store_rules (packed_of rows cols p v) ≡ true
    unfolding store_rules value_rules packed_of topology_of
    packed_accepted =
        let s : Store = packed_of rows cols p v in
        let framing : framed rows s.vptr (length s.vals) ≡ true = framed-starts (λ r. below (p r) cols) rows (length s.vals) (sym (sides rows)) in
        and_both (framed rows s.vptr (length s.vals) && value_rules s) (every finite s.vals)
        (and_both (framed rows s.vptr (length s.vals)) (value_rules s) framing
        (every-below (λ r. eqb (length (part s.vptr s.vals r)) (count (member s.words r) cols)) (λ r. true) rows
        (λ r h e. eq-eqb (length (part s.vptr s.vals r)) (count (member s.words r) cols) (row_counts_lem r h))))
        f

    -- `check` accepts it where its sizes lie in the domain too
    pub packed_checked : rows ≤ 2 ^ 20 → cols ≤ 2 ^ 20 → length (packed_of rows cols p v).words.word ≤ 2 ^ 24 → length (packed_of rows cols p v).vals ≤ 2 ^ 24
        → store_answer (packed_of rows cols p v) ≡ accepted
    unfolding store_answer store_sizes store_faults word_answer packed_of
    packed_checked a b c d =
        let s : Store = packed_of rows cols p v in
        let t : Words = topology_of rows cols p in
        let w : word_sizes t ≡ true = demand_accepted (word_sizes t) 1 (then_first (demand (word_sizes t) 1) (demand (word_rules t) 11) (topology_checked rows cols p a b c)) in
        let z : (many (length s.vals) && word_sizes t) ≡ true = and_both (many (length s.vals)) (word_sizes t) (le-leb (length s.vals) (2 ^ 24) d) w in
        ap₂ (λ (x y : Bool). demand x 1 and_then demand y 11 and_then demand (store_rules s) 12) z (topology_accepted rows cols p)
        ∙ ap (λ (x : Bool). demand x 12) packed_accepted
