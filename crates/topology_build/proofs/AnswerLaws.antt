-- Laws of the public build: the tests of its rows, which lists are too short, and what each of its ends answers and leaves. Assumes nothing.
use Rattle.std.specs.Prelude.{Result, Ok, Err}
use mathlib.Core.Bool.{Bool, true, false, ◌&&◌, and-false}
use mathlib.Core.List.{List, [], ◌∷◌, ◌++◌}
use mathlib.Core.Path.{◌≡◌, refl, sym, ap, ap₂, ◌∙◌, subst}
use Prim.Native.Nat.{ℕ, min, ◌+◌, ◌%◌, ◌^◌, ◌≤◌, ◌<◌}
use native.Mathlib.Nat.{mod-eq_of_lt}
use native.Mathlib.Numerals.{add-one}
use native.Mathlib.Omega.{arith}
use native.Mathlib.Decide.{dec_lt}
use borrow.Author.Tests.{le-leb, lt-leb}
use lib.Dec.{leb}
use lib.Ieee.{Float}
use lib.ListN.{length, take, drop, set, length-append, length-set, length-take, length-drop}
use lib.Seq.{take-append-le, take-suc-set, take_all, length-take-le}
use Rattle.hybit_core.specs.Answer.{Answer, accepted, refused, demand, ◌and_then◌, Given, gives, refuses, answers}
use Rattle.hybit_core.specs.Table.{paper, told}
use Rattle.hybit_core.specs.declared.HybitError.{HybitError}
use Rattle.hybit_core.specs.declared.HybitError.TheVariants.{ShortList}
use Rattle.hybit_core.proofs.BoolLaws.{and_both, eqb_turned}
use Rattle.hybit_core.proofs.AnswerLaws.{accepted_by, refused_by}
use Rattle.lent.specs.Lists.{joined, each, starts, part, some}
use Rattle.lent.specs.Lent.{padded, built}
use Rattle.lent.proofs.ListLaws.{joined-le}
use Rattle.word.specs.Bits.{below}
use Rattle.mask.specs.Calls.{listed}
use Rattle.csr32.specs.Csr.{Csr, as_csr, csr_answer, entries, present}
use Rattle.csr32.proofs.FrameLaws.{parts_all}
use Rattle.csr32.proofs.CsrLaws.{Valid, checked, present_row}
use Rattle.topology.specs.Words.{Words, topology_of, set_bits, word_answer}
use Rattle.topology.specs.declared.TopologySize.{TopologySize}
use Rattle.topology.specs.Calls.{as_room, fits_words, as_size, used_of}
use Rattle.topology.proofs.TopologyLaws.{total_bits, topology_pointers, topology_sides, topology_checked}
use Rattle.levels.proofs.LevelLaws.{listed-few, columns_few}
use Rattle.topology_build.specs.Build.{topology_from, build_answer}
use Rattle.topology_build.specs.Making.{row_test, row_words, Rows, Ended}
use Rattle.topology_build.proofs.RowsLaws.{Source, source_of}

-- what the call answers, and what its lists of np, nw and nm places hold
abbrev Outcome : Answer → Given TopologySize → Words → ℕ → ℕ → ℕ → List ℕ → List ℕ → List ℕ → Type 0
Outcome a r t np nw nm op ow om = (r ≡ answers a (used_of t)) × ((op ≡ built 0 np a t.ptr) × ((ow ≡ built 0 nw a t.word) × (om ≡ built 0 nm a t.mask)))

refusal : (a : Answer) (e : HybitError) (t : Words) (np nw nm : ℕ) (op ow om : List ℕ) → a ≡ refused (paper e) → op ≡ padded 0 np [] → ow ≡ padded 0 nw [] → om ≡ padded 0 nm [] → Outcome a (refuses (paper e)) t np nw nm op ow om
refusal a e t np nw nm op ow om q x y z = rw q (refl, (x, (y, z)))

success : (a : Answer) (n b : ℕ) (t : Words) (np nw nm : ℕ) (op ow om : List ℕ) → a ≡ accepted → n ≡ length t.word → b ≡ t.total → op ≡ padded 0 np t.ptr → ow ≡ padded 0 nw t.word → om ≡ padded 0 nm t.mask
    → Outcome a (gives (as_size n b)) t np nw nm op ow om
success a n b t np nw nm op ow om q en eb x y z = rw q (ap₂ (λ (i j : ℕ). gives (as_size i j)) en eb, (x, (y, z)))

-- ---- which lists are too short

module _ (t : Words) (np nw nm : ℕ) where
  no_pointers : np < length t.ptr → fits_words t (as_room np nw nm) ≡ false
  unfolding fits_words
  no_pointers h = ap (λ (x : Bool). x && leb (length t.word) nw && leb (length t.mask) nm) (lt-leb (length t.ptr) np h)

  no_words : length t.mask ≡ length t.word → min nw nm < length t.word → fits_words t (as_room np nw nm) ≡ false
  unfolding fits_words
  no_words e h = go (dec_lt nw (length t.word))
    where
      go : Dec (nw < length t.word) → (leb (length t.ptr) np && leb (length t.word) nw && leb (length t.mask) nm) ≡ false
      go (yes l) = ap (λ (x : Bool). leb (length t.ptr) np && x && leb (length t.mask) nm) (lt-leb (length t.word) nw l) ∙ ap (λ (x : Bool). x && leb (length t.mask) nm) (and-false (leb (length t.ptr) np))
      go (no l) = ap (λ (x : Bool). leb (length t.ptr) np && leb (length t.word) nw && x) (lt-leb (length t.mask) nm (omega arith)) ∙ and-false (leb (length t.ptr) np && leb (length t.word) nw)

  has_room : length t.ptr ≤ np → length t.word ≤ nw → length t.mask ≤ nm → fits_words t (as_room np nw nm) ≡ true
  unfolding fits_words
  has_room x y z =
      and_both (leb (length t.ptr) np && leb (length t.word) nw) (leb (length t.mask) nm)
      (and_both (leb (length t.ptr) np) (leb (length t.word) nw) (le-leb (length t.ptr) np x) (le-leb (length t.word) nw y)) (le-leb (length t.mask) nm z)

-- ---- at most as many words and columns as entries
module _ (rows cols : ℕ) (ptr col : List ℕ) (src : Source rows cols ptr col) where
  words-few : length (joined (row_words (row_test ptr col) cols) rows) ≤ length col
  words-few =
      omega (arith, joined-le (row_words (row_test ptr col) cols) (part ptr col) rows (λ r h. listed-few (part ptr col r) cols), ap length (parts_all rows ptr col src.frame))

  total_few : (topology_of rows cols (row_test ptr col)).total ≤ length col
  unfolding topology_of
  total_few =
      omega (arith, joined-le (λ r. below (row_test ptr col r) cols) (part ptr col) rows (λ r h. columns_few (part ptr col r) cols), ap length (parts_all rows ptr col src.frame))

-- ---- after the check of the plot list, which gave the verdict v

module _ (rows cols : ℕ) (ptr col : List ℕ) (val : List Float) (v : Result Unit HybitError) (t : told v ≡ csr_answer (as_csr rows cols ptr col val)) (op ow om : List ℕ) where
  abbrev m : Csr
  m = as_csr rows cols ptr col val

  abbrev whole : Answer
  whole = build_answer m (as_room (length op) (length ow) (length om))

  pub from_refused : (op2 ow2 om2 : List ℕ) (e : HybitError) → v ≡ Err e → op2 ≡ padded 0 (length op) [] → ow2 ≡ padded 0 (length ow) [] → om2 ≡ padded 0 (length om) []
      → Outcome whole (refuses (paper e)) (topology_from m) (length op) (length ow) (length om) op2 ow2 om2
  unfolding build_answer
  from_refused op2 ow2 om2 e k x y z =
      refusal whole e (topology_from m) (length op) (length ow) (length om) op2 ow2 om2
      (ap (λ (a : Answer). a and_then demand (fits_words (topology_from m) (as_room (length op) (length ow) (length om))) 13) (refused_by (csr_answer m) v e t k)) x y z

  module _ (k : v ≡ Ok tt) where
    ok : Valid m
    ok = checked m v t k

    source_by : Source rows cols ptr col
    source_by = source_of m (accepted_by (csr_answer m) v t k)

    tests : row_test ptr col ≡ (λ r. present (entries m r))
    unfolding listed
    tests = λ i r c. (ap (λ (q : ℕ → Bool). some q (part ptr col r)) (λ j d. eqb_turned c d j) ∙ sym (present_row ok r c)) i

    -- the record, by the rows as the code reads them
    record_is : topology_of rows cols (row_test ptr col) ≡ topology_from m
    record_is = ap (topology_of rows cols) tests

    accepts : word_answer (topology_from m) ≡ accepted
    unfolding topology_of
    accepts = ap word_answer (sym record_is) ∙ topology_checked rows cols (row_test ptr col) ok.rows_in ok.cols_in (omega (arith, words-few rows cols ptr col source_by, ok.entries_in))

    decides : (b : Bool) → fits_words (topology_of rows cols (row_test ptr col)) (as_room (length op) (length ow) (length om)) ≡ b → whole ≡ demand b 13
    unfolding build_answer
    decides b e =
        ap₂ (λ (a : Answer) (s : Words). a and_then demand (fits_words s (as_room (length op) (length ow) (length om))) 13) (accepted_by (csr_answer m) v t k) (sym record_is)
        ∙ ap (λ (x : Bool). demand x 13) e

    pub from_no_rows : (op2 ow2 om2 : List ℕ) → length op ≤ rows → op2 ≡ padded 0 (length op) [] → ow2 ≡ padded 0 (length ow) [] → om2 ≡ padded 0 (length om) []
        → Outcome whole (refuses (paper ShortList)) (topology_from m) (length op) (length ow) (length om) op2 ow2 om2
    from_no_rows op2 ow2 om2 h x y z =
        refusal whole ShortList (topology_from m) (length op) (length ow) (length om) op2 ow2 om2
        (decides false (no_pointers (topology_of rows cols (row_test ptr col)) (length op) (length ow) (length om) (omega (arith, topology_pointers rows cols (row_test ptr col))))) x y z

    -- the rows are written to the fronts of the lists, of `room` places, and n is what `build` answered
    module _ (room : ℕ) (er : room ≡ min (length ow) (length om)) (n : ℕ) (op1 ws1 ms1 : List ℕ) (f : Ended (row_test ptr col) cols rows n op1 ws1 ms1)
        (lo : length op1 ≡ length op) (lw : length ws1 ≡ length (take room ow)) (lm : length ms1 ≡ length (take room om)) where
      words_room : length ws1 ≡ room
      words_room = omega (arith, length-take room ow)

      masks_room : length ms1 ≡ room
      masks_room = omega (arith, length-take room om)

      words_same : length (ws1 ++ drop room ow) ≡ length ow
      words_same = omega (arith, length-append ws1 (drop room ow), length-drop room ow, words_room)

      masks_same : length (ms1 ++ drop room om) ≡ length om
      masks_same = omega (arith, length-append ms1 (drop room om), length-drop room om, masks_room)

      pub from_short : (op2 ow2 om2 : List ℕ) → room < n → op2 ≡ padded 0 (length op1) [] → ow2 ≡ padded 0 (length (ws1 ++ drop room ow)) [] → om2 ≡ padded 0 (length (ms1 ++ drop room om)) []
          → Outcome whole (refuses (paper ShortList)) (topology_from m) (length op) (length ow) (length om) op2 ow2 om2
      unfolding topology_of
      from_short op2 ow2 om2 h x y z =
          let over : length ws1 < length (joined (row_words (row_test ptr col) cols) rows) = f.over (omega (arith, words_room)) in
          refusal whole ShortList (topology_from m) (length op) (length ow) (length om) op2 ow2 om2
          (decides false (no_words (topology_of rows cols (row_test ptr col)) (length op) (length ow) (length om) (sym (topology_sides rows cols (row_test ptr col))) (omega (arith, words_room))))
          (x ∙ ap (λ (i : ℕ). padded 0 i []) lo) (y ∙ ap (λ (i : ℕ). padded 0 i []) words_same) (z ∙ ap (λ (i : ℕ). padded 0 i []) masks_same)

      module _ (l : n ≤ room) where
        all : Rows (row_test ptr col) cols rows n op1 ws1 ms1
        all = f.fits (omega (arith, words_room))

        starts_are : (w : ℕ) → rows < length op → w ≡ n % 2 ^ 32 → take (rows + 1) (set op1 rows w) ≡ (topology_of rows cols (row_test ptr col)).ptr
        unfolding topology_of starts each joined
        starts_are w h e =
            let i : w ≡ length (joined (row_words (row_test ptr col) cols) rows) = e ∙ mod-eq_of_lt (omega (arith, all.count, words-few rows cols ptr col source_by, source_by.entries_in)) ∙ all.count in
            ap (λ (k : ℕ). take k (set op1 rows w)) (add-one rows) ∙ take-suc-set op1 rows w (omega arith) ∙ ap₂ (λ (s : List ℕ) (x : ℕ). s ++ x ∷ []) all.starts_are i

        words_are : take n (ws1 ++ drop room ow) ≡ (topology_of rows cols (row_test ptr col)).word
        unfolding topology_of
        words_are = take-append-le n ws1 (drop room ow) (omega (arith, words_room)) ∙ all.words_are

        masks_are : take n (ms1 ++ drop room om) ≡ (topology_of rows cols (row_test ptr col)).mask
        unfolding topology_of
        masks_are = take-append-le n ms1 (drop room om) (omega (arith, masks_room)) ∙ all.masks_are

        count_is : n ≡ length (topology_of rows cols (row_test ptr col)).word
        unfolding topology_of
        count_is = all.count

        total_is : (om2 : List ℕ) (b : ℕ) → om2 ≡ padded 0 (length (ms1 ++ drop room om)) (take n (ms1 ++ drop room om)) → b ≡ set_bits (take n om2) % 2 ^ 64 → b ≡ (topology_of rows cols (row_test ptr col)).total
        unfolding padded
        total_is om2 b z eb =
            let front : List ℕ = take n (ms1 ++ drop room om) in
            let long : length (take n (ms1 ++ drop room om)) ≡ n = length-take-le n (ms1 ++ drop room om) (omega (arith, masks_same)) in
            let used : take n om2 ≡ (topology_of rows cols (row_test ptr col)).mask = ap (take n) z ∙ take-append-le n front _ (omega arith) ∙ take_all n front (omega arith) ∙ masks_are in
            let bits : set_bits (take n om2) ≡ (topology_of rows cols (row_test ptr col)).total = ap set_bits used ∙ total_bits rows cols (row_test ptr col) in
            eb ∙ ap (λ (i : ℕ). i % 2 ^ 64) bits ∙ mod-eq_of_lt (omega (arith, total_few rows cols ptr col source_by, source_by.entries_in))

        pub from-built : (op2 ow2 om2 : List ℕ) (w b : ℕ) → rows < length op → w ≡ n % 2 ^ 32
            → op2 ≡ padded 0 (length (set op1 rows w)) (take (rows + 1) (set op1 rows w)) → ow2 ≡ padded 0 (length (ws1 ++ drop room ow)) (take n (ws1 ++ drop room ow))
            → om2 ≡ padded 0 (length (ms1 ++ drop room om)) (take n (ms1 ++ drop room om)) → b ≡ set_bits (take n om2) % 2 ^ 64
            → Outcome whole (gives (as_size n b)) (topology_from m) (length op) (length ow) (length om) op2 ow2 om2
        from-built op2 ow2 om2 w b h ew x y z eb =
            subst (λ (s : Words). Outcome whole (gives (as_size n b)) s (length op) (length ow) (length om) op2 ow2 om2) record_is
            (success whole n b (topology_of rows cols (row_test ptr col)) (length op) (length ow) (length om) op2 ow2 om2
            (decides true
            (has_room (topology_of rows cols (row_test ptr col)) (length op) (length ow) (length om) (omega (arith, topology_pointers rows cols (row_test ptr col))) (omega (arith, count_is))
            (omega (arith, count_is, sym (topology_sides rows cols (row_test ptr col))))))
            count_is (total_is om2 b z eb)
            (x ∙ ap₂ (λ (i : ℕ) (s : List ℕ). padded 0 i s) (length-set op1 rows w ∙ lo) (starts_are w h ew))
            (y ∙ ap₂ (λ (i : ℕ) (s : List ℕ). padded 0 i s) words_same words_are)
            (z ∙ ap₂ (λ (i : ℕ) (s : List ℕ). padded 0 i s) masks_same masks_are))

-- ---- the words of an accepted plot list are accepted by `topology::check`

pub built_accepted : (m : Csr) → csr_answer m ≡ accepted → word_answer (topology_from m) ≡ accepted
built_accepted m e = accepts m.rows m.cols m.ptr m.col m.val (Ok tt) (sym e) [] [] [] refl
