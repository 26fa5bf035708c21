-- The checks of a set operation at each return of the code that runs them, and what an accepted call has. Assumes nothing but masks of 64 bits.
use Rattle.std.specs.Prelude.{Result, Ok, Err}
use mathlib.Core.Bool.{Bool, true, ◌&&◌}
use mathlib.Core.List.{List}
use mathlib.Core.Path.{◌≡◌, refl, sym, ap, ap₂, ◌∙◌}
use Prim.Native.Nat.{ℕ, suc, ◌+◌, ◌%◌, ◌^◌, ◌≤◌, ◌<◌}
use native.Mathlib.Nat.{le_refl, zero-add}
use native.Mathlib.Numerals.{add-one}
use native.Mathlib.Omega.{arith}
use lib.Dec.{leb}
use lib.ListN.{length, get_or, take, drop, set, length-set}
use lib.Seq.{take_at}
use borrow.Author.Tests.{leb-true, le-leb}
use Rattle.hybit_core.specs.Answer.{Answer, accepted, refused, demand, ◌and_then◌}
use Rattle.hybit_core.specs.Domain.{many}
use Rattle.hybit_core.specs.Table.{paper, told}
use Rattle.hybit_core.specs.declared.HybitError.{HybitError}
use Rattle.hybit_core.proofs.BoolLaws.{and_left, and_right, and_both}
use Rattle.hybit_core.proofs.AnswerLaws.{demand_accepted, then_first, then_second, call_refused, call_accepted, accepted_by}
use Rattle.lent.specs.Lists.{each}
use Rattle.lent.specs.Lent.{padded, Appended}
use Rattle.lent.proofs.ListLaws.{each_is, length-each}
use Rattle.lent.proofs.LentLaws.{Filled, filled_more, filled_length, appended_cleared, handed_used}
use Rattle.word.specs.Word.{combined}
use Rattle.word.specs.declared.Operation.{Operation}
use Rattle.csr32.specs.Csr.{framed_lists}
use Rattle.topology.specs.Words.{Words, as_words, member, row_rules, set_bits, word_answer}
use Rattle.topology.specs.Calls.{Room, as_room, fits_words, as_size, used_of}
use Rattle.topology.proofs.TopologyLaws.{total_bits, topology_checked}
use Rattle.topology.proofs.CallLaws.{bits_whole}
use Rattle.topology_pair.specs.Pair.{pair_answer, room_answer}
use Rattle.topology_pair.proofs.PairLaws.{Pair, pair_of}
use Rattle.topology_combine.specs.Combine.{combined_words, combine_answer}
use Rattle.topology_combine.proofs.RowsLaws.{TwoRecords, combined-words, combined_masks, words_most}
use Rattle.topology_combine.proofs.FillLaws.{masks_total, pointers_long, pointer_at, Filling, filling_none}

-- ---- two accepted records

module _ (a b : Words) (p : Pair a b) where
  pub pair_records : TwoRecords a.rows a.cols a.ptr a.word a.mask b.ptr b.word b.mask
  unfolding row_rules
  pair_records = record {
    one = record { lists = p.one.lists; rules = p.one_rules };
    two = record {
      lists = ap (λ (n : ℕ). framed_lists n b.ptr (length b.word) (length b.mask)) p.same_rows ∙ p.two.lists;
      rules = ap₂ (λ (n m : ℕ). row_rules (as_words n m b.ptr b.word b.mask 0)) p.same_rows p.same_cols ∙ p.two_rules;
    };
  }

-- the totals, and the second record's frame, don't matter
pub combined_same : (op : Operation) (a b : Words) → combined_words op a b ≡ combined_words op (as_words a.rows a.cols a.ptr a.word a.mask 0) (as_words a.rows a.cols b.ptr b.word b.mask 0)
unfolding member
combined_same op a b = refl

-- ---- room

module _ (op : Operation) (a b : Words) (room : Room) where
  pub room_is : room_answer a.rows (length (combined_words op a b).word) room ≡ demand (many (length (combined_words op a b).word)) 1 and_then demand (fits_words (combined_words op a b) room) 13
  unfolding room_answer fits_words
  room_is =
      let nw : ℕ = length (combined_words op a b).word in
      let em : nw ≡ length (combined_words op a b).mask = ap length (combined-words op a b) ∙ sym (masks_total op a b a.rows) ∙ sym (ap length (combined_masks op a b)) in
      ap₂ (λ (i j : ℕ). demand (many nw) 1 and_then demand (leb i room.ptr && leb nw room.word && leb j room.mask) 13) (sym (pointers_long op a b)) em

-- room for more is room for these
pub room_less : (rows n m : ℕ) (room : Room) → n ≤ m → room_answer rows m room ≡ accepted → room_answer rows n room ≡ accepted
unfolding room_answer
room_less rows n m room h e =
    let p : Bool = leb (suc rows) room.ptr in
    let q : Bool = leb m room.word in
    let r : Bool = leb m room.mask in
    let x : many m ≡ true = demand_accepted (many m) 1 (then_first (demand (many m) 1) (demand (p && q && r) 13) e) in
    let y : (p && q && r) ≡ true = demand_accepted (p && q && r) 13 (then_second (demand (many m) 1) (demand (p && q && r) 13) e) in
    let l : many n ≡ true = le-leb n (2 ^ 24) (omega (arith, leb-true m (2 ^ 24) x)) in
    let w : leb n room.word ≡ true = le-leb n room.word (omega (arith, leb-true m room.word (and_right p q (and_left (p && q) r y)))) in
    let k : leb n room.mask ≡ true = le-leb n room.mask (omega (arith, leb-true m room.mask (and_right (p && q) r y))) in
    ap₂ (λ (s t : Bool). demand s 1 and_then demand t 13) l
    (and_both (p && leb n room.word) (leb n room.mask) (and_both p (leb n room.word) (and_left p q (and_left (p && q) r y)) w) k)

-- ---- all checks: each return of `examine`

module _ (op : Operation) (a b : Words) (room : Room) (pv : Result Unit HybitError) (hp : told pv ≡ pair_answer a b) where
  pub combine_pair : (e : HybitError) → pv ≡ Err e → refused (paper e) ≡ combine_answer op a b room
  unfolding combine_answer
  combine_pair e k =
      call_refused (pair_answer a b) (demand (many (length (combined_words op a b).word)) 1 and_then demand (fits_words (combined_words op a b) room) 13) pv e hp k

  module _ (k : pv ≡ Ok tt) where
    combine_rest : (x : Answer) → x ≡ room_answer a.rows (length (combined_words op a b).word) room → x ≡ combine_answer op a b room
    unfolding combine_answer
    combine_rest x h =
        call_accepted (pair_answer a b) (demand (many (length (combined_words op a b).word)) 1 and_then demand (fits_words (combined_words op a b) room) 13) x pv hp k (h ∙ room_is op a b room)

    the_pair : Pair a b
    the_pair = pair_of a b (accepted_by (pair_answer a b) pv hp k)

    pub pair_checked : TwoRecords a.rows a.cols a.ptr a.word a.mask b.ptr b.word b.mask
    pair_checked = pair_records a b the_pair

    pub pair_few : length a.word + length b.word ≤ 2 ^ 25
    pair_few = omega (arith, the_pair.one.words_in, the_pair.two.words_in)

    -- the words are counted
    pub combine_counted : (x : Result Unit HybitError) (n : ℕ) → n ≡ length (combined_words op a b).word → told x ≡ room_answer a.rows n room → told x ≡ combine_answer op a b room
    combine_counted x n e h = combine_rest (told x) (h ∙ ap (λ (i : ℕ). room_answer a.rows i room) e)

    -- the words of both records together would fit
    pub combine_most : (x : Result Unit HybitError) → told x ≡ room_answer a.rows (length a.word + length b.word) room → x ≡ Ok tt → accepted ≡ combine_answer op a b room
    combine_most x h l =
        combine_rest accepted
        (sym (room_less a.rows (length (combined_words op a b).word) (length a.word + length b.word) room (words_most op a b the_pair) (accepted_by (room_answer a.rows (length a.word + length b.word) room) x h l)))

-- ---- an accepted call: what the rows are written with, and what the lists hold at the end

module _ (op : Operation) (a b : Words) (ptr₀ words₀ masks₀ : List ℕ) (taken : combine_answer op a b (as_room (length ptr₀) (length words₀) (length masks₀)) ≡ accepted) where
  -- the two records as the rows are read from them
  abbrev bare : Words
  bare = combined_words op (as_words a.rows a.cols a.ptr a.word a.mask 0) (as_words a.rows a.cols b.ptr b.word b.mask 0)

  abbrev rest : Answer
  rest = demand (many (length (combined_words op a b).word)) 1 and_then demand (fits_words (combined_words op a b) (as_room (length ptr₀) (length words₀) (length masks₀))) 13

  pub taken_pair : Pair a b
  unfolding combine_answer
  taken_pair = pair_of a b (then_first (pair_answer a b) rest taken)

  room-left : (many (length (combined_words op a b).word) ≡ true) × (fits_words (combined_words op a b) (as_room (length ptr₀) (length words₀) (length masks₀)) ≡ true)
  unfolding combine_answer
  room-left =
      let x : rest ≡ accepted = then_second (pair_answer a b) rest taken in
      let m : Answer = demand (many (length (combined_words op a b).word)) 1 in
      let f : Answer = demand (fits_words (combined_words op a b) (as_room (length ptr₀) (length words₀) (length masks₀))) 13 in
      (demand_accepted (many (length (combined_words op a b).word)) 1 (then_first m f x), demand_accepted (fits_words (combined_words op a b) (as_room (length ptr₀) (length words₀) (length masks₀))) 13 (then_second m f x))

  pub start : Filling op a b ptr₀ words₀ masks₀ 0 0 ptr₀ words₀ masks₀
  start = filling_none op a b ptr₀ words₀ masks₀ room-left.0 room-left.1

  module _ (n : ℕ) (ptr words masks : List ℕ) (f : Filled (λ k. get_or (combined_words op a b).ptr k 0) ptr₀ a.rows ptr) (w : Appended (combined_words op a b).word 0 n words₀ words) (m : Appended (combined_words op a b).mask 0 n masks₀ masks) where
    many-words : n ≡ length (combined_words op a b).word
    many-words = w.next ∙ zero-add (length (combined_words op a b).word)

    many_masks : n ≡ length (combined_words op a b).mask
    many_masks = m.next ∙ zero-add (length (combined_words op a b).mask)

    last_pointer : n ≡ get_or (combined_words op a b).ptr a.rows 0
    last_pointer =
        many-words ∙ ap length (combined-words op a b)
        ∙ sym (pointer_at op a b a.rows (le_refl a.rows))

    pub end_few : n ≤ 2 ^ 24
    end_few = omega (arith, many-words, leb-true (length (combined_words op a b).word) (2 ^ 24) room-left.0)

    pub end_frame : (a.rows < length ptr) × (length ptr ≡ length ptr₀)
    end_frame =
        let e : length ptr ≡ length ptr₀ = filled_length (λ k. get_or (combined_words op a b).ptr k 0) ptr₀ a.rows ptr f (omega (arith, start.ptr_room)) in
        (omega (arith, e, start.ptr_room), e)

    pub end_long : (x : ℕ) → length (set ptr a.rows x) ≡ length ptr₀
    end_long x = length-set ptr a.rows x ∙ end_frame.1

    pub end_masks_room : length masks ≡ length masks₀ → n ≤ length masks
    end_masks_room e = omega (arith, many-words, ap length (combined-words op a b), start.mask_room)

    pub end_pointers : (x : ℕ) (last : List ℕ) → x ≡ n % 2 ^ 32 → last ≡ padded 0 (length (set ptr a.rows x)) (take (a.rows + 1) (set ptr a.rows x)) → last ≡ padded 0 (length ptr₀) (combined_words op a b).ptr
    end_pointers x last e z =
        let g : ℕ → ℕ = λ k. get_or (combined_words op a b).ptr k 0 in
        let whole : x ≡ n = omega (arith, end_few) in
        let filled : Filled g ptr₀ (a.rows + 1) (set ptr a.rows x) = filled_more g ptr₀ a.rows ptr f x (whole ∙ last_pointer) start.ptr_room in
        let same : length (set ptr a.rows x) ≡ length ptr₀ = filled_length g ptr₀ (a.rows + 1) (set ptr a.rows x) filled (omega (arith, start.ptr_room)) in
        let long : length (combined_words op a b).ptr ≡ a.rows + 1 = pointers_long op a b ∙ sym (add-one a.rows) in
        let used : take (a.rows + 1) (set ptr a.rows x) ≡ (combined_words op a b).ptr =
        ap (take (a.rows + 1)) filled.is ∙ take_at (each g (a.rows + 1)) (drop (a.rows + 1) ptr₀) (a.rows + 1) (length-each g (a.rows + 1)) ∙ sym (each_is 0 g (a.rows + 1) (combined_words op a b).ptr long (λ k l. refl)) in
        z ∙ ap₂ (λ (i : ℕ) (l : List ℕ). padded 0 i l) same used

    pub end_words : (last : List ℕ) → length words ≡ length words₀ → last ≡ padded 0 (length words) (take n words) → last ≡ padded 0 (length words₀) (combined_words op a b).word
    end_words last s z = appended_cleared 0 (combined_words op a b).word n words₀ words last w s z

    pub end_masks : (last : List ℕ) → length masks ≡ length masks₀ → last ≡ padded 0 (length masks) (take n masks) → last ≡ padded 0 (length masks₀) (combined_words op a b).mask
    end_masks last s z = appended_cleared 0 (combined_words op a b).mask n masks₀ masks last m s z

    -- the number of words, and of their set bits
    pub end_used : (last : List ℕ) (t : ℕ) → length masks ≡ length masks₀ → last ≡ padded 0 (length masks) (take n masks) → t ≡ set_bits (take n last) % 2 ^ 64 → as_size n t ≡ used_of (combined_words op a b)
    end_used last t s z e =
        let long : length (combined_words op a b).mask ≡ n = sym many_masks in
        let used : take n last ≡ (combined_words op a b).mask = ap (take n) (end_masks last s z) ∙ handed_used 0 (length masks₀) accepted n (combined_words op a b).mask refl long in
        let bits : t ≡ (combined_words op a b).total =
        bits_whole (combined_words op a b).mask t (omega (arith, end_few)) (e ∙ ap (λ (l : List ℕ). set_bits l % 2 ^ 64) used) ∙ total_bits a.rows a.cols (λ r c. combined op (member a r c) (member b r c)) in
        ap₂ as_size many-words bits

-- ---- what an accepted set operation left is accepted by `topology::check`

pub combined_accepted : (op : Operation) (a b : Words) (room : Room) → combine_answer op a b room ≡ accepted → word_answer (combined_words op a b) ≡ accepted
unfolding combine_answer
combined_accepted op a b room e =
    let n : ℕ = length (combined_words op a b).word in
    let rest : Answer = demand (many n) 1 and_then demand (fits_words (combined_words op a b) room) 13 in
    let k : Pair a b = pair_of a b (then_first (pair_answer a b) rest e) in
    let few_words : many n ≡ true = demand_accepted (many n) 1 (then_first (demand (many n) 1) (demand (fits_words (combined_words op a b) room) 13) (then_second (pair_answer a b) rest e)) in
    topology_checked a.rows a.cols (λ r c. combined op (member a r c) (member b r c)) k.one.rows_in k.one.cols_in (leb-true n (2 ^ 24) few_words)
