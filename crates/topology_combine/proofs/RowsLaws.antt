-- Two records of one frame, row by row: what the rows are as the code hands them out, and how many words they have. Assumes nothing.
use mathlib.Core.Bool.{Bool, true, false, not, ◌&&◌, and-false}
use mathlib.Core.List.{List, [], ◌∷◌, map}
use mathlib.Core.Path.{◌≡◌, refl, sym, ap, ap₂, ◌∙◌}
use Prim.Native.Nat.{ℕ, zero, suc, ◌+◌, ◌*◌, ◌/◌, ◌%◌, ◌^◌, ◌≤◌, ◌<◌}
use native.Mathlib.Nat.{le_refl}
use native.Mathlib.Numerals.{add-one}
use native.Mathlib.Omega.{arith}
use lib.Dec.{eqb, ltb}
use lib.ListN.{length, get_or, length-map}
use lib.Pow.{pow_pos}
use mir.Val.{bool_byte}
use borrow.Author.Tests.{eq-eqb, ne_eqb, eqb-true, eqb-false}
use Rattle.lent.specs.Lists.{joined, starts, part}
use Rattle.lent.proofs.ListLaws.{length-joined-suc}
use Rattle.csr32.specs.Csr.{framed_lists}
use Rattle.csr32.proofs.FrameLaws.{Framed, lists_sides, lists_frame, part_lengths, parts-length}
use Rattle.word.specs.Bits.{has, count, within, mask_of, hit, ceil64, words_of}
use Rattle.word.specs.Word.{combined}
use Rattle.word.specs.declared.Operation.{Operation}
use Rattle.word.proofs.BelowLaws.{below-zero, length-below-suc, none-counted, byte_le}
use Rattle.word.proofs.BitLaws.{has-none, every-below-at}
use Rattle.word.proofs.OpLaws.{word_is_lem, word_cong}
use Rattle.topology.specs.Words.{Words, as_words, topology_of, member, mask_in, row_member, row_rule, row_rules}
use Rattle.topology.proofs.RowLaws.{mask_in_none, mask_in_short, mask_in_cons}
use Rattle.topology_pair.proofs.PairLaws.{Pair}
use Rattle.topology_combine.specs.Combine.{combined_words, combined_row}
use Rattle.topology_combine.proofs.MergeLaws.{joint, hit-none, words-few}

-- ---- the combined record by its rows

abbrev pub words_at : Operation → Words → Words → ℕ → List ℕ
words_at op a b r = words_of (λ c. combined op (member a r c) (member b r c)) a.cols

abbrev pub masks_at : Operation → Words → Words → ℕ → List ℕ
masks_at op a b r = map (mask_of (λ c. combined op (member a r c) (member b r c)) a.cols) (words_of (λ c. combined op (member a r c) (member b r c)) a.cols)

module _ (op : Operation) (a b : Words) where
  pub combined-words : (combined_words op a b).word ≡ joined (words_at op a b) a.rows
  unfolding topology_of
  combined-words = refl

  pub combined_masks : (combined_words op a b).mask ≡ joined (masks_at op a b) a.rows
  unfolding topology_of
  combined_masks = refl

  pub combined_ptr : (combined_words op a b).ptr ≡ starts (words_at op a b) a.rows
  unfolding topology_of
  combined_ptr = refl

  pub masks_long : (r : ℕ) → length (masks_at op a b r) ≡ length (words_at op a b r)
  masks_long r = length-map (words_at op a b r) (mask_of (λ c. combined op (member a r c) (member b r c)) a.cols)

-- ---- no more words than both rows have

count-or : (f g h : ℕ → Bool) (n : ℕ) → ((w : ℕ) → g w ≡ false → h w ≡ false → f w ≡ false) → count f n ≤ count g n + count h n
count-or f g h zero e = omega (arith, ap length (below-zero f))
count-or f g h (suc n) e =
    omega (arith, length-below-suc f n, length-below-suc g n, length-below-suc h n, count-or f g h n e, one (f n) (g n) (h n) (e n))
  where
    one : (s t u : Bool) → (t ≡ false → u ≡ false → s ≡ false) → bool_byte s ≤ bool_byte t + bool_byte u
    one s true u d = omega (arith, byte_le s)
    one s false true d = omega (arith, byte_le s)
    one s false false d = omega (arith, ap bool_byte (d refl refl))

words-or : (op : Operation) (p q : ℕ → Bool) (n : ℕ) → length (words_of (joint op p q) n) ≤ length (words_of p n) + length (words_of q n)
unfolding words_of
words-or op p q n = count-or (hit (joint op p q) n) (hit p n) (hit q n) (ceil64 n) (hit-none op p q n)

count-one : (v n : ℕ) → count (λ w. eqb w v) n ≤ 1
count-one v zero = omega (arith, ap length (below-zero (λ w. eqb w v)))
count-one v (suc n) = go (eqb n v) refl (count-one v n)
  where
    go : (t : Bool) → eqb n v ≡ t → count (λ w. eqb w v) n ≤ 1 → count (λ w. eqb w v) (suc n) ≤ 1
    go true e h = omega (arith, length-below-suc (λ w. eqb w v) n, byte_le (eqb n v), none-counted (λ w. eqb w v) n (λ i l. ne_eqb i v (λ d. omega (arith, eqb-true n v e))))
    go false e h = omega (arith, length-below-suc (λ w. eqb w v) n, ap bool_byte e)

-- a word where two tests are one
module _ (p q : ℕ → Bool) (n w : ℕ) (same : (i : ℕ) → i < 64 → p (64 * w + i) ≡ q (64 * w + i)) where
  hit_same : hit p n w ≡ hit q n w
  unfolding mask_of
  hit_same = ap (λ (m : ℕ). not (eqb m 0)) (word_cong (λ i. within n p (64 * w + i)) (λ i. within n q (64 * w + i)) (λ i l. ap (λ (t : Bool). ltb (64 * w + i) n && t) (same i l)))

hit-never : (n w : ℕ) → hit (λ c. false) n w ≡ false
unfolding mask_of
hit-never n w = ap not (eq-eqb (mask_of (λ c. false) n w) 0 (sym (word_is_lem 0 (λ i. within n (λ c. false) (64 * w + i)) (pow_pos 64) (λ i l. has-none i ∙ sym (and-false (ltb (64 * w + i) n))))))

-- a row's test holds no word but those that the row lists
unlisted : (n w : ℕ) (ws ms : List ℕ) → mask_in ws ms w ≡ 0 → hit (row_member ws ms) n w ≡ false
unfolding row_member
unlisted n w ws ms e =
    hit_same (row_member ws ms) (λ c. false) n w
    (λ i l. let a : (64 * w + i) / 64 ≡ w = omega arith in
    ap (λ (v : ℕ). has (mask_in ws ms v) ((64 * w + i) % 64)) a ∙ ap (λ (k : ℕ). has k ((64 * w + i) % 64)) e ∙ has-none ((64 * w + i) % 64))
    ∙ hit-never n w

words-bound : (n : ℕ) (ws ms : List ℕ) → length (words_of (row_member ws ms) n) ≤ length ws
unfolding words_of row_member
words-bound n [] ms = omega (arith, none-counted (hit (row_member [] ms) n) (ceil64 n) (λ w l. unlisted n w [] ms (mask_in_none ms w)))
words-bound n (v ∷ ws) [] = omega (arith, none-counted (hit (row_member (v ∷ ws) []) n) (ceil64 n) (λ w l. unlisted n w (v ∷ ws) [] (mask_in_short v ws w)))
words-bound n (v ∷ ws) (m ∷ ms) =
    omega (arith, count-or (hit (row_member (v ∷ ws) (m ∷ ms)) n) (λ w. eqb w v) (hit (row_member ws ms) n) (ceil64 n) step, count-one v (ceil64 n), words-bound n ws ms)
  where
    step : (w : ℕ) → eqb w v ≡ false → hit (row_member ws ms) n w ≡ false → hit (row_member (v ∷ ws) (m ∷ ms)) n w ≡ false
    step w e h =
        hit_same (row_member (v ∷ ws) (m ∷ ms)) (row_member ws ms) n w
        (λ i l. let a : (64 * w + i) / 64 ≡ w = omega arith in
        let b : mask_in (v ∷ ws) (m ∷ ms) w ≡ mask_in ws ms w = mask_in_cons v m ws ms w ∙ rw (ne_eqb v w (λ d. eqb-false w v e (sym d))) in
        ap (λ (k : ℕ). has (mask_in (v ∷ ws) (m ∷ ms) k) ((64 * w + i) % 64)) a ∙ ap (λ (k : ℕ). has k ((64 * w + i) % 64)) b ∙ ap (λ (k : ℕ). has (mask_in ws ms k) ((64 * w + i) % 64)) (sym a))
        ∙ h

-- ---- records that keep the rules of 11, but for the total

pub record Keeps (rows cols : ℕ) (ptr ws ms : List ℕ) : Type 0 where
  pub lists : framed_lists rows ptr (length ws) (length ms) ≡ true
  pub rules : row_rules (as_words rows cols ptr ws ms 0) ≡ true

pub record TwoRecords (rows cols : ℕ) (ptr ws ms otr vs ns : List ℕ) : Type 0 where
  pub one : Keeps rows cols ptr ws ms
  pub two : Keeps rows cols otr vs ns

record Kept (rows cols : ℕ) (ptr ws ms : List ℕ) : Type 0 where
  pub sides : length ws ≡ length ms
  pub frame : Framed rows ptr (length ms)
  pub rule : (r : ℕ) → r < rows → row_rule cols (part ptr ws r) (part ptr ms r) ≡ true

kept_of_lem : (rows cols : ℕ) (ptr ws ms : List ℕ) → Keeps rows cols ptr ws ms → Kept rows cols ptr ws ms
unfolding row_rules
kept_of_lem rows cols ptr ws ms k = record {
  sides = lists_sides rows ptr (length ws) (length ms) k.lists;
  frame = lists_frame rows ptr (length ws) (length ms) k.lists;
  rule = λ r h. every-below-at (λ r. row_rule cols (part ptr ws r) (part ptr ms r)) (λ r. true) rows r k.rules h refl;
}

-- the pointers frame the words as they do the masks
words_frame : (rows : ℕ) (ptr ws ms : List ℕ) → framed_lists rows ptr (length ws) (length ms) ≡ true → Framed rows ptr (length ws)
words_frame rows ptr ws ms e = rw (lists_sides rows ptr (length ws) (length ms) e) (lists_frame rows ptr (length ws) (length ms) e)

module _ (rows cols : ℕ) (ptr ws ms otr vs ns : List ℕ) (t : TwoRecords rows cols ptr ws ms otr vs ns) where
  left : Kept rows cols ptr ws ms
  left = kept_of_lem rows cols ptr ws ms t.one

  right : Kept rows cols otr vs ns
  right = kept_of_lem rows cols otr vs ns t.two

  left_frame : Framed rows ptr (length ws)
  left_frame = words_frame rows ptr ws ms t.one.lists

  right_frame : Framed rows otr (length vs)
  right_frame = words_frame rows otr vs ns t.two.lists

  -- row r of either: its sides, and its rule
  two-rows : (r : ℕ) → r < rows
      → ((length (part ptr ms r) ≡ length (part ptr ws r)) × (row_rule cols (part ptr ws r) (part ptr ms r) ≡ true))
      × ((length (part otr ns r) ≡ length (part otr vs r)) × (row_rule cols (part otr vs r) (part otr ns r) ≡ true))
  two-rows r h = ((sym (part_lengths ptr ws ms r left.sides), left.rule r h), (sym (part_lengths otr vs ns r right.sides), right.rule r h))

  -- as the code lends them: lists that are the rows' parts
  module _ (r : ℕ) (ws' ms' vs' ns' : List ℕ) (ew : ws' ≡ part ptr ws r) (em : ms' ≡ part ptr ms r) (ev : vs' ≡ part otr vs r) (en : ns' ≡ part otr ns r) where
    pub lent_rows : r < rows → ((length ms' ≡ length ws') × (row_rule cols ws' ms' ≡ true)) × ((length ns' ≡ length vs') × (row_rule cols vs' ns' ≡ true))
    lent_rows h = rw (ew, em, ev, en) (two-rows r h)

-- ---- row r of two records, as the code hands it out: lists that are its parts

module _ (a b : Words) (r : ℕ) (ws ms vs ns : List ℕ) (ew : ws ≡ part a.ptr a.word r) (em : ms ≡ part a.ptr a.mask r) (ev : vs ≡ part b.ptr b.word r) (en : ns ≡ part b.ptr b.mask r) where
  module _ (p : Pair a b) (h : r < a.rows) where
    pub lent_rule : row_rule a.cols ws ms ≡ true
    lent_rule = rw (ew, em) (p.one.each_row r h)

    pub lent_other : row_rule a.cols vs ns ≡ true
    lent_other = rw (ev, en, p.same_cols) (p.two.each_row r (omega (arith, p.same_rows)))

  lent_test : (op : Operation) → combined_row op ws ms vs ns ≡ (λ c. combined op (member a r c) (member b r c))
  unfolding member
  lent_test op =
      ap₂ (λ (x y : List ℕ). combined_row op x y vs ns) ew em
      ∙ ap₂ (λ (x y : List ℕ). combined_row op (part a.ptr a.word r) (part a.ptr a.mask r) x y) ev en

  pub lent_words : (op : Operation) → words_of (combined_row op ws ms vs ns) a.cols ≡ words_at op a b r
  lent_words op = ap (λ (p : ℕ → Bool). words_of p a.cols) (lent_test op)

  pub lent_masks : (op : Operation) → map (mask_of (combined_row op ws ms vs ns) a.cols) (words_of (combined_row op ws ms vs ns) a.cols) ≡ masks_at op a b r
  lent_masks op = ap (λ (p : ℕ → Bool). map (mask_of p a.cols) (words_of p a.cols)) (lent_test op)

  -- one row more is counted
  pub counting_more : (op : Operation) (k m : ℕ) → k ≡ length (joined (words_at op a b) r) → m ≡ length (words_of (combined_row op ws ms vs ns) a.cols) → k + m ≡ length (joined (words_at op a b) (r + 1))
  counting_more op k m x y =
      ap₂ (λ (i j : ℕ). i + j) x (y ∙ ap length (lent_words op))
      ∙ sym (ap (λ (i : ℕ). length (joined (words_at op a b) i)) (add-one r) ∙ length-joined-suc (words_at op a b) r)

-- ---- how many words there are

module _ (op : Operation) (a b : Words) where
  pub counting_done : (k r : ℕ) → r ≡ a.rows → k ≡ length (joined (words_at op a b) r) → k ≡ length (combined_words op a b).word
  counting_done k r e h = h ∙ ap (λ (i : ℕ). length (joined (words_at op a b) i)) e ∙ sym (ap length (combined-words op a b))

  row_le : (r : ℕ) → length (words_at op a b r) ≤ length (part a.ptr a.word r) + length (part b.ptr b.word r)
  unfolding member
  row_le r =
      omega (
        arith,
        words-or op (row_member (part a.ptr a.word r) (part a.ptr a.mask r)) (row_member (part b.ptr b.word r) (part b.ptr b.mask r)) a.cols,
        words-bound a.cols (part a.ptr a.word r) (part a.ptr a.mask r),
        words-bound a.cols (part b.ptr b.word r) (part b.ptr b.mask r),
      )

  rows-sum : (r : ℕ) → length (joined (words_at op a b) r) ≤ length (joined (part a.ptr a.word) r) + length (joined (part b.ptr b.word) r)
  unfolding joined
  rows-sum zero = omega arith
  rows-sum (suc r) =
      omega (arith, rows-sum r, row_le r, length-joined-suc (words_at op a b) r, length-joined-suc (part a.ptr a.word) r, length-joined-suc (part b.ptr b.word) r)

  -- the first r rows have no more words than the pointers say, and all of them no more than both records together
  module _ (f : Framed a.rows a.ptr (length a.word)) (g : Framed a.rows b.ptr (length b.word)) where
    pub words_upto : (r : ℕ) → r ≤ a.rows → length (joined (words_at op a b) r) ≤ get_or a.ptr r 0 + get_or b.ptr r 0
    words_upto r h = omega (arith, rows-sum r, parts-length a.rows a.ptr a.word f r h, parts-length a.rows b.ptr b.word g r h)

    pub rows_most : length (joined (words_at op a b) a.rows) ≤ length a.word + length b.word
    rows_most = omega (arith, words_upto a.rows (le_refl a.rows), f.last, g.last)

  module _ (p : Pair a b) where
    counted-le : (r : ℕ) → length (joined (words_at op a b) r) ≤ r * 2 ^ 14
    unfolding joined
    counted-le zero = omega arith
    counted-le (suc r) = omega (arith, counted-le r, length-joined-suc (words_at op a b) r, words-few (λ c. combined op (member a r c) (member b r c)) a.cols, p.one.cols_in)

    -- what is counted never wraps
    pub counted_few : (r : ℕ) → r ≤ a.rows → length (joined (words_at op a b) r) ≤ 2 ^ 34
    counted_few r h = omega (arith, counted-le r, p.one.rows_in)

    frame_words : Framed a.rows a.ptr (length a.word)
    frame_words = words_frame a.rows a.ptr a.word a.mask p.one.lists

    frame_others : Framed a.rows b.ptr (length b.word)
    frame_others = rw p.same_rows (words_frame b.rows b.ptr b.word b.mask p.two.lists)

    -- the combined record has no more words than both together
    pub words_most : length (combined_words op a b).word ≤ length a.word + length b.word
    words_most = omega (arith, ap length (combined-words op a b), rows_most frame_words frame_others)
