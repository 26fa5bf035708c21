-- Laws of the record of a membership: `check` accepts it, it has that membership, and a record that `check` accepts is the one
-- record of its own membership. Assumes nothing but masks of 64 bits.
use Rattle.std.proofs.Common.{◌≡◌, ℕ, zero, suc, ◌+◌, ◌*◌, ◌/◌, ◌%◌, ◌^◌, ◌<◌, ◌≤◌, Bool, true, false, cond, ◌&&◌, eqb, ltb, List, map, length, sym, refl, ap, ◌∙◌, ap₂, le_refl, arith, length-append, ext_get_or, eq-eqb, eqb-true, le-leb, leb-true}
use mathlib.Core.Bool.{false≢true}
use mathlib.Core.List.{zip}
use lib.ListN.{length-map}
use Rattle.hybit_core.specs.Answer.{accepted, demand, ◌and_then◌}
use Rattle.hybit_core.specs.Domain.{few, many, sizes_fit}
use Rattle.hybit_core.proofs.BoolLaws.{and_left, and_right, and_both}
use Rattle.hybit_core.proofs.AnswerLaws.{demand_accepted, then_first, then_second}
use Rattle.lent.specs.Lists.{joined, starts, part, every, first, climbs, spread}
use Rattle.lent.proofs.ListLaws.{part-joined, joined_lengths, joined_cong, zip_maps, map_id, every_map, every-part, get_or-starts, length-starts, spread-map, spread_lengths}
use Rattle.word.specs.Bits.{has, below, count, within, members, word_of, mask_of, hit, ceil64, words_of}
use Rattle.word.proofs.BelowLaws.{below_cong}
use Rattle.word.proofs.BitLaws.{within_in, within_cong, words_of_cong, has-mask_of, has-mask-at, has-none, has_listed, first_below, every-below, every-below-at, climbs-below}
use Rattle.word.proofs.WordLaws.{columns_in, by_words}
use Rattle.csr32.specs.Csr.{framed, framed_lists}
use Rattle.csr32.proofs.FrameLaws.{Framed, framed-starts, lists_sides, lists_frame, parts_all, parts-length, part_lengths}
use Rattle.topology.specs.Words.{Words, topology_of, mask_in, row_member, member, word_rule, row_rule, row_rules, set_bits, word_rules, word_answer}
use Rattle.topology.proofs.RowLaws.{small, Row, row_is}
use Rattle.topology.proofs.ScanLaws.{bits_append}

-- ---- set bits

-- the bits of a row's masks are its columns
pub row_bits : (p : ℕ → Bool) (n : ℕ) → set_bits (map (mask_of p n) (words_of p n)) ≡ count p n
unfolding set_bits members
row_bits p n =
    ap length (spread-map members (mask_of p n) (words_of p n))
    ∙ spread_lengths (λ w. members (mask_of p n w)) (λ w. columns_in w (mask_of p n w)) (words_of p n) (λ w. sym (columns w (mask_of p n w)))
    ∙ ap length (sym (by_words p n))
  where
    columns : (w m : ℕ) → length (columns_in w m) ≡ length (members m)
    columns w m = ap length (in_members w m) ∙ length-map (members m) (λ i. 64 * w + i)
      where
        in_members : (w m : ℕ) → columns_in w m ≡ map (λ i. 64 * w + i) (members m)
        in_members w m = refl

bits_joined : (f : ℕ → List ℕ) (g : ℕ → List ℕ) (n : ℕ) → ((r : ℕ) → set_bits (f r) ≡ length (g r)) → set_bits (joined f n) ≡ length (joined g n)
unfolding joined set_bits spread
bits_joined f g zero h = refl
bits_joined f g (suc n) h = bits_append (joined f n) (f n) ∙ ap₂ (λ (a b : ℕ). a + b) (bits_joined f g n h) (h n) ∙ sym (length-append (joined g n) (g n))

-- ---- the record of a membership

module _ (rows cols : ℕ) (p : ℕ → ℕ → Bool) where
  -- its total is that of the set bits
  pub total_bits : set_bits (topology_of rows cols p).mask ≡ (topology_of rows cols p).total
  unfolding topology_of
  total_bits = bits_joined (λ r. map (mask_of (p r) cols) (words_of (p r) cols)) (λ r. below (p r) cols) rows (λ r. row_bits (p r) cols)

  module _ (r : ℕ) (h : r < rows) where
    -- its rows
    pub row_words_lem : part (topology_of rows cols p).ptr (topology_of rows cols p).word r ≡ words_of (p r) cols
    unfolding topology_of
    row_words_lem = part-joined (λ r. words_of (p r) cols) (λ r. words_of (p r) cols) rows r (λ r. refl) h

    pub row_masks_lem : part (topology_of rows cols p).ptr (topology_of rows cols p).mask r ≡ map (mask_of (p r) cols) (words_of (p r) cols)
    unfolding topology_of
    row_masks_lem = part-joined (λ r. words_of (p r) cols) (λ r. map (mask_of (p r) cols) (words_of (p r) cols)) rows r (λ r. length-map (words_of (p r) cols) (mask_of (p r) cols)) h

    pairs : zip (words_of (p r) cols) (map (mask_of (p r) cols) (words_of (p r) cols)) ≡ map (λ w. (w, mask_of (p r) cols w)) (words_of (p r) cols)
    pairs = ap (λ (l : List ℕ). zip l (map (mask_of (p r) cols) (words_of (p r) cols))) (sym (map_id (words_of (p r) cols))) ∙ zip_maps (λ w. w) (mask_of (p r) cols) (words_of (p r) cols)

    -- it has that membership
    pub member_of_topology : (c : ℕ) → member (topology_of rows cols p) r c ≡ within cols (p r) c
    unfolding member row_member mask_in words_of
    member_of_topology c =
        ap₂ (λ (s t : List ℕ). row_member s t c) row_words_lem row_masks_lem
        ∙ ap (λ (l : List (ℕ × ℕ)). has (first (0, 0) (λ (e : ℕ × ℕ). eqb e.0 (c / 64)) l).1 (c % 64)) pairs
        ∙ ap (λ (e : ℕ × ℕ). has e.1 (c % 64)) (first_below (λ (e : ℕ × ℕ). eqb e.0 (c / 64)) (λ w. (w, mask_of (p r) cols w)) (hit (p r) cols) (c / 64) (0, 0) (ceil64 cols) (λ k l. refl))
        ∙ pick (ltb (c / 64) (ceil64 cols) && hit (p r) cols (c / 64)) (within cols (p r) c) refl refl
      where
        pick : (t b : Bool) → (ltb (c / 64) (ceil64 cols) && hit (p r) cols (c / 64)) ≡ t → within cols (p r) c ≡ b
            → has (cond {A = ℕ × ℕ} t (c / 64, mask_of (p r) cols (c / 64)) (0, 0)).1 (c % 64) ≡ b
        pick true b x y = has-mask-at (p r) cols c ∙ y
        pick false true x y = absurd (false≢true (sym x ∙ has_listed (p r) cols c y))
        pick false false x y = has-none (c % 64)

    pub member_in : (c : ℕ) → c < cols → member (topology_of rows cols p) r c ≡ p r c
    member_in c l = member_of_topology c ∙ within_in cols (p r) c l

    keeps_rule : row_rule cols (words_of (p r) cols) (map (mask_of (p r) cols) (words_of (p r) cols)) ≡ true
    unfolding row_rule word_rule members words_of
    keeps_rule =
        and_both (climbs 0 (words_of (p r) cols)) (every (word_rule cols) (zip (words_of (p r) cols) (map (mask_of (p r) cols) (words_of (p r) cols))))
        (climbs-below (hit (p r) cols) (ceil64 cols))
        (ap (every (word_rule cols)) pairs ∙ every_map (word_rule cols) (λ w. (w, mask_of (p r) cols w)) (words_of (p r) cols)
        ∙ every-below (λ w. word_rule cols (w, mask_of (p r) cols w)) (hit (p r) cols) (ceil64 cols)
        (λ w l e. and_both (hit (p r) cols w) (every (λ i. ltb (64 * w + i) cols) (below (has (mask_of (p r) cols w)) 64)) e
        (every-below (λ i. ltb (64 * w + i) cols) (has (mask_of (p r) cols w)) 64 (λ i d b. and_left (ltb (64 * w + i) cols) (p r (64 * w + i)) (sym (has-mask_of (p r) cols w i d) ∙ b)))))

  -- a pointer for each row, and one more
  pub topology_pointers : length (topology_of rows cols p).ptr ≡ suc rows
  unfolding topology_of
  topology_pointers = length-starts (λ r. words_of (p r) cols) rows

  -- as many masks as words
  pub topology_sides : length (topology_of rows cols p).word ≡ length (topology_of rows cols p).mask
  unfolding topology_of
  topology_sides = joined_lengths (λ r. words_of (p r) cols) (λ r. map (mask_of (p r) cols) (words_of (p r) cols)) rows (λ r. sym (length-map (words_of (p r) cols) (mask_of (p r) cols)))

  -- `check`'s 11 finds nothing in it
  pub topology_accepted : word_rules (topology_of rows cols p) ≡ true
  unfolding word_rules framed_lists row_rules topology_of
  topology_accepted =
      let t : Words = topology_of rows cols p in
      let same : length t.word ≡ length t.mask = topology_sides in
      let pointers : framed t.rows t.ptr (length t.mask) ≡ true = frame in
      and_both (framed_lists t.rows t.ptr (length t.word) (length t.mask) && row_rules t) (eqb t.total (set_bits t.mask))
      (and_both (framed_lists t.rows t.ptr (length t.word) (length t.mask)) (row_rules t)
      (and_both (eqb (length t.word) (length t.mask)) (framed t.rows t.ptr (length t.mask)) (eq-eqb (length t.word) (length t.mask) same) pointers)
      (every-below (λ r. row_rule cols (part t.ptr t.word r) (part t.ptr t.mask r)) (λ r. true) rows
      (λ r h e. ap₂ (λ (s m : List ℕ). row_rule cols s m) (row_words_lem r h) (row_masks_lem r h) ∙ keeps_rule r h)))
      (eq-eqb t.total (set_bits t.mask) (sym total_bits))
    where
      frame : framed rows (topology_of rows cols p).ptr (length (topology_of rows cols p).mask) ≡ true
      frame = framed-starts (λ r. words_of (p r) cols) rows (length (topology_of rows cols p).mask) (sym topology_sides)

  -- `check` accepts it where its sizes lie in the domain
  pub topology_checked : rows ≤ 2 ^ 20 → cols ≤ 2 ^ 20 → length (topology_of rows cols p).word ≤ 2 ^ 24 → word_answer (topology_of rows cols p) ≡ accepted
  unfolding word_answer sizes_fit topology_of
  topology_checked a b c =
      let w : ℕ = length (topology_of rows cols p).word in
      let m : ℕ = length (topology_of rows cols p).mask in
      let d : m ≤ 2 ^ 24 = omega (arith, topology_sides) in
      ap₂ (λ (x y : Bool). demand x 1 and_then demand y 11)
      (and_both (few rows && few cols && many w) (many m)
      (and_both (few rows && few cols) (many w) (and_both (few rows) (few cols) (le-leb rows (2 ^ 20) a) (le-leb cols (2 ^ 20) b)) (le-leb w (2 ^ 24) c)) (le-leb m (2 ^ 24) d))
      topology_accepted

-- a record is fixed by its membership inside the frame
pub topology_cong : (rows cols : ℕ) (p q : ℕ → ℕ → Bool) → ((r c : ℕ) → r < rows → c < cols → p r c ≡ q r c) → topology_of rows cols p ≡ topology_of rows cols q
unfolding topology_of mask_of
topology_cong rows cols p q h =
    let ws : (n : ℕ) → n ≤ rows → joined (λ r. words_of (p r) cols) n ≡ joined (λ r. words_of (q r) cols) n = λ n d. joined_cong (λ r. words_of (p r) cols) (λ r. words_of (q r) cols) n (λ r l. words_of_cong cols (p r) (q r) (λ c k. h r c (omega arith) k)) in
    let w : joined (λ r. words_of (p r) cols) rows ≡ joined (λ r. words_of (q r) cols) rows = ws rows (le_refl rows) in
    let m : joined (λ r. map (mask_of (p r) cols) (words_of (p r) cols)) rows ≡ joined (λ r. map (mask_of (q r) cols) (words_of (q r) cols)) rows =
    joined_cong (λ r. map (mask_of (p r) cols) (words_of (p r) cols)) (λ r. map (mask_of (q r) cols) (words_of (q r) cols)) rows (λ r l. same_masks r (λ c k. h r c l k)) in
    let t : joined (λ r. below (p r) cols) rows ≡ joined (λ r. below (q r) cols) rows = joined_cong (λ r. below (p r) cols) (λ r. below (q r) cols) rows (λ r l. below_cong (p r) (q r) cols (λ c k. h r c l k)) in
    let s : starts (λ r. words_of (p r) cols) rows ≡ starts (λ r. words_of (q r) cols) rows =
    ext_get_or 0 (starts (λ r. words_of (p r) cols) rows) (starts (λ r. words_of (q r) cols) rows) (length-starts (λ r. words_of (p r) cols) rows ∙ sym (length-starts (λ r. words_of (q r) cols) rows))
    (λ i l. let d : i ≤ rows = omega (arith, length-starts (λ r. words_of (p r) cols) rows) in
    get_or-starts (λ r. words_of (p r) cols) rows i d ∙ ap length (ws i d) ∙ sym (get_or-starts (λ r. words_of (q r) cols) rows i d)) in
    λ i. record { rows = rows; cols = cols; ptr = s i; word = w i; mask = m i; total = length (t i) }
  where
    same_masks : (r : ℕ) → ((c : ℕ) → c < cols → p r c ≡ q r c) → map (mask_of (p r) cols) (words_of (p r) cols) ≡ map (mask_of (q r) cols) (words_of (q r) cols)
    same_masks r g = ap₂ (λ (f : ℕ → ℕ) (l : List ℕ). map f l) (λ i w. word_of (λ j. within_cong cols (p r) (q r) g i (64 * w + j))) (words_of_cong cols (p r) (q r) g)

-- ---- a record that `check` accepts

pub record Accepted (t : Words) : Type 0 where
  pub rows_in : t.rows ≤ 2 ^ 20
  pub cols_in : t.cols ≤ 2 ^ 20
  pub words_in : length t.word ≤ 2 ^ 24
  pub lists : framed_lists t.rows t.ptr (length t.word) (length t.mask) ≡ true
  pub each_row : (r : ℕ) → r < t.rows → row_rule t.cols (part t.ptr t.word r) (part t.ptr t.mask r) ≡ true
  pub total_is : t.total ≡ set_bits t.mask

pub accepted_facts : (t : Words) → word_answer t ≡ accepted → Accepted t
unfolding word_answer word_rules row_rules sizes_fit
accepted_facts t e =
    let s : sizes_fit t.rows t.cols (length t.word) (length t.mask) ≡ true = demand_accepted _ _ (then_first (demand (sizes_fit t.rows t.cols (length t.word) (length t.mask)) 1) (demand (word_rules t) 11) e) in
    let w : word_rules t ≡ true = demand_accepted _ _ (then_second (demand (sizes_fit t.rows t.cols (length t.word) (length t.mask)) 1) (demand (word_rules t) 11) e) in
    let f : Bool = framed_lists t.rows t.ptr (length t.word) (length t.mask) in
    let fr : (f && row_rules t) ≡ true = and_left (f && row_rules t) (eqb t.total (set_bits t.mask)) w in
    let s1 : (few t.rows && few t.cols && many (length t.word)) ≡ true = and_left (few t.rows && few t.cols && many (length t.word)) (many (length t.mask)) s in
    let s2 : (few t.rows && few t.cols) ≡ true = and_left (few t.rows && few t.cols) (many (length t.word)) s1 in
    record {
      rows_in = leb-true t.rows (2 ^ 20) (and_left (few t.rows) (few t.cols) s2);
      cols_in = leb-true t.cols (2 ^ 20) (and_right (few t.rows) (few t.cols) s2);
      words_in = leb-true (length t.word) (2 ^ 24) (and_right (few t.rows && few t.cols) (many (length t.word)) s1);
      lists = and_left f (row_rules t) fr;
      each_row = λ r l. every-below-at (λ r. row_rule t.cols (part t.ptr t.word r) (part t.ptr t.mask r)) (λ r. true) t.rows r (and_right f (row_rules t) fr) l refl;
      total_is = eqb-true t.total (set_bits t.mask) (and_right (f && row_rules t) (eqb t.total (set_bits t.mask)) w);
    }

module _ (t : Words) (k : Accepted t) (tiny : small t.mask ≡ true) where
  -- its rows are the rows of its membership
  pub row_of : (r : ℕ) → r < t.rows → Row (member t r) t.cols (part t.ptr t.word r) (part t.ptr t.mask r)
  unfolding member
  row_of r l =
      row_is t.cols (part t.ptr t.word r) (part t.ptr t.mask r) (k.each_row r l)
      (part_lengths t.ptr t.word t.mask r (lists_sides t.rows t.ptr (length t.word) (length t.mask) k.lists))
      (every-part (λ m. ltb m (2 ^ 64)) t.ptr t.mask r tiny)

  -- it is the record of its own membership
  pub topology_is : t ≡ topology_of t.rows t.cols (member t)
  unfolding topology_of
  topology_is =
      let f : ℕ → List ℕ = λ r. words_of (member t r) t.cols in
      let g : ℕ → List ℕ = λ r. map (mask_of (member t r) t.cols) (words_of (member t r) t.cols) in
      let sides : length t.word ≡ length t.mask = lists_sides t.rows t.ptr (length t.word) (length t.mask) k.lists in
      let fm : Framed t.rows t.ptr (length t.mask) = lists_frame t.rows t.ptr (length t.word) (length t.mask) k.lists in
      let fw : Framed t.rows t.ptr (length t.word) = rw sides fm in
      let rowsame : (n : ℕ) → n ≤ t.rows → joined (part t.ptr t.word) n ≡ joined f n = λ n d. joined_cong (part t.ptr t.word) f n (λ r l. (row_of r (omega arith)).words) in
      let w : t.word ≡ joined f t.rows = sym (parts_all t.rows t.ptr t.word fw) ∙ rowsame t.rows (le_refl t.rows) in
      let m : t.mask ≡ joined g t.rows = sym (parts_all t.rows t.ptr t.mask fm) ∙ joined_cong (part t.ptr t.mask) g t.rows (λ r l. (row_of r l).masks) in
      let p : t.ptr ≡ starts f t.rows = ext_get_or 0 t.ptr (starts f t.rows) (fm.long ∙ sym (length-starts f t.rows))
      (λ i l. let d : i ≤ t.rows = omega (arith, fm.long) in
      sym (parts-length t.rows t.ptr t.word fw i d) ∙ ap length (rowsame i d) ∙ sym (get_or-starts f t.rows i d)) in
      let o : t.total ≡ length (joined (λ r. below (member t r) t.cols) t.rows) = k.total_is ∙ ap set_bits m ∙ total_bits t.rows t.cols (member t) in
      λ i. record { rows = t.rows; cols = t.cols; ptr = p i; word = w i; mask = m i; total = o i }

  -- the stored total is the number of present columns
  pub total_columns : t.total ≡ length (joined (λ r. below (member t r) t.cols) t.rows)
  unfolding topology_of
  total_columns = ap (λ (s : Words). s.total) topology_is

-- two accepted records of one frame and one membership are the same record
pub topology_unique : (s t : Words) → Accepted s → Accepted t → small s.mask ≡ true → small t.mask ≡ true → s.rows ≡ t.rows → s.cols ≡ t.cols
    → ((r c : ℕ) → r < s.rows → c < s.cols → member s r c ≡ member t r c) → s ≡ t
topology_unique s t a b u v e f h =
    topology_is s a u ∙ topology_cong s.rows s.cols (member s) (member t) h ∙ ap₂ (λ (n m : ℕ). topology_of n m (member t)) e f ∙ sym (topology_is t b v)
