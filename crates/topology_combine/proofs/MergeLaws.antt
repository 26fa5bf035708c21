-- The merge of two rows: one frontier for both, and the combined words before it. Assumes nothing.
use mathlib.Core.Bool.{Bool, true, false, not, cond, ◌&&◌}
use mathlib.Core.List.{List}
use mathlib.Core.Path.{◌≡◌, refl, sym, ap, ap₂, ◌∙◌}
use Prim.Native.Nat.{ℕ, ◌+◌, ◌*◌, ◌^◌, ◌≤◌, ◌<◌}
use native.Mathlib.Numerals.{add-one}
use native.Mathlib.Decide.{dec_lt}
use native.Mathlib.Omega.{arith}
use lib.Dec.{ltb}
use lib.ListN.{length, get_or}
use lib.Pow.{pow_pos}
use mir.Val.{bool_byte}
use borrow.Author.Tests.{eq-eqb, ne_eqb, lt-ltb, le-ltb}
use Rattle.word.specs.Bits.{has, below, count, within, word_of, mask_of, hit, ceil64, words_of}
use Rattle.word.specs.Word.{combined}
use Rattle.word.specs.declared.Operation.{Operation}
use Rattle.word.proofs.BelowLaws.{below_trim, below-at-rank, length-below-suc, length_below_mono, length-below-le, rank_lt}
use Rattle.word.proofs.BitLaws.{has-mask_of, has-none}
use Rattle.word.proofs.OpLaws.{word_is_lem, word_cong, combined-none}
use Rattle.word.proofs.WordLaws.{mask-none}
use Rattle.topology.specs.Words.{row_member, row_rule}
use Rattle.topology.proofs.RowLaws.{Row, row_is, small_is}
use Rattle.topology.proofs.FrontLaws.{Front, front-none, Next, next, ended, Placed, placed, at_end}
use Rattle.topology_combine.specs.Merge.{Side, taken, waits, Stepped}

-- ---- masks of the combined test

-- what an operation makes of two tests
abbrev pub joint : Operation → (ℕ → Bool) → (ℕ → Bool) → ℕ → Bool
joint op p q c = combined op (p c) (q c)

-- no operation makes a member of none
module _ (op : Operation) (p q : ℕ → Bool) (n : ℕ) where
  pub mask-joint : (w : ℕ) → mask_of (joint op p q) n w ≡ word_of (λ i. combined op (has (mask_of p n w) i) (has (mask_of q n w) i))
  unfolding mask_of
  mask-joint w = word_cong (λ i. within n (joint op p q) (64 * w + i)) (λ i. combined op (has (mask_of p n w) i) (has (mask_of q n w) i)) bit
    where
      frame : (t a b : Bool) → (t && combined op a b) ≡ combined op (t && a) (t && b)
      frame true a b = refl
      frame false a b = sym (combined-none op)

      bit : (i : ℕ) → i < 64 → within n (joint op p q) (64 * w + i) ≡ combined op (has (mask_of p n w) i) (has (mask_of q n w) i)
      bit i l =
          frame (ltb (64 * w + i) n) (p (64 * w + i)) (q (64 * w + i))
          ∙ sym (ap₂ (λ (s t : Bool). combined op s t) (has-mask_of p n w i l) (has-mask_of q n w i l))

  mask-joint-none : (w : ℕ) → mask_of p n w ≡ 0 → mask_of q n w ≡ 0 → mask_of (joint op p q) n w ≡ 0
  mask-joint-none w a b =
      mask-joint w ∙ ap₂ (λ (s t : ℕ). word_of (λ i. combined op (has s i) (has t i))) a b
      ∙ sym (word_is_lem 0 (λ i. combined op (has 0 i) (has 0 i)) (pow_pos 64) (λ i l. has-none i ∙ sym (combined-none op) ∙ sym (ap₂ (λ (s t : Bool). combined op s t) (has-none i) (has-none i))))

  -- where neither row has a word, the combined one has none
  pub hit-none : (w : ℕ) → hit p n w ≡ false → hit q n w ≡ false → hit (joint op p q) n w ≡ false
  hit-none w a b = ap not (eq-eqb (mask_of (joint op p q) n w) 0 (mask-joint-none w (mask-none p n w a) (mask-none q n w b)))

-- ---- one row at the word that is taken

module _ (p : ℕ → Bool) (n : ℕ) where
  -- empty words don't move a place
  front_skip : (i f w : ℕ) → Front p n i f → f ≤ w → w ≤ ceil64 n → ((v : ℕ) → f ≤ v → v < w → hit p n v ≡ false) → Front p n i w
  front_skip i f w h a b g = record { ranked = h.ranked ∙ sym (ap length (below_trim (hit p n) f w a g)); inside = b }

  -- no more words than the frame has
  pub words-few : length (words_of p n) ≤ ceil64 n
  unfolding words_of
  words-few = length-below-le (hit p n) (ceil64 n)

  -- no place is past the words
  pub front-le : (i f : ℕ) → Front p n i f → i ≤ length (words_of p n)
  unfolding words_of
  front-le i f h = omega (arith, h.ranked, length_below_mono (hit p n) f (ceil64 n) h.inside)

  record Sided (f index m next : ℕ) : Type 0 where
    pub mask : m ≡ mask_of p n index
    pub front : Front p n next (index + 1)
    pub skipped : (v : ℕ) → f ≤ v → v < index → hit p n v ≡ false

module _ (p : ℕ → Bool) (n : ℕ) (ws ms : List ℕ) (row : Row p n ws ms) (i f : ℕ) (h : Front p n i f) where
  next_here : (w m : ℕ) → i < length ws → w ≡ get_or ws i 0 → m ≡ get_or ms i 0 → Next p n i f w
  next_here w m l a b = let x : Placed p n i w m = placed p n ws ms row i w m l a b in rw x.word (next p n i f h x.place)

  -- a row with no word from f up to and with index
  waiting : (index m next : ℕ) → f ≤ index → index < ceil64 n → ((v : ℕ) → f ≤ v → v < index + 1 → hit p n v ≡ false) → m ≡ 0 → next ≡ i → Sided p n f index m next
  waiting index m next a b g em en = record {
    mask = em ∙ sym (mask-none p n index (g index a (omega arith)));
    front = rw en (front_skip p n i f (index + 1) h (omega arith) (omega arith) g);
    skipped = λ v c d. g v c (omega arith);
  }

  side : (index m next : ℕ) → f ≤ index → index < ceil64 n → Side ws ms i index m next → Sided p n f index m next
  side index m next a b (taken l e em en) =
      let x : Placed p n i index m = placed p n ws ms row i index m l e em in
      let y : Next p n i f index = next_here index m l e em in
      record { mask = x.mask; front = rw en y.front; skipped = y.skipped }
  side index m next a b (waits g em en) = go (dec_lt i (length ws))
    where
      go : Dec (i < length ws) → Sided p n f index m next
      go (yes l) =
          let y : Next p n i f (get_or ws i 0) = next_here (get_or ws i 0) (get_or ms i 0) l refl refl in
          let z : index < get_or ws i 0 = g l in
          waiting index m next a b (λ v c d. y.skipped v c (omega arith)) em en
      go (no l) = waiting index m next a b (λ v c d. ended p n i f h (at_end p n ws ms row i (omega arith)) v c (omega arith)) em en

  -- the word that is taken from a row lies at or past the frontier, in the frame
  side_bound : (index m next : ℕ) → Side ws ms i index m next → i < next → (f ≤ index) × (index < ceil64 n)
  side_bound index m next (taken l e em en) o = let y : Next p n i f index = next_here index m l e em in (y.after, y.bound)
  side_bound index m next (waits g em en) o = absurd (omega arith)

  side_stays : (index m next : ℕ) → Side ws ms i index m next → i ≤ next
  side_stays index m next (taken l e em en) = omega arith
  side_stays index m next (waits g em en) = omega arith

-- ---- the merge

-- at places at and other of the two rows: k words of the combined row stand before the frontier
pub record Merging (op : Operation) (n : ℕ) (ws ms vs ns : List ℕ) (at other k : ℕ) : Type 0 where
  pub one : Row (row_member ws ms) n ws ms
  pub two : Row (row_member vs ns) n vs ns
  pub front : ℕ
  pub here : Front (row_member ws ms) n at front
  pub there : Front (row_member vs ns) n other front
  pub done : Front (joint op (row_member ws ms) (row_member vs ns)) n k front

-- two rows of words and masks that keep the rule
pub record TwoRows (n : ℕ) (ws ms vs ns : List ℕ) : Type 0 where
  pub sides : length ms ≡ length ws
  pub rule : row_rule n ws ms ≡ true
  pub fit : (k : ℕ) → get_or ms k 0 < 2 ^ 64
  pub other_sides : length ns ≡ length vs
  pub other_rule : row_rule n vs ns ≡ true
  pub other_fit : (k : ℕ) → get_or ns k 0 < 2 ^ 64

module _ (op : Operation) (n : ℕ) (ws ms vs ns : List ℕ) where
  pub merging_none : TwoRows n ws ms vs ns → Merging op n ws ms vs ns 0 0 0
  merging_none r = record {
    one = row_is n ws ms r.rule (sym r.sides) (small_is ms r.fit);
    two = row_is n vs ns r.other_rule (sym r.other_sides) (small_is ns r.other_fit);
    front = 0;
    here = front-none (row_member ws ms) n;
    there = front-none (row_member vs ns) n;
    done = front-none (joint op (row_member ws ms) (row_member vs ns)) n;
  }

  module _ (at other k : ℕ) (inv : Merging op n ws ms vs ns at other k) where
    pub merging_in : (at ≤ length ws) × (other ≤ length vs)
    merging_in =
        (rw inv.one.words (front-le (row_member ws ms) n at inv.front inv.here), rw inv.two.words (front-le (row_member vs ns) n other inv.front inv.there))

    pub merging_few : at + other ≤ ceil64 n + ceil64 n
    merging_few =
        omega (
          arith,
          front-le (row_member ws ms) n at inv.front inv.here,
          front-le (row_member vs ns) n other inv.front inv.there,
          words-few (row_member ws ms) n,
          words-few (row_member vs ns) n,
        )

    module _ (index mask next other-next : ℕ) (s : Stepped op ws ms vs ns at other index mask next other-next) where
      bounds : (inv.front ≤ index) × (index < ceil64 n)
      bounds = go (dec_lt at next)
        where
          go : Dec (at < next) → (inv.front ≤ index) × (index < ceil64 n)
          go (yes l) = side_bound (row_member ws ms) n ws ms inv.one at inv.front inv.here index s.one next s.here l
          go (no l) = side_bound (row_member vs ns) n vs ns inv.two other inv.front inv.there index s.two other-next s.there (omega (arith, s.onward))

      left : Sided (row_member ws ms) n inv.front index s.one next
      left = side (row_member ws ms) n ws ms inv.one at inv.front inv.here index s.one next bounds.0 bounds.1 s.here

      right : Sided (row_member vs ns) n inv.front index s.two other-next
      right = side (row_member vs ns) n vs ns inv.two other inv.front inv.there index s.two other-next bounds.0 bounds.1 s.there

      pub merging_mask : mask ≡ mask_of (joint op (row_member ws ms) (row_member vs ns)) n index
      merging_mask =
          s.is ∙ ap₂ (λ (a b : ℕ). word_of (λ i. combined op (has a i) (has b i))) left.mask right.mask ∙ sym (mask-joint op (row_member ws ms) (row_member vs ns) n index)

      -- the combined row up to the word that is taken
      upto : Front (joint op (row_member ws ms) (row_member vs ns)) n k index
      upto =
          front_skip (joint op (row_member ws ms) (row_member vs ns)) n k inv.front index inv.done bounds.0 (omega (arith, bounds.1))
          (λ v a b. hit-none op (row_member ws ms) (row_member vs ns) n v (left.skipped v a b) (right.skipped v a b))

      past : (t : Bool) (m : ℕ) → m ≡ k + bool_byte t → hit (joint op (row_member ws ms) (row_member vs ns)) n index ≡ t → Front (joint op (row_member ws ms) (row_member vs ns)) n m (index + 1)
      past t m e x = record {
        ranked = e ∙ sym (ap (count (hit (joint op (row_member ws ms) (row_member vs ns)) n)) (add-one index) ∙ length-below-suc (hit (joint op (row_member ws ms) (row_member vs ns)) n) index ∙ ap₂ (λ (a : ℕ) (b : Bool). a + bool_byte b) (sym upto.ranked) x);
        inside = omega (arith, bounds.1);
      }

      after : (m : ℕ) → Front (joint op (row_member ws ms) (row_member vs ns)) n m (index + 1) → Merging op n ws ms vs ns next other-next m
      after m f = record { one = inv.one; two = inv.two; front = index + 1; here = left.front; there = right.front; done = f }

      -- an empty mask adds no word
      pub merging_empty : mask ≡ 0 → Merging op n ws ms vs ns next other-next k
      merging_empty e = after k (past false k (omega arith) (ap not (eq-eqb (mask_of (joint op (row_member ws ms) (row_member vs ns)) n index) 0 (sym merging_mask ∙ e))))

      module _ (e : mask ≡ 0 → ⊥) where
        full : hit (joint op (row_member ws ms) (row_member vs ns)) n index ≡ true
        full = ap not (ne_eqb (mask_of (joint op (row_member ws ms) (row_member vs ns)) n index) 0 (λ z. e (merging_mask ∙ z)))

        -- any other is the next of the combined row
        pub merging_full : Merging op n ws ms vs ns next other-next (k + 1)
        merging_full = after (k + 1) (past true (k + 1) refl full)

        pub merging_room : k < length (words_of (joint op (row_member ws ms) (row_member vs ns)) n)
        unfolding words_of
        merging_room = omega (arith, upto.ranked, rank_lt (hit (joint op (row_member ws ms) (row_member vs ns)) n) index (ceil64 n) bounds.1 full)

        pub merging_fits : k < ceil64 n
        merging_fits = omega (arith, merging_room, words-few (joint op (row_member ws ms) (row_member vs ns)) n)

        pub merging_word : index ≡ get_or (words_of (joint op (row_member ws ms) (row_member vs ns)) n) k 0
        unfolding words_of
        merging_word =
            sym (ap (λ (m : ℕ). get_or (below (hit (joint op (row_member ws ms) (row_member vs ns)) n) (ceil64 n)) m 0) upto.ranked
            ∙ below-at-rank (hit (joint op (row_member ws ms) (row_member vs ns)) n) (ceil64 n) index bounds.1 full)

    -- at the end of both rows all words are counted
    pub merging_done : length ws ≤ at → length vs ≤ other → k ≡ length (words_of (joint op (row_member ws ms) (row_member vs ns)) n)
    unfolding words_of
    merging_done a b =
        inv.done.ranked
        ∙ sym (ap length (below_trim (hit (joint op (row_member ws ms) (row_member vs ns)) n) inv.front (ceil64 n) inv.done.inside
        (λ v x y.
        hit-none op (row_member ws ms) (row_member vs ns) n v (ended (row_member ws ms) n at inv.front inv.here (at_end (row_member ws ms) n ws ms inv.one at a) v x y)
        (ended (row_member vs ns) n other inv.front inv.there (at_end (row_member vs ns) n vs ns inv.two other b) v x y))))

-- ---- the next word of either row

-- the word number at place i of a row, 2^32 at its end
abbrev pub head_of : List ℕ → ℕ → ℕ
head_of ws i = cond (ltb i (length ws)) (get_or ws i 0) (2 ^ 32)

pub head_at : (ws : List ℕ) (i r : ℕ) → i < length ws → r ≡ get_or ws i 0 → r ≡ head_of ws i
head_at ws i r l e = e ∙ sym (ap (λ (t : Bool). cond t (get_or ws i 0) (2 ^ 32)) (lt-ltb i (length ws) l))

pub head_end : (ws : List ℕ) (i : ℕ) → length ws ≤ i → 2 ^ 32 ≡ head_of ws i
head_end ws i l = sym (ap (λ (t : Bool). cond t (get_or ws i 0) (2 ^ 32)) (le-ltb i (length ws) l))

data Head (ws : List ℕ) (i r : ℕ) : Type 0 where
  stands : i < length ws → r ≡ get_or ws i 0 → r < 2 ^ 32 → Head ws i r
  none : length ws ≤ i → r ≡ 2 ^ 32 → Head ws i r

head_is : (ws : List ℕ) (i r : ℕ) → r ≡ head_of ws i → (i < length ws → r < 2 ^ 32) → Head ws i r
head_is ws i r e s = go (dec_lt i (length ws))
  where
    go : Dec (i < length ws) → Head ws i r
    go (yes l) = stands l (e ∙ sym (head_at ws i (get_or ws i 0) l refl)) (s l)
    go (no l) = none (omega arith) (e ∙ sym (head_end ws i (omega arith)))

-- a row whose next word is above the one that is taken
waits_here : (ws ms : List ℕ) (i r w : ℕ) → Head ws i r → w < r → Side ws ms i w 0 i
waits_here ws ms i r w (stands l e s) h = waits (λ x. omega arith) refl refl
waits_here ws ms i r w (none l e) h = waits (λ x. absurd (omega arith)) refl refl

module _ (ws vs : List ℕ) (at other left right : ℕ) (el : left ≡ head_of ws at) (er : right ≡ head_of vs other) (sl : at < length ws → left < 2 ^ 32) (sr : other < length vs → right < 2 ^ 32) where
  one_head : Head ws at left
  one_head = head_is ws at left el sl

  two_head : Head vs other right
  two_head = head_is vs other right er sr

  most : (ws : List ℕ) (i r : ℕ) → Head ws i r → r ≤ 2 ^ 32
  most ws i r (stands l e s) = omega arith
  most ws i r (none l e) = omega arith

  standing : (ws : List ℕ) (i r : ℕ) → Head ws i r → r < 2 ^ 32 → (i < length ws) × (r ≡ get_or ws i 0)
  standing ws i r (stands l e s) h = (l, e)
  standing ws i r (none l e) h = absurd (omega arith)

  pub left_stands : left < right → (at < length ws) × (left ≡ get_or ws at 0)
  left_stands h = standing ws at left one_head (omega (arith, most vs other right two_head))

  pub right_stands : right < left → (other < length vs) × (right ≡ get_or vs other 0)
  right_stands h = standing vs other right two_head (omega (arith, most ws at left one_head))

  pub both_stand : (left < right → ⊥) → (right < left → ⊥) → at + other < length ws + length vs → (at < length ws) × (other < length vs)
  both_stand f g h = go one_head two_head
    where
      go : Head ws at left → Head vs other right → (at < length ws) × (other < length vs)
      go (stands l e s) (stands k d t) = (l, k)
      go (stands l e s) (none k d) = absurd (f (omega arith))
      go (none l e) (stands k d t) = absurd (g (omega arith))
      go (none l e) (none k d) = absurd (omega arith)

  module _ (op : Operation) (ms ns : List ℕ) (mask : ℕ) where
    pub step_left : left < right → mask ≡ word_of (λ i. combined op (has (get_or ms at 0) i) (has 0 i)) → Stepped op ws ms vs ns at other left mask (at + 1) other
    step_left h e = record {
      one = get_or ms at 0;
      two = 0;
      here = taken (left_stands h).0 (left_stands h).1 refl refl;
      there = waits_here vs ns other right left two_head h;
      is = e;
      small = omega (arith, most vs other right two_head);
      onward = omega arith;
    }

    pub step_right : right < left → mask ≡ word_of (λ i. combined op (has 0 i) (has (get_or ns other 0) i)) → Stepped op ws ms vs ns at other right mask at (other + 1)
    step_right h e = record {
      one = 0;
      two = get_or ns other 0;
      here = waits_here ws ms at left right one_head h;
      there = taken (right_stands h).0 (right_stands h).1 refl refl;
      is = e;
      small = omega (arith, most ws at left one_head);
      onward = omega arith;
    }

    pub step_both : (left < right → ⊥) → (right < left → ⊥) → at + other < length ws + length vs → mask ≡ word_of (λ i. combined op (has (get_or ms at 0) i) (has (get_or ns other 0) i)) → Stepped op ws ms vs ns at other left mask (at + 1) (other + 1)
    step_both f g h e =
        let b : (at < length ws) × (other < length vs) = both_stand f g h in
        let x : left ≡ get_or ws at 0 = el ∙ sym (head_at ws at (get_or ws at 0) b.0 refl) in
        let y : right ≡ get_or vs other 0 = er ∙ sym (head_at vs other (get_or vs other 0) b.1 refl) in
        let z : left ≡ right = omega arith in
        record {
          one = get_or ms at 0;
          two = get_or ns other 0;
          here = taken b.0 x refl refl;
          there = taken b.1 (z ∙ y) refl refl;
          is = e;
          small = sl b.0;
          onward = omega arith;
        }
