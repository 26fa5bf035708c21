-- A loop over the words of a row that adds its dot: after the words below word f, the sum and the counts of the columns below 64 · f. Assumes nothing.
use mathlib.Core.Bool.{Bool, true, false, not, ◌&&◌}
use mathlib.Core.List.{List, ◌++◌, map, foldl, foldl-append}
use mathlib.Core.Path.{◌≡◌, refl, sym, ap, ap₂, subst, ◌∙◌}
use Prim.Native.Nat.{ℕ, ◌+◌, ◌-◌, ◌*◌, ◌/◌, ◌%◌, ◌^◌, ◌≤◌, ◌<◌}
use native.Mathlib.Numerals.{add-one}
use native.Mathlib.Omega.{arith}
use lib.Bits.{bit_and, and_zero_l}
use lib.Dec.{eqb, ltb}
use lib.ListN.{length, get_or}
use lib.Ieee.{Float, nan, binary64, add, mul}
use mir.Val.{bool_byte}
use borrow.Author.Tests.{ltb-true, lt-ltb, le-ltb, eq-eqb}
use Rattle.hybit_core.specs.Floats.{zero64}
use Rattle.hybit_core.proofs.BoolLaws.{and_left, and_right, and_both}
use Rattle.lent.proofs.ListLaws.{foldl-map}
use Rattle.word.specs.Bits.{has, below, count, both, within, members, word_of, mask_of, hit, ceil64, words_of}
use Rattle.word.proofs.BelowLaws.{below-zero, below_cong, below_trim, below_block, length-below-suc, length-below-le, length-below-parts, rank_lt, fold_below}
use Rattle.word.proofs.BitLaws.{has-mask_of, has-mask-at, has-none, within_in, every-below}
use Rattle.word.proofs.OpLaws.{intersection_is}
use Rattle.word.proofs.WordLaws.{mask-both, mask-none}
use Rattle.mask.specs.Mask.{as_mask, active}
use Rattle.mask.proofs.MaskLaws.{valid, word_is_mask}
use Rattle.csr32.specs.Csr.{at}
use Rattle.topology.specs.Words.{row_member}
use Rattle.topology.proofs.RowLaws.{Row, row_is, small_is}
use Rattle.topology.proofs.FrontLaws.{Front, front-none, Next, next, Placed, placed, at_end, ended, count_in, count_frame, count_upto}
use Rattle.metadata_first.specs.declared.AbtmRowDot.{AbtmRowDot}
use Rattle.metadata_first.specs.Dot.{sum_over, dot_of}
use Rattle.metadata_first_dot.specs.Walk.{word_sum, word_inside, RowReady, row_dot}
use Rattle.metadata_first_dot.proofs.SumLaws.{no_sum, no_products, no_word}

-- the product of column c added, its value at the rank of c
abbrev added : (ℕ → Bool) → List Float → List Float → Float → ℕ → Float
added p vals x s c = add binary64 s (mul binary64 (get_or vals (count p c) nan) (at x c))

module _ (p a : ℕ → Bool) (n : ℕ) where
  -- ---- words between: they hold no column

  no_column : (c : ℕ) → hit p n (c / 64) ≡ false → within n p c ≡ false
  no_column c e = sym (has-mask-at p n c) ∙ ap (λ (m : ℕ). has m (c % 64)) (mask-none p n (c / 64) e) ∙ has-none (c % 64)

  no_both : (c : ℕ) → within n p c ≡ false → within n (both p a) c ≡ false
  no_both c e = go (ltb c n) (p c) (a c) e
    where
      go : (s t u : Bool) → (s && t) ≡ false → (s && (t && u)) ≡ false
      go true true u e = absurd (not-both e)
        where
          not-both : true ≡ false → ⊥
          not-both e = let z : ◌≡◌ {A = ℕ} 1 0 = ap bool_byte e in omega arith
      go true false u e = refl
      go false t u e = refl

  no_hit : (v : ℕ) → hit p n v ≡ false → hit (both p a) n v ≡ false
  no_hit v e = ap not (eq-eqb (mask_of (both p a) n v) 0 (mask-both p a n v ∙ ap (λ (m : ℕ). bit_and m (mask_of a n v)) (mask-none p n v e) ∙ and_zero_l (mask_of a n v)))

  module _ (f w : ℕ) (h : f ≤ w) (g : (v : ℕ) → f ≤ v → v < w → hit p n v ≡ false) where
    skip_columns : below (within n p) (64 * w) ≡ below (within n p) (64 * f)
    skip_columns = below_trim (within n p) (64 * f) (64 * w) (omega arith) (λ c l u. no_column c (g (c / 64) (omega arith) (omega arith)))

    skip_both : below (within n (both p a)) (64 * w) ≡ below (within n (both p a)) (64 * f)
    skip_both = below_trim (within n (both p a)) (64 * f) (64 * w) (omega arith) (λ c l u. no_both c (no_column c (g (c / 64) (omega arith) (omega arith))))

    skip_words : below (hit (both p a) n) w ≡ below (hit (both p a) n) f
    skip_words = below_trim (hit (both p a) n) f w h (λ v l u. no_hit v (g v l u))

  -- ---- one word more

  both_block : (w : ℕ) → below (within n (both p a)) (64 * (w + 1)) ≡ below (within n (both p a)) (64 * w) ++ map (λ i. 64 * w + i) (members (mask_of (both p a) n w))
  unfolding members
  both_block w =
      let e : 64 * (w + 1) ≡ 64 * w + 64 = omega arith in
      ap (below (within n (both p a))) e ∙ below_block (within n (both p a)) (has (mask_of (both p a) n w)) (64 * w) 64 (λ i l. sym (has-mask_of (both p a) n w i l))

  -- ---- the frame

  frame : (q : ℕ → Bool) → below (within n q) (64 * ceil64 n) ≡ below q n
  frame q =
      below_trim (within n q) n (64 * ceil64 n) (omega arith) (λ c l u. ap (λ (t : Bool). t && q c) (le-ltb c n l)) ∙ below_cong (within n q) q n (λ c l. within_in n q c l)

  module _ (vals x : List Float) where
    -- after the first i words
    pub record Dotting (i : ℕ) (sum : Float) (candidate executed words : ℕ) : Type 0 where
      pub next_word : ℕ
      pub front : Front p n i next_word
      pub sum_is : sum ≡ foldl (added (within n p) vals x) zero64 (below (within n (both p a)) (64 * next_word))
      pub candidate_is : candidate ≡ count (within n p) (64 * next_word)
      pub executed_is : executed ≡ count (within n (both p a)) (64 * next_word)
      pub words_are : words ≡ count (hit (both p a) n) next_word

    pub dotting_none : Dotting 0 zero64 0 0 0
    dotting_none = record {
      next_word = 0;
      front = front-none p n;
      sum_is = sym (ap (foldl (added (within n p) vals x) zero64) (below-zero (within n (both p a))));
      candidate_is = sym (ap length (below-zero (within n p)));
      executed_is = sym (ap length (below-zero (within n (both p a))));
      words_are = sym (ap length (below-zero (hit (both p a) n)));
    }

    module _ (i : ℕ) (sum : Float) (candidate executed words : ℕ) (d : Dotting i sum candidate executed words) where
      module _ (w m b : ℕ) (y : Placed p n i w m) (e : b ≡ mask_of (both p a) n w) where
        the_next : Next p n i d.next_word w
        the_next = rw y.word (next p n i d.next_word d.front y.place)

        pub word_in_lem : w < ceil64 n
        word_in_lem = the_next.bound

        -- counts up to this word
        candidate_here : candidate ≡ count (within n p) (64 * w)
        candidate_here = d.candidate_is ∙ sym (ap length (skip_columns d.next_word w the_next.after the_next.skipped))

        executed_here : executed ≡ count (within n (both p a)) (64 * w)
        executed_here = d.executed_is ∙ sym (ap length (skip_both d.next_word w the_next.after the_next.skipped))

        words-here : words ≡ count (hit (both p a) n) w
        words-here = d.words_are ∙ sym (ap length (skip_words d.next_word w the_next.after the_next.skipped))

        pub candidate_small : candidate ≤ n
        candidate_small = omega (arith, candidate_here, count_upto p n (64 * w))

        -- the place of a bit of this word
        place_is : (j : ℕ) → j ≤ 64 → candidate + count (has m) j ≡ count (within n p) (64 * w + j)
        place_is j l = ap₂ (λ (s t : ℕ). s + count (has t) j) candidate_here y.mask ∙ sym (count_in p n w j l)

        candidate_more : candidate + count (has m) 64 ≡ count (within n p) (64 * (w + 1))
        candidate_more = let s : 64 * w + 64 ≡ 64 * (w + 1) = omega arith in place_is 64 (omega arith) ∙ ap (count (within n p)) s

        executed_more : executed + count (has b) 64 ≡ count (within n (both p a)) (64 * (w + 1))
        executed_more =
            let s : 64 * w + 64 ≡ 64 * (w + 1) = omega arith in
            ap₂ (λ (s t : ℕ). s + count (has t) 64) executed_here e ∙ sym (count_in (both p a) n w 64 (omega arith)) ∙ ap (count (within n (both p a))) s

        words_more : words + bool_byte (not (eqb b 0)) ≡ count (hit (both p a) n) (w + 1)
        words_more = ap₂ (λ (s t : ℕ). s + bool_byte (not (eqb t 0))) words-here e ∙ sym (length-below-suc (hit (both p a) n) w) ∙ ap (count (hit (both p a) n)) (sym (add-one w))

        pub candidate_fits : candidate + count (has m) 64 ≤ n
        candidate_fits = omega (arith, candidate_more, count_upto p n (64 * (w + 1)))

        pub executed_fits : executed + count (has b) 64 ≤ n
        executed_fits = omega (arith, executed_more, count_upto (both p a) n (64 * (w + 1)))

        pub words_fit : words + bool_byte (not (eqb b 0)) ≤ n
        words_fit = omega (arith, words_more, length-below-le (hit (both p a) n) (w + 1), word_in_lem)

        -- a product of this word reads inside its lists
        pub reads_inside : length vals ≡ count p n → length x ≡ n → word_inside (length vals) (length x) m b candidate (64 * w) ≡ true
        unfolding word_inside members
        reads_inside lv lx = every-below (λ j. ltb (candidate + count (has m) j) (length vals) && ltb (64 * w + j) (length x)) (has b) 64 one
          where
            one : (j : ℕ) → j < 64 → has b j ≡ true → (ltb (candidate + count (has m) j) (length vals) && ltb (64 * w + j) (length x)) ≡ true
            one j l h =
                let c : ℕ = 64 * w + j in
                let k : within n (both p a) (64 * w + j) ≡ true = sym (has-mask_of (both p a) n w j l) ∙ ap (λ (t : ℕ). has t j) (sym e) ∙ h in
                let low : 64 * w + j < n = ltb-true (64 * w + j) n (and_left (ltb (64 * w + j) n) (both p a (64 * w + j)) k) in
                let here : p (64 * w + j) ≡ true = and_left (p (64 * w + j)) (a (64 * w + j)) (and_right (ltb (64 * w + j) n) (both p a (64 * w + j)) k) in
                let z : candidate + count (has m) j < length vals = omega (arith, place_is j (omega arith), count_frame p n (64 * w + j) (omega arith), rank_lt p (64 * w + j) n low here, lv) in
                and_both (ltb (candidate + count (has m) j) (length vals)) (ltb (64 * w + j) (length x)) (lt-ltb (candidate + count (has m) j) (length vals) z) (lt-ltb (64 * w + j) (length x) (omega arith))

        sum_more : word_sum vals x m b candidate (64 * w) sum ≡ foldl (added (within n p) vals x) zero64 (below (within n (both p a)) (64 * (w + 1)))
        unfolding word_sum members
        sum_more =
            let f : Float → ℕ → Float = added (within n p) vals x in
            fold_below (λ (s : Float) (j : ℕ). add binary64 s (mul binary64 (get_or vals (candidate + count (has m) j) nan) (at x (64 * w + j)))) (λ (s : Float) (j : ℕ). f s (64 * w + j)) (has b) 64 sum
            (λ s j l y. ap (λ (k : ℕ). add binary64 s (mul binary64 (get_or vals k nan) (at x (64 * w + j)))) (place_is j (omega arith)))
            ∙ sym (foldl-map f (λ (j : ℕ). 64 * w + j) sum (below (has b) 64))
            ∙ ap₂ (λ (s : Float) (k : ℕ). foldl f s (map (λ (j : ℕ). 64 * w + j) (below (has k) 64))) (d.sum_is ∙ sym (ap (foldl f zero64) (skip_both d.next_word w the_next.after the_next.skipped))) e
            ∙ sym (foldl-append f zero64 (below (within n (both p a)) (64 * w)) (map (λ (j : ℕ). 64 * w + j) (members (mask_of (both p a) n w))))
            ∙ sym (ap (foldl f zero64) (both_block w))

        pub dotting_more : (s : Float) (c k v : ℕ) → s ≡ word_sum vals x m b candidate (64 * w) sum → c ≡ count (has m) 64 → k ≡ count (has b) 64 → v ≡ bool_byte (not (eqb b 0))
            → Dotting (i + 1) s (candidate + c) (executed + k) (words + v)
        dotting_more s c k v es ec ek ev = record {
          next_word = w + 1;
          front = the_next.front;
          sum_is = es ∙ sum_more;
          candidate_is = ap (λ (t : ℕ). candidate + t) ec ∙ candidate_more;
          executed_is = ap (λ (t : ℕ). executed + t) ek ∙ executed_more;
          words_are = ap (λ (t : ℕ). words + t) ev ∙ words_more;
        }

      -- at the end of the row
      module _ (l : length (words_of p n) ≤ i) where
        sum-all : sum ≡ sum_over (below (both p a) n) (λ c. get_or vals (count p c) nan) (at x)
        unfolding sum_over
        sum-all =
            let f : Float → ℕ → Float = added (within n p) vals x in
            d.sum_is
            ∙ ap (foldl f zero64) (sym (skip_both d.next_word (ceil64 n) d.front.inside (ended p n i d.next_word d.front l)) ∙ frame (both p a))
            ∙ fold_below f (added p vals x) (both p a) n zero64 (λ s c u y. ap (λ (k : ℕ). add binary64 s (mul binary64 (get_or vals k nan) (at x c))) (sym (count_frame p n c (omega arith))))

        candidate_all : candidate ≡ count p n
        candidate_all = d.candidate_is ∙ ap length (sym (skip_columns d.next_word (ceil64 n) d.front.inside (ended p n i d.next_word d.front l)) ∙ frame p)

        executed_all : executed ≡ count (both p a) n
        executed_all = d.executed_is ∙ ap length (sym (skip_both d.next_word (ceil64 n) d.front.inside (ended p n i d.next_word d.front l)) ∙ frame (both p a))

        words-all : words ≡ length (words_of (both p a) n)
        unfolding words_of
        words-all = d.words_are ∙ ap length (sym (skip_words d.next_word (ceil64 n) d.front.inside (ended p n i d.next_word d.front l)))

        pub executed_le : executed ≤ candidate
        executed_le = omega (arith, candidate_all, executed_all, length-below-parts p a n)

        skipped_all : candidate - executed ≡ count (λ c. p c && not (a c)) n
        skipped_all = omega (arith, candidate_all, executed_all, length-below-parts p a n)

        pub dotting_done : (k : ℕ) → k ≡ length (words_of p n)
            → ◌≡◌ {A = AbtmRowDot} (record { sum = sum; candidate_products = candidate; executed_products = executed; skipped_products = candidate - executed; topology_words = k; active_words = words }) (dot_of n p (λ c. get_or vals (count p c) nan) a (at x))
        unfolding dot_of
        dotting_done k e = λ j. record {
          sum = sum-all j;
          candidate_products = candidate_all j;
          executed_products = executed_all j;
          skipped_products = skipped_all j;
          topology_words = e j;
          active_words = words-all j;
        }

-- ---- as the code holds it: a row's lent parts, and the words of a mask

pub record Walked (n : ℕ) (ws ms : List ℕ) (vals : List Float) (bits : List ℕ) (x : List Float) (i : ℕ) (sum : Float) (candidate executed words : ℕ) : Type 0 where
  pub ready : RowReady n ws ms vals bits x
  pub tiny : (k : ℕ) → get_or ms k 0 < 2 ^ 64
  pub fits : (k : ℕ) → get_or bits k 0 < 2 ^ 64
  pub dots : Dotting (row_member ws ms) (active (as_mask n bits)) n vals x i sum candidate executed words

module _ (n : ℕ) (ws ms : List ℕ) (vals : List Float) (bits : List ℕ) (x : List Float) where
  pub walked_none : RowReady n ws ms vals bits x → ((k : ℕ) → get_or ms k 0 < 2 ^ 64) → ((k : ℕ) → get_or bits k 0 < 2 ^ 64) → Walked n ws ms vals bits x 0 zero64 0 0 0
  walked_none ready tiny fits = record { ready = ready; tiny = tiny; fits = fits; dots = dotting_none (row_member ws ms) (active (as_mask n bits)) n vals x }

  module _ (i : ℕ) (sum : Float) (candidate executed words : ℕ) (h : Walked n ws ms vals bits x i sum candidate executed words) where
    row : Row (row_member ws ms) n ws ms
    row = row_is n ws ms h.ready.rule (sym h.ready.sides) (small_is ms h.tiny)

    module _ (l : i < length ws) (w : ℕ) (ew : w ≡ get_or ws i 0) where
      here : Placed (row_member ws ms) n i w (get_or ms i 0)
      here = placed (row_member ws ms) n ws ms row i w (get_or ms i 0) l ew refl

      pub walked_word : w < length bits
      walked_word =
          omega (arith, word_in_lem (row_member ws ms) (active (as_mask n bits)) n vals x i sum candidate executed words h.dots w (get_or ms i 0) (mask_of (both (row_member ws ms) (active (as_mask n bits))) n w) here refl, (valid n bits h.ready.mask_valid).counted)

      module _ (b : ℕ) (eb : b ≡ word_of (λ j. has (get_or ms i 0) j && has (get_or bits w 0) j)) where
        bits_are : b ≡ mask_of (both (row_member ws ms) (active (as_mask n bits))) n w
        bits_are =
            eb ∙ sym (intersection_is (get_or ms i 0) (get_or bits w 0) (h.tiny i) (h.fits w))
            ∙ ap₂ (λ (s t : ℕ). bit_and s t) here.mask (word_is_mask n bits (valid n bits h.ready.mask_valid) h.fits w)
            ∙ sym (mask-both (row_member ws ms) (active (as_mask n bits)) n w)

        pub walked_place : candidate ≤ 2 ^ 20
        walked_place = omega (arith, candidate_small (row_member ws ms) (active (as_mask n bits)) n vals x i sum candidate executed words h.dots w (get_or ms i 0) b here bits_are, h.ready.columns_in)

        pub walked_base : 64 * w ≤ 2 ^ 20
        walked_base = omega (arith, word_in_lem (row_member ws ms) (active (as_mask n bits)) n vals x i sum candidate executed words h.dots w (get_or ms i 0) b here bits_are, h.ready.columns_in)

        pub walked_inside : word_inside (length vals) (length x) (get_or ms i 0) b candidate (64 * w) ≡ true
        walked_inside = reads_inside (row_member ws ms) (active (as_mask n bits)) n vals x i sum candidate executed words h.dots w (get_or ms i 0) b here bits_are h.ready.values_are h.ready.vector_long

        pub walked_candidate : (c : ℕ) → c ≡ count (has (get_or ms i 0)) 64 → candidate + c ≤ 2 ^ 20
        walked_candidate c e = omega (arith, e, candidate_fits (row_member ws ms) (active (as_mask n bits)) n vals x i sum candidate executed words h.dots w (get_or ms i 0) b here bits_are, h.ready.columns_in)

        pub walked_executed : (k : ℕ) → k ≡ count (has b) 64 → executed + k ≤ 2 ^ 20
        walked_executed k e = omega (arith, e, executed_fits (row_member ws ms) (active (as_mask n bits)) n vals x i sum candidate executed words h.dots w (get_or ms i 0) b here bits_are, h.ready.columns_in)

        pub walked_words : (v : ℕ) → v ≡ bool_byte (not (eqb b 0)) → words + v ≤ 2 ^ 20
        walked_words v e = omega (arith, e, words_fit (row_member ws ms) (active (as_mask n bits)) n vals x i sum candidate executed words h.dots w (get_or ms i 0) b here bits_are, h.ready.columns_in)

        pub walked_more : (s : Float) (c k v : ℕ) → s ≡ word_sum vals x (get_or ms i 0) b candidate (64 * w) sum → c ≡ count (has (get_or ms i 0)) 64 → k ≡ count (has b) 64 → v ≡ bool_byte (not (eqb b 0))
            → Walked n ws ms vals bits x (i + 1) s (candidate + c) (executed + k) (words + v)
        walked_more s c k v es ec ek ev = record {
          ready = h.ready;
          tiny = h.tiny;
          fits = h.fits;
          dots = dotting_more (row_member ws ms) (active (as_mask n bits)) n vals x i sum candidate executed words h.dots w (get_or ms i 0) b here bits_are s c k v es ec ek ev;
        }

        -- a word without a product
        pub walked_past : b ≡ 0 → (c : ℕ) → c ≡ count (has (get_or ms i 0)) 64 → Walked n ws ms vals bits x (i + 1) sum (candidate + c) executed words
        walked_past z c ec =
            let k : executed + 0 ≡ executed = omega arith in
            let v : words + 0 ≡ words = omega arith in
            subst (λ (t : ℕ). Walked n ws ms vals bits x (i + 1) sum (candidate + c) t words) k
            (subst (λ (t : ℕ). Walked n ws ms vals bits x (i + 1) sum (candidate + c) (executed + 0) t) v
            (walked_more sum c 0 0 (no_sum vals x (get_or ms i 0) candidate (64 * w) b sum z) ec (no_products b z) (no_word b z)))

    module _ (l : length ws ≤ i) where
      pub walked_le : executed ≤ candidate
      walked_le = executed_le (row_member ws ms) (active (as_mask n bits)) n vals x i sum candidate executed words h.dots (at_end (row_member ws ms) n ws ms row i l)

      pub walked_done : ◌≡◌ {A = AbtmRowDot} (record { sum = sum; candidate_products = candidate; executed_products = executed; skipped_products = candidate - executed; topology_words = length ws; active_words = words }) (row_dot n ws ms vals bits x)
      walked_done = dotting_done (row_member ws ms) (active (as_mask n bits)) n vals x i sum candidate executed words h.dots (at_end (row_member ws ms) n ws ms row i l) (length ws) (ap length row.words)
