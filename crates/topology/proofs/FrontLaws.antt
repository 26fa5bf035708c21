-- A loop over the words of a row: the first i words are those below word f. What lies between, and the columns below it. Assumes nothing.
use Rattle.std.proofs.Common.{◌≡◌, ℕ, suc, ◌+◌, ◌-◌, ◌*◌, ◌/◌, ◌%◌, ◌<◌, ◌≤◌, Bool, true, false, ltb, List, length, get_or, sym, refl, ap, ◌∙◌, ap₂, add-zero, add-one, arith, ltb-true}
use Rattle.std.specs.Prelude.{None, Some}
use Rattle.std.proofs.lemmas.Option.{none-some, same_Some}
use native.Mathlib.Decide.{dec_lt, le_ind}
use mir.Val.{bool_byte}
use Rattle.hybit_core.proofs.BoolLaws.{and_left, and_right}
use Rattle.word.specs.Bits.{has, below, count, selected, within, mask_of, hit, ceil64, words_of}
use Rattle.word.proofs.BelowLaws.{below-zero, below_cong, length-below-suc, length_below_mono, length-below-le, rank_lt, Selects, selects, length_block, below_trim, selected_finds, selected_nothing, selected_of_rank}
use Rattle.word.proofs.LowestLaws.{none as none_in}
use Rattle.word.proofs.BitLaws.{within_in, has-mask_of}
use Rattle.word.proofs.WordLaws.{mask-none}
use Rattle.lent.proofs.ListLaws.{get_or-map-lt}
use Rattle.topology.proofs.RowLaws.{Row}

module _ (p : ℕ → Bool) (n : ℕ) where
  -- ---- words

  -- the first i words of the row are those below f
  pub record Front (i f : ℕ) : Type 0 where
    pub ranked : i ≡ count (hit p n) f
    pub inside : f ≤ ceil64 n

  pub front-none : Front 0 0
  front-none = record { ranked = sym (ap length (below-zero (hit p n))); inside = omega arith }

  -- w is the row's word at place i, and m its mask
  pub record Placed (i w m : ℕ) : Type 0 where
    pub place : i < length (words_of p n)
    pub word : w ≡ get_or (words_of p n) i 0
    pub mask : m ≡ mask_of p n w

  -- the word at place i: it is not below f, and the words between are empty
  pub record Next (i f w : ℕ) : Type 0 where
    pub after : f ≤ w
    pub bound : w < ceil64 n
    pub holds : hit p n w ≡ true
    pub skipped : (v : ℕ) → f ≤ v → v < w → hit p n v ≡ false
    pub front : Front (i + 1) (w + 1)

  empty_if : (v : ℕ) → (hit p n v ≡ true → ⊥) → hit p n v ≡ false
  empty_if v h = go (hit p n v) refl
    where
      go : (t : Bool) → hit p n v ≡ t → t ≡ false
      go true e = absurd (h e)
      go false e = refl

  pub next : (i f : ℕ) → Front i f → i < length (words_of p n) → Next i f (get_or (words_of p n) i 0)
  unfolding words_of
  next i f h l =
      let w : ℕ = get_or (below (hit p n) (ceil64 n)) i 0 in
      let s : Selects (hit p n) (ceil64 n) i w = selects (hit p n) (ceil64 n) i l in
      record {
        after = go (dec_lt w f) s;
        bound = s.bound;
        holds = s.member;
        skipped = λ v a b. empty_if v (λ e. omega (arith, rank_lt (hit p n) v w b e, length_below_mono (hit p n) f v a, s.ranked, h.ranked));
        front = record {
          ranked = sym (ap (count (hit p n)) (add-one w) ∙ length-below-suc (hit p n) w ∙ ap₂ (λ (a : ℕ) (t : Bool). a + bool_byte t) s.ranked s.member);
          inside = omega (arith, s.bound);
        };
      }
    where
      go : Dec (get_or (below (hit p n) (ceil64 n)) i 0 < f) → Selects (hit p n) (ceil64 n) i (get_or (below (hit p n) (ceil64 n)) i 0) → f ≤ get_or (below (hit p n) (ceil64 n)) i 0
      go (yes d) s = absurd (omega (arith, rank_lt (hit p n) (get_or (below (hit p n) (ceil64 n)) i 0) f d s.member, s.ranked, h.ranked))
      go (no d) s = omega arith

  -- at the end of the row: the words from f on are empty
  pub ended : (i f : ℕ) → Front i f → length (words_of p n) ≤ i → (v : ℕ) → f ≤ v → v < ceil64 n → hit p n v ≡ false
  unfolding words_of
  ended i f h l v a b = empty_if v (λ e. omega (arith, rank_lt (hit p n) v (ceil64 n) b e, length_below_mono (hit p n) f v a, h.ranked))

  -- ---- columns

  count_none : (i : ℕ) → count (has 0) i ≡ 0
  count_none i = ap length (none_in i)

  -- the columns below place i of word w
  pub count_in : (w i : ℕ) → i ≤ 64 → count (within n p) (64 * w + i) ≡ count (within n p) (64 * w) + count (has (mask_of p n w)) i
  count_in w i l =
      length_block (within n p) (64 * w) i
      ∙ ap (λ (k : List ℕ). count (within n p) (64 * w) + length k) (below_cong (λ j. within n p (64 * w + j)) (has (mask_of p n w)) i (λ j d. sym (has-mask_of p n w j (omega arith))))

  -- empty words add none
  pub count_skip : (f w : ℕ) → f ≤ w → ((v : ℕ) → f ≤ v → v < w → hit p n v ≡ false) → count (within n p) (64 * w) ≡ count (within n p) (64 * f)
  count_skip f w h = le_ind (λ (k : ℕ). ((v : ℕ) → f ≤ v → v < k → hit p n v ≡ false) → count (within n p) (64 * k) ≡ count (within n p) (64 * f)) (λ g. refl) (λ k l q g. one k (g k l (omega arith)) ∙ q (λ v a b. g v a (omega arith))) w h
    where
      one : (k : ℕ) → hit p n k ≡ false → count (within n p) (64 * suc k) ≡ count (within n p) (64 * k)
      one k e =
          let s : 64 * suc k ≡ 64 * k + 64 = omega arith in
          ap (count (within n p)) s ∙ count_in k 64 (omega arith) ∙ ap (λ (m : ℕ). count (within n p) (64 * k) + count (has m) 64) (mask-none p n k e)
          ∙ ap (λ (c : ℕ). count (within n p) (64 * k) + c) (count_none 64) ∙ add-zero (count (within n p) (64 * k))

  -- inside the frame the frame's test says nothing
  pub count_frame : (c : ℕ) → c ≤ n → count p c ≡ count (within n p) c
  count_frame c h = ap length (below_cong p (within n p) c (λ i l. sym (within_in n p i (omega arith))))

  pub count_upto : (k : ℕ) → count (within n p) k ≤ n
  count_upto k = go (dec_lt n k)
    where
      go : Dec (n < k) → count (within n p) k ≤ n
      go (yes h) = omega (arith, ap length (below_trim (within n p) n k (omega arith) (λ i a b. past i a)), length-below-le (within n p) n)
        where
          past : (i : ℕ) → n ≤ i → within n p i ≡ false
          past i a = off (within n p i) refl
            where
              off : (t : Bool) → within n p i ≡ t → t ≡ false
              off true e = absurd (omega (arith, ltb-true i n (and_left (ltb i n) (p i) e)))
              off false e = refl
      go (no h) = omega (arith, length-below-le (within n p) k)

  -- ---- the rank of a column: the ones of the words before its own

  module _ (c : ℕ) where
    split : 64 * (c / 64) + c % 64 ≡ c
    split = omega arith

    -- the ones of the first i words, all before column c's
    pub record Ranking (i rank : ℕ) : Type 0 where
      pub at : ℕ
      pub front : Front i at
      pub before : at ≤ c / 64
      pub is : rank ≡ count (within n p) (64 * at)

    pub ranking_none : Ranking 0 0
    ranking_none = record { at = 0; front = front-none; before = omega arith; is = sym (ap length (below-zero (within n p))) }

    rank_by : c ≤ n → (f k : ℕ) → f ≤ c / 64 → ((v : ℕ) → f ≤ v → v < c / 64 → hit p n v ≡ false) → k ≡ count (has (mask_of p n (c / 64))) (c % 64) → count (within n p) (64 * f) + k ≡ count p c
    rank_by low f k h g e =
        ap₂ (λ (a b : ℕ). a + b) (sym (count_skip f (c / 64) h g)) e ∙ sym (count_in (c / 64) (c % 64) (omega arith)) ∙ ap (count (within n p)) split ∙ sym (count_frame c low)

    no_mask : hit p n (c / 64) ≡ false → 0 ≡ count (has (mask_of p n (c / 64))) (c % 64)
    no_mask e = sym (ap (λ (m : ℕ). count (has m) (c % 64)) (mask-none p n (c / 64) e) ∙ count_none (c % 64))

    module _ (i rank : ℕ) (r : Ranking i rank) where
      module _ (w m : ℕ) (x : Placed i w m) where
        the_next : Next i r.at w
        the_next = rw x.word (next i r.at r.front x.place)

        more : rank + count (has m) 64 ≡ count (within n p) (64 * (w + 1))
        more =
            let s : 64 * (w + 1) ≡ 64 * w + 64 = omega arith in
            ap₂ (λ (a b : ℕ). a + b) (r.is ∙ sym (count_skip r.at w the_next.after the_next.skipped)) (ap (λ (k : ℕ). count (has k) 64) x.mask) ∙ sym (count_in w 64 (omega arith)) ∙ sym (ap (count (within n p)) s)

        pub ranking_more : w < c / 64 → Ranking (i + 1) (rank + count (has m) 64)
        ranking_more h = record { at = w + 1; front = the_next.front; before = omega arith; is = more }

        pub ranking_fits : rank + count (has m) 64 ≤ n
        ranking_fits = omega (arith, more, count_upto (64 * (w + 1)))

        pub ranking_at : c ≤ n → w ≡ c / 64 → rank + count (has m) (c % 64) ≡ count p c
        ranking_at low e =
            ap (λ (k : ℕ). k + count (has m) (c % 64)) r.is
            ∙ rank_by low r.at (count (has m) (c % 64)) r.before (λ v a b. the_next.skipped v a (omega arith)) (ap (λ (k : ℕ). count (has k) (c % 64)) (x.mask ∙ ap (mask_of p n) e))

        pub ranking_small : c ≤ n → w ≡ c / 64 → rank + count (has m) (c % 64) ≤ c
        ranking_small low e = omega (arith, ranking_at low e, length-below-le p c)

        pub ranking_past : c ≤ n → c / 64 < w → rank ≡ count p c
        ranking_past low h =
            r.is ∙ sym (add-zero (count (within n p) (64 * r.at)))
            ∙ rank_by low r.at 0 r.before (λ v a b. the_next.skipped v a (omega arith)) (no_mask (the_next.skipped (c / 64) r.before h))

      pub ranking_done : c ≤ n → length (words_of p n) ≤ i → rank ≡ count p c
      ranking_done low l = r.is ∙ sym (add-zero (count (within n p) (64 * r.at))) ∙ rank_by low r.at 0 r.before (λ v a b. ended i r.at r.front l v a (omega arith)) (tail (dec_lt (c / 64) (ceil64 n)))
        where
          tail : Dec (c / 64 < ceil64 n) → 0 ≡ count (has (mask_of p n (c / 64))) (c % 64)
          tail (yes h) = no_mask (ended i r.at r.front l (c / 64) r.before h)
          tail (no h) = let z : c % 64 ≡ 0 = omega arith in sym (ap (count (has (mask_of p n (c / 64)))) z ∙ ap length (below-zero (has (mask_of p n (c / 64)))))

  -- ---- select: so many ordinals are left after the ones of the first i words

  module _ (k : ℕ) where
    pub record Selecting (i left : ℕ) : Type 0 where
      pub at : ℕ
      pub front : Front i at
      pub is : left + count (within n p) (64 * at) ≡ k

    pub selecting_none : Selecting 0 k
    selecting_none = record { at = 0; front = front-none; is = ap (λ (l : List ℕ). k + length l) (below-zero (within n p)) ∙ add-zero k }

    module _ (i left : ℕ) (s : Selecting i left) where
      module _ (w m : ℕ) (x : Placed i w m) where
        here : Next i s.at w
        here = rw x.word (next i s.at s.front x.place)

        start : left + count (within n p) (64 * w) ≡ k
        start = ap (λ (a : ℕ). left + a) (count_skip s.at w here.after here.skipped) ∙ s.is

        pub selecting_more : count (has m) 64 ≤ left → Selecting (i + 1) (left - count (has m) 64)
        selecting_more h =
            let q : 64 * (w + 1) ≡ 64 * w + 64 = omega arith in
            let z : count (within n p) (64 * (w + 1)) ≡ count (within n p) (64 * w) + count (has m) 64 = ap (count (within n p)) q ∙ count_in w 64 (omega arith) ∙ ap (λ (j : ℕ). count (within n p) (64 * w) + count (has j) 64) (sym x.mask) in
            record { at = w + 1; front = here.front; is = omega (arith, z, start, h) }

        pub selecting_at : (o : ℕ) → Some o ≡ selected (has m) 64 left → left < count (has m) 64 → Some (64 * w + o) ≡ selected p n k
        selecting_at o e h =
            let f = selected_finds (has m) 64 left h in
            let same : o ≡ f.0 = same_Some o f.0 (e ∙ f.1) in
            let y : Selects (has m) 64 left o = rw same f.2 in
            let b : within n p (64 * w + o) ≡ true = sym (has-mask_of p n w o y.bound) ∙ ap (λ (j : ℕ). has j o) (sym x.mask) ∙ y.member in
            let inside : 64 * w + o < n = ltb-true (64 * w + o) n (and_left (ltb (64 * w + o) n) (p (64 * w + o)) b) in
            let r : count p (64 * w + o) ≡ k =
            count_frame (64 * w + o) (omega arith) ∙ count_in w o (omega (arith, y.bound)) ∙ ap (λ (j : ℕ). count (within n p) (64 * w) + count (has j) o) (sym x.mask)
            ∙ ap (λ (j : ℕ). count (within n p) (64 * w) + j) y.ranked ∙ omega (arith, start) in
            sym (ap (selected p n) (sym r) ∙ selected_of_rank p n (64 * w + o) inside (and_right (ltb (64 * w + o) n) (p (64 * w + o)) b))

        -- a word with more ones than are left has one to give
        pub selecting_gives : {A : Type 0} → None ≡ selected (has m) 64 left → left < count (has m) 64 → A
        selecting_gives e h = let f = selected_finds (has m) 64 left h in absurd (none-some f.0 (e ∙ f.1))

      pub selecting_done : length (words_of p n) ≤ i → None ≡ selected p n k
      selecting_done l =
          let q : n ≤ 64 * ceil64 n = omega arith in
          let c : count (within n p) (64 * ceil64 n) ≡ count (within n p) (64 * s.at) = count_skip s.at (ceil64 n) s.front.inside (ended i s.at s.front l) in
          sym (selected_nothing p n k (omega (arith, s.is, c, count_frame n (omega arith), length_below_mono (within n p) n (64 * ceil64 n) q)))

-- ---- as the code holds it: two lists that are a row, read at place i

module _ (p : ℕ → Bool) (n : ℕ) (ws ms : List ℕ) (row : Row p n ws ms) where
  pub placed : (i w m : ℕ) → i < length ws → w ≡ get_or ws i 0 → m ≡ get_or ms i 0 → Placed p n i w m
  placed i w m l a b =
      let z : i < length (words_of p n) = rw (← row.words) l in
      let e : w ≡ get_or (words_of p n) i 0 = a ∙ ap (λ (l : List ℕ). get_or l i 0) row.words in
      record { place = z; word = e; mask = b ∙ ap (λ (l : List ℕ). get_or l i 0) row.masks ∙ get_or-map-lt (mask_of p n) (words_of p n) i 0 0 z ∙ ap (mask_of p n) (sym e) }

  pub at_end : (i : ℕ) → length ws ≤ i → length (words_of p n) ≤ i
  at_end i l = rw (← row.words) l
