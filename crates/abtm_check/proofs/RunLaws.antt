-- The rules of all tiles' values: the absent places of Dense tiles one after the other, then the count of all values that are neither
-- NaN nor zero. Assumes nothing.
use Rattle.std.proofs.Common.{◌≡◌, ℕ, ◌+◌, ◌-◌, ◌<◌, ◌≤◌, Bool, true, false, cond, not, ◌&&◌, eqb, leb, List, [], ◌∷◌, length, get_or, take, drop, sym, refl, ap, ◌∙◌, subst, ap₂, le_refl, arith, length-drop, drop_of_length-le, length-take-le, take_all, eq-eqb, eqb-true}
use mathlib.Core.Bool.{and-false}
use mathlib.Core.List.{zip, zip_with}
use lib.Seq.{slice, length-slice}
use lib.Ieee.{Float, nan}
use borrow.Author.Tests.{eqb-false}
use Rattle.hybit_core.proofs.BoolLaws.{and_left, and_right, and_both, and_first, same_test, not-both}
use Rattle.lent.specs.Lists.{only, every}
use Rattle.lent.proofs.ListLaws.{length-only, slice_lent, drop-rest}
use Rattle.word.specs.Bits.{has, below, count, members}
use Rattle.word.proofs.LowestLaws.{members-none}
use Rattle.word.proofs.OpLaws.{members-count}
use Rattle.topology.specs.Words.{set_bits}
use Rattle.topology.proofs.ScanLaws.{bits_append, bits_one}
use Rattle.abtm_values.specs.Values.{solid, plus_zero}
use Rattle.abtm.specs.Tiles.{Listed, kind_in, is_dense, places, slot_count, stored, value_rule, tile_at, tile_rule, gapless, slot_rules}
use Rattle.abtm.proofs.KindLaws.{dense_count, compact_places}
use Rattle.word.proofs.PassLaws.{all_pass, pass_all, count-only, part_apart}
use Rattle.abtm_values.proofs.ValueLaws.{plus_not_solid}
use Rattle.abtm_check.proofs.DenseLaws.{absent_word, absent_tested, of_absent, counts_say, says_counts, counts_le}
use Rattle.abtm_check.proofs.TilesLaws.{listed, none-listed, gapless-le}
use Rattle.abtm_check.proofs.SlotLaws.{values_keep, dense_sized, dense_rule, compact_rule}

-- ---- s values that are neither NaN nor zero at b present places, whose rule is t

pub record Counts (s b : ℕ) (t : Bool) : Type 0 where
  pub most : s ≤ b
  pub counted : t ≡ true → s ≡ b
  pub kept : s ≡ b → t ≡ true

joined_counts : (s b : ℕ) (t : Bool) (s' b' : ℕ) (t' : Bool) → Counts s b t → Counts s' b' t' → Counts (s + s') (b + b') (t && t')
joined_counts s b t s' b' t' c d = record {
  most = omega (arith, c.most, d.most);
  counted = λ e. omega (arith, c.counted (and_left t t' e), d.counted (and_right t t' e));
  kept = λ e. and_both t t' (c.kept (omega (arith, c.most, d.most))) (d.kept (omega (arith, c.most, d.most)));
}

-- ---- one tile with the values vs

-- the absent places of a Dense tile hold +0.0
abbrev pub absent_keep : ℕ → List Float → Bool
absent_keep mask vs = every (λ i. plus_zero (get_or vs i nan)) (below (λ i. not (has mask i)) 64)

-- those of a tile of any kind
abbrev pub absent_in : ℕ → ℕ → List Float → Bool
absent_in mask meta vs = cond (is_dense meta) (absent_keep mask vs) true

-- its absent places as a word, which is 0 where there is none
abbrev pub word_is : ℕ → ℕ → ℕ
word_is mask meta = cond (is_dense meta) (absent_word mask) 0

module _ (mask meta k : ℕ) (e : k ≡ kind_in meta) where
  pub word_dense : k ≡ 2 → (w : ℕ) → w ≡ absent_word mask → w ≡ word_is mask meta
  word_dense d w q = q ∙ ap (λ (t : Bool). cond t (absent_word mask) 0) (sym (eq-eqb (kind_in meta) 2 (sym e ∙ d)))

  word_other : (k ≡ 2 → ⊥) → 0 ≡ word_is mask meta
  word_other d = go (is_dense meta) refl
    where
      go : (t : Bool) → is_dense meta ≡ t → 0 ≡ cond t (absent_word mask) 0
      go true f = absurd (d (e ∙ eqb-true (kind_in meta) 2 f))
      go false f = refl

module _ (mask meta w : ℕ) (e : w ≡ word_is mask meta) where
  word_dense_only : (w ≡ 0 → ⊥) → kind_in meta ≡ 2
  word_dense_only d = go (is_dense meta) refl
    where
      go : (t : Bool) → is_dense meta ≡ t → kind_in meta ≡ 2
      go true f = eqb-true (kind_in meta) 2 f
      go false f = absurd (d (e ∙ ap (λ (t : Bool). cond t (absent_word mask) 0) f))

  -- the test of its places is that of the absent places
  word_tested : (w ≡ 0 → ⊥) → (vs : List Float) → every (λ i. plus_zero (get_or vs i nan)) (members w) ≡ absent_keep mask vs
  word_tested d vs =
      let dense : is_dense meta ≡ true = eq-eqb (kind_in meta) 2 (word_dense_only d) in
      ap (λ (u : ℕ). every (λ i. plus_zero (get_or vs i nan)) (members u)) (e ∙ ap (λ (t : Bool). cond t (absent_word mask) 0) dense)
      ∙ sym (absent_tested (λ i. plus_zero (get_or vs i nan)) mask)

  word_none : w ≡ 0 → (vs : List Float) → absent_in mask meta vs ≡ true
  unfolding every
  word_none z vs = go (is_dense meta) refl
    where
      go : (t : Bool) → is_dense meta ≡ t → cond t (absent_keep mask vs) true ≡ true
      go true f =
          let q : absent_word mask ≡ 0 = sym (e ∙ ap (λ (t : Bool). cond t (absent_word mask) 0) f) ∙ z in
          absent_tested (λ i. plus_zero (get_or vs i nan)) mask ∙ ap (λ (u : ℕ). every (λ i. plus_zero (get_or vs i nan)) (members u)) q ∙ ap (every (λ i. plus_zero (get_or vs i nan))) members-none
      go false f = refl

module _ (mask meta : ℕ) (vs : List Float) (same : length vs ≡ length (places mask meta)) where
  abbrev by_solid : ℕ → Bool
  by_solid i = solid (get_or vs i nan)

  abbrev by_plus : ℕ → Bool
  by_plus i = plus_zero (get_or vs i nan)

  apart : (i : ℕ) → by_plus i ≡ true → by_solid i ≡ false
  apart i = plus_not_solid (get_or vs i nan)

  tile_counts : absent_in mask meta vs ≡ true → Counts (length (only solid vs)) (count (has mask) 64) (values_keep mask meta vs)
  tile_counts = go (is_dense meta) refl
    where
      go : (t : Bool) → is_dense meta ≡ t → cond t (absent_keep mask vs) true ≡ true → Counts (length (only solid vs)) (count (has mask) 64) (values_keep mask meta vs)
      go true d a =
          let k : kind_in meta ≡ 2 = eqb-true (kind_in meta) 2 d in
          let n : length vs ≡ 64 = dense_sized mask meta vs same (kind_in meta) refl k in
          let c : count by_solid 64 ≡ length (only solid vs) = count-only solid vs nan 64 (omega (arith, n)) ∙ ap (λ (l : List Float). length (only solid l)) (take_all 64 vs (omega (arith, n))) in
          let r : every (λ i. cond (has mask i) (by_solid i) (by_plus i)) (below (λ i. true) 64) ≡ values_keep mask meta vs = dense_rule mask meta vs same (kind_in meta) refl k in
          record {
            most = omega (arith, c, counts_le (has mask) by_solid by_plus apart (sym a));
            counted = λ e. sym c ∙ says_counts (has mask) by_solid by_plus apart (sym a) (r ∙ e);
            kept = λ e. sym r ∙ counts_say (has mask) by_solid by_plus apart (sym a) (c ∙ e);
          }
      go false d a =
          let k : kind_in meta ≡ 2 → ⊥ = eqb-false (kind_in meta) 2 d in
          let r : every solid vs ≡ values_keep mask meta vs = compact_rule mask meta vs same (kind_in meta) refl k in
          let n : length vs ≡ count (has mask) 64 = same ∙ ap length (compact_places (kind_in meta) mask k) ∙ members-count mask in
          record {
            most = omega (arith, n, length-only solid vs);
            counted = λ e. all_pass solid vs (r ∙ e) ∙ n;
            kept = λ e. sym r ∙ pass_all solid vs (e ∙ sym n);
          }

  keeps_absent : values_keep mask meta vs ≡ true → absent_in mask meta vs ≡ true
  keeps_absent e = go (is_dense meta) refl
    where
      go : (t : Bool) → is_dense meta ≡ t → cond t (absent_keep mask vs) true ≡ true
      go true d = of_absent (has mask) by_solid by_plus (dense_rule mask meta vs same (kind_in meta) refl (eqb-true (kind_in meta) 2 d) ∙ e)
      go false d = refl

-- ---- values that are neither NaN nor zero, counted part after part

-- n of them before place a, and those of the last part
pub solids_rest : (vals : List Float) (a n m : ℕ) → length (only solid vals) ≡ n + length (only solid (drop a vals)) → m ≡ length (only solid (take (length vals - a) (drop a vals))) → n + m ≡ length (only solid vals)
solids_rest vals a n m e f = sym (e ∙ ap (λ (k : ℕ). n + k) (sym (f ∙ ap (λ (t : List Float). length (only solid t)) (drop-rest a vals))))

-- ---- all tiles

abbrev pub values_of : List Float → Listed → Bool
values_of vals e = every (value_rule e.0) (stored (tile_at vals e))

abbrev pub absent_of : List Float → Listed → Bool
absent_of vals e = absent_in e.0 e.1.1 (slice e.1.0 (e.1.0 + slot_count e) vals)

module _ (vals : List Float) where
  -- a tile whose values start at place k, and the tiles after it
  module _ (k m o x : ℕ) (l : List Listed) (g : (eqb o k && gapless (k + length (places m x)) (length vals) l) ≡ true) where
    abbrev its : List Float
    its = slice o (o + length (places m x)) vals

    at : o ≡ k
    at = eqb-true o k (and_left (eqb o k) (gapless (k + length (places m x)) (length vals) l) g)

    after : gapless (k + length (places m x)) (length vals) l ≡ true
    after = and_right (eqb o k) (gapless (k + length (places m x)) (length vals) l) g

    sized : length its ≡ length (places m x)
    sized = length-slice o (o + length (places m x)) vals (omega (arith, at, gapless-le (k + length (places m x)) (length vals) l after)) ∙ omega arith

    solids : length (only solid (drop k vals)) ≡ length (only solid its) + length (only solid (drop (k + length (places m x)) vals))
    solids =
        let n : ℕ = length (places m x) in
        let front : take (k + n - k) (drop k vals) ≡ its = slice_lent k (k + n) vals ∙ ap (λ (j : ℕ). slice j (j + n) vals) (sym at) in
        part_apart vals solid k (k + n) (omega arith) ∙ ap (λ (t : List Float). length (only solid t) + length (only solid (drop (k + n) vals))) front

  all_counts : (k : ℕ) (ms os ks : List ℕ) → length os ≡ length ms → length ks ≡ length ms → gapless k (length vals) (zip ms (zip os ks)) ≡ true → every (absent_of vals) (zip ms (zip os ks)) ≡ true
      → Counts (length (only solid (drop k vals))) (set_bits ms) (every (values_of vals) (zip ms (zip os ks)))
  unfolding gapless every zip zip_with set_bits Rattle.lent.specs.Lists.spread only tile_at
  all_counts k [] os ks so sk g a =
      let over : length vals ≤ k = omega (arith, eqb-true k (length vals) g) in
      let none : drop k vals ≡ [] = drop_of_length-le vals over in
      subst (λ (t : List Float). Counts (length (only solid t)) 0 true) (sym none) (record { most = le_refl 0; counted = λ e. refl; kept = λ e. refl })
  all_counts k (m ∷ ms) [] ks so sk g a = absurd (omega arith)
  all_counts k (m ∷ ms) (o ∷ os) [] so sk g a = absurd (omega arith)
  all_counts k (m ∷ ms) (o ∷ os) (x ∷ ks) so sk g a =
      let l : List Listed = zip ms (zip os ks) in
      let one : Counts (length (only solid (its k m o x l g))) (count (has m) 64) (values_keep m x (its k m o x l g)) =
      tile_counts m x (its k m o x l g) (sized k m o x l g) (and_left (absent_in m x (its k m o x l g)) (every (absent_of vals) l) a) in
      let others : Counts (length (only solid (drop (k + length (places m x)) vals))) (set_bits ms) (every (values_of vals) l) =
      all_counts (k + length (places m x)) ms os ks (omega arith) (omega arith) (after k m o x l g) (and_right (absent_in m x (its k m o x l g)) (every (absent_of vals) l) a) in
      let bits : set_bits (m ∷ ms) ≡ count (has m) 64 + set_bits ms = bits_append (m ∷ []) ms ∙ ap (λ (n : ℕ). n + set_bits ms) (bits_one m) in
      rw (solids k m o x l g, bits)
      (joined_counts _ _ _ _ _ _ one others)

  all_absent : (k : ℕ) (ms os ks : List ℕ) → length os ≡ length ms → length ks ≡ length ms → gapless k (length vals) (zip ms (zip os ks)) ≡ true → every (values_of vals) (zip ms (zip os ks)) ≡ true
      → every (absent_of vals) (zip ms (zip os ks)) ≡ true
  unfolding gapless every zip zip_with tile_at
  all_absent k [] os ks so sk g v = refl
  all_absent k (m ∷ ms) [] ks so sk g v = absurd (omega arith)
  all_absent k (m ∷ ms) (o ∷ os) [] so sk g v = absurd (omega arith)
  all_absent k (m ∷ ms) (o ∷ os) (x ∷ ks) so sk g v =
      let l : List Listed = zip ms (zip os ks) in
      and_both (absent_in m x (its k m o x l g)) (every (absent_of vals) l)
      (keeps_absent m x (its k m o x l g) (sized k m o x l g) (and_left (values_keep m x (its k m o x l g)) (every (values_of vals) l) v))
      (all_absent (k + length (places m x)) ms os ks (omega arith) (omega arith) (after k m o x l g) (and_right (values_keep m x (its k m o x l g)) (every (values_of vals) l) v))

module _ (ms os ks : List ℕ) (vals : List Float) (so : length os ≡ length ms) (sk : length ks ≡ length ms) (g : gapless 0 (length vals) (zip ms (zip os ks)) ≡ true) where
  pub values_counted : every (absent_of vals) (zip ms (zip os ks)) ≡ true → (n t : ℕ) → n ≡ length (only solid vals) → t ≡ set_bits ms → eqb n t ≡ every (values_of vals) (zip ms (zip os ks))
  values_counted a n t en et =
      let c : Counts (length (only solid vals)) (set_bits ms) (every (values_of vals) (zip ms (zip os ks))) = all_counts vals 0 ms os ks so sk g a in
      same_test (eqb n t) (every (values_of vals) (zip ms (zip os ks)))
      (λ e. c.kept (sym en ∙ eqb-true n t e ∙ et))
      (λ e. eq-eqb n t (en ∙ c.counted e ∙ sym et))

  absent_fails : false ≡ every (absent_of vals) (zip ms (zip os ks)) → false ≡ every (values_of vals) (zip ms (zip os ks))
  absent_fails f = go (every (values_of vals) (zip ms (zip os ks))) refl
    where
      go : (t : Bool) → every (values_of vals) (zip ms (zip os ks)) ≡ t → false ≡ t
      go true e = not-both (every (absent_of vals) (zip ms (zip os ks))) (all_absent vals 0 ms os ks so sk g e) (sym f)
      go false e = refl

-- ---- the loop: the absent places of the tiles from place i on are still to be tested

pub record Tested (ms os ks : List ℕ) (vals : List Float) (i : ℕ) : Type 0 where
  pub offsets_long : length os ≡ length ms
  pub metas_long : length ks ≡ length ms
  pub whole : gapless 0 (length vals) (zip ms (zip os ks)) ≡ true
  -- where the tile at place i starts, or the end of the values
  pub start : ℕ
  pub rest : gapless start (length vals) (drop i (zip ms (zip os ks))) ≡ true
  pub is : every (absent_of vals) (zip ms (zip os ks)) ≡ every (absent_of vals) (drop i (zip ms (zip os ks)))

module _ (ms os ks : List ℕ) (vals : List Float) where
  abbrev all : List Listed
  all = zip ms (zip os ks)

  pub tested_none : length os ≡ length ms → length ks ≡ length ms → gapless 0 (length vals) (zip ms (zip os ks)) ≡ true → Tested ms os ks vals 0
  tested_none so sk g = record { offsets_long = so; metas_long = sk; whole = g; start = 0; rest = g; is = refl }

  module _ (i : ℕ) (inv : Tested ms os ks vals i) where
    module _ (h : i < length ms) where
      abbrev size : ℕ
      size = length (places (get_or ms i 0) (get_or ks i 0))

      opened : (eqb (get_or os i 0) inv.start && gapless (inv.start + size) (length vals) (drop (i + 1) all)) ≡ true
      unfolding gapless
      opened = sym (ap (gapless inv.start (length vals)) (listed ms os ks inv.offsets_long inv.metas_long i h)) ∙ inv.rest

      next_start : get_or os i 0 ≡ inv.start
      next_start = at vals inv.start (get_or ms i 0) (get_or os i 0) (get_or ks i 0) (drop (i + 1) all) opened

      left : gapless (inv.start + size) (length vals) (drop (i + 1) all) ≡ true
      left = after vals inv.start (get_or ms i 0) (get_or os i 0) (get_or ks i 0) (drop (i + 1) all) opened

      ends : inv.start + size ≤ length vals
      ends = gapless-le (inv.start + size) (length vals) (drop (i + 1) all) left

      abbrev absent_here : Bool
      absent_here = absent_in (get_or ms i 0) (get_or ks i 0) (slice (get_or os i 0) (get_or os i 0 + size) vals)

      step : every (absent_of vals) all ≡ (absent_here && every (absent_of vals) (drop (i + 1) all))
      unfolding every
      step = inv.is ∙ ap (every (absent_of vals)) (listed ms os ks inv.offsets_long inv.metas_long i h)

      more : absent_here ≡ true → Tested ms os ks vals (i + 1)
      more e = record {
        offsets_long = inv.offsets_long;
        metas_long = inv.metas_long;
        whole = inv.whole;
        start = inv.start + size;
        rest = left;
        is = step ∙ ap (λ (t : Bool). t && every (absent_of vals) (drop (i + 1) all)) e;
      }

      -- w: its absent places; there is none
      pub tested_full : (w : ℕ) → w ≡ word_is (get_or ms i 0) (get_or ks i 0) → w ≡ 0 → Tested ms os ks vals (i + 1)
      tested_full w e z = more (word_none (get_or ms i 0) (get_or ks i 0) w e z (slice (get_or os i 0) (get_or os i 0 + size) vals))

      -- a Sparse or Bitmap tile has none
      pub tested_compact : (k : ℕ) → k ≡ kind_in (get_or ks i 0) → (k ≡ 2 → ⊥) → Tested ms os ks vals (i + 1)
      tested_compact k e d = tested_full 0 (word_other (get_or ms i 0) (get_or ks i 0) k e d) refl

      -- a tile that has absent places, and whose values start at place `from`
      module _ (w : ℕ) (e : w ≡ word_is (get_or ms i 0) (get_or ks i 0)) (d : w ≡ 0 → ⊥) (from : ℕ) (ea : from ≡ get_or os i 0) where
        dense : kind_in (get_or ks i 0) ≡ 2
        dense = word_dense_only (get_or ms i 0) (get_or ks i 0) w e d

        long : 64 ≡ size
        long = dense_count (kind_in (get_or ks i 0)) (get_or ms i 0) (get_or ks i 0) refl dense

        pub dense_inside : from + 64 ≤ length vals
        dense_inside = omega (arith, ea, next_start, long, ends)

        pub dense_lent : length (take (from + 64 - from) (drop from vals)) ≡ 64
        dense_lent = length-take-le (from + 64 - from) (drop from vals) (omega (arith, length-drop from vals, dense_inside)) ∙ omega arith

        here : every (λ j. plus_zero (get_or (take (from + 64 - from) (drop from vals)) j nan)) (members w) ≡ absent_here
        here =
            word_tested (get_or ms i 0) (get_or ks i 0) w e d (take (from + 64 - from) (drop from vals))
            ∙ ap (absent_keep (get_or ms i 0)) (slice_lent from (from + 64) vals ∙ ap₂ (λ (a n : ℕ). slice a (a + n) vals) ea long)
            ∙ ap (λ (t : Bool). cond t (absent_keep (get_or ms i 0) (slice (get_or os i 0) (get_or os i 0 + size) vals)) true) (sym (eq-eqb (kind_in (get_or ks i 0)) 2 dense))

        pub dense_fails : false ≡ every (λ j. plus_zero (get_or (take (from + 64 - from) (drop from vals)) j nan)) (members w) → false ≡ every (values_of vals) (zip ms (zip os ks))
        dense_fails f =
            absent_fails ms os ks vals inv.offsets_long inv.metas_long inv.whole
            (and_first absent_here (every (absent_of vals) (drop (i + 1) all)) (f ∙ here) ∙ sym step)

        pub tested_dense : true ≡ every (λ j. plus_zero (get_or (take (from + 64 - from) (drop from vals)) j nan)) (members w) → Tested ms os ks vals (i + 1)
        tested_dense t = more (sym (t ∙ here))

    pub tested_done : length ms ≤ i → (n t : ℕ) → n ≡ length (only solid vals) → t ≡ set_bits ms → eqb n t ≡ every (values_of vals) (zip ms (zip os ks))
    unfolding every
    tested_done h =
        values_counted ms os ks vals inv.offsets_long inv.metas_long inv.whole
        (inv.is ∙ ap (every (absent_of vals)) (none-listed ms os ks inv.offsets_long inv.metas_long i h))

-- ---- the three tests are the rules of the values

every-both : {A : Type 0} (p q : A → Bool) (l : List A) → every (λ a. p a && q a) l ≡ (every p l && every q l)
unfolding every
every-both p q [] = refl
every-both p q (a ∷ l) = ap (λ (t : Bool). (p a && q a) && t) (every-both p q l) ∙ four (p a) (q a) (every p l) (every q l)
  where
    four : (a b c d : Bool) → ((a && b) && (c && d)) ≡ ((a && c) && (b && d))
    four true true c d = refl
    four true false c d = sym (and-false c)
    four false b c d = refl

-- a test of the metas, as the tiles have it
every_meta : (p : ℕ → Bool) (ms os ks : List ℕ) → length os ≡ length ms → length ks ≡ length ms → every (λ (e : Listed). p e.1.1) (zip ms (zip os ks)) ≡ every p ks
unfolding every zip zip_with
every_meta p [] os [] so sk = refl
every_meta p [] os (k ∷ ks) so sk = absurd (omega arith)
every_meta p (m ∷ ms) [] ks so sk = absurd (omega arith)
every_meta p (m ∷ ms) (o ∷ os) [] so sk = absurd (omega arith)
every_meta p (m ∷ ms) (o ∷ os) (k ∷ ks) so sk = ap (λ (t : Bool). p k && t) (every_meta p ms os ks (omega arith) (omega arith))

abbrev pub kind_holds : ℕ → Bool
kind_holds m = leb (kind_in m) 2

module _ (ms os ks : List ℕ) (so : length os ≡ length ms) (sk : length ks ≡ length ms) (vals : List Float) where
  rules_apart : slot_rules vals (zip ms (zip os ks)) ≡ (gapless 0 (length vals) (zip ms (zip os ks)) && (every kind_holds ks && every (values_of vals) (zip ms (zip os ks))))
  unfolding slot_rules tile_rule tile_at
  rules_apart =
      ap (λ (t : Bool). gapless 0 (length vals) (zip ms (zip os ks)) && t)
      (every-both (λ (e : Listed). kind_holds e.1.1) (values_of vals) (zip ms (zip os ks))
      ∙ ap (λ (t : Bool). t && every (values_of vals) (zip ms (zip os ks))) (every_meta kind_holds ms os ks so sk))

  pub slots_apart : false ≡ gapless 0 (length vals) (zip ms (zip os ks)) → false ≡ slot_rules vals (zip ms (zip os ks))
  slots_apart f = and_first (gapless 0 (length vals) (zip ms (zip os ks))) (every kind_holds ks && every (values_of vals) (zip ms (zip os ks))) f ∙ sym rules_apart

  module _ (g : true ≡ gapless 0 (length vals) (zip ms (zip os ks))) where
    pub slots_kind : false ≡ every kind_holds ks → false ≡ slot_rules vals (zip ms (zip os ks))
    slots_kind f = sym (rules_apart ∙ ap₂ (λ (s t : Bool). s && (t && every (values_of vals) (zip ms (zip os ks)))) (sym g) (sym f))

    pub slots_values : true ≡ every kind_holds ks → (r : Bool) → r ≡ every (values_of vals) (zip ms (zip os ks)) → r ≡ slot_rules vals (zip ms (zip os ks))
    slots_values k r e = e ∙ sym (rules_apart ∙ ap₂ (λ (s t : Bool). s && (t && every (values_of vals) (zip ms (zip os ks)))) (sym g) (sym k))
