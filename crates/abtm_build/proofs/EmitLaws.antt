-- Laws of the tiles of a word, a block and a window. Assumes nothing.
use mathlib.Core.Bool.{Bool, false, not, cond}
use mathlib.Core.List.{List, [], ◌∷◌, ◌++◌, map, append-nil}
use mathlib.Core.Path.{◌≡◌, refl, sym, ap, ap₂, subst, ◌∙◌}
use Prim.Native.Nat.{ℕ, suc, ◌+◌, ◌-◌, ◌*◌, ◌/◌, ◌%◌, ◌^◌, ◌≤◌, ◌<◌}
use native.Mathlib.Omega.{arith}
use lib.Dec.{eqb}
use lib.ListN.{length, get_or, take, drop, set, length-map, length-drop}
use lib.Seq.{length-take-le, get_or-take, get_or-drop}
use lib.Ieee.{Float, nan}
use borrow.Author.Tests.{ne_eqb}
use Rattle.hybit_core.specs.Floats.{zero64}
use Rattle.lent.specs.Lists.{cons_if, spread}
use Rattle.lent.specs.Lent.{Appended}
use Rattle.lent.proofs.LentLaws.{appended_none, appended_snoc}
use Rattle.word.specs.Bits.{has, below, between, count, word_of}
use Rattle.word.proofs.BelowLaws.{length-below-le, between_none, between_cons, between_block}
use Rattle.word.proofs.OpLaws.{word_cong}
use Rattle.topology.proofs.ScanLaws.{bits_one}
use Rattle.topology.proofs.CallLaws.{bits_le}
use Rattle.abtm.specs.declared.AbtmConfig.{AbtmConfig}
use Rattle.abtm_values.specs.Values.{is_zero}
use Rattle.abtm.specs.Tiles.{Tile, places_of, places, kind_of, meta_of, tile_of, laid, masks_of}
use Rattle.abtm_build.specs.declared.TilesSize.{TilesSize}
use Rattle.abtm_build.specs.Window.{mask_at, hit_at, tiles_between, window_value, Marked}
use Rattle.abtm_build.specs.Written.{Laid, Wrote, Bounded, Lists}
use Rattle.abtm_build.proofs.RowsLaws.{slots_few}
use Rattle.abtm_build.proofs.WroteLaws.{wrote_none, wrote_join, wrote_as, tiles_split, tiles_skip, tiles_cong}

-- ---- one tile

appended_one : {A : Type 0} (from to : ℕ) (old : List A) (v w : A) → v ≡ w → to ≡ from + 1 → from < length old → Appended (w ∷ []) from to old (set old from v)
appended_one {A} from to old v w e t h =
    subst (λ (n : ℕ). Appended (w ∷ []) from n old (set old from v)) (sym t)
    (subst (λ (x : A). Appended (x ∷ []) from (from + 1) old (set old from v)) e (appended_snoc [] from from old old v (appended_none from old) h))

module _ (e : Tile) (at next : TilesSize) where
  -- the counts after one tile
  pub record Counted : Type 0 where
    pub tiles_next : next.tiles ≡ at.tiles + 1
    pub slots_next : next.value_slots ≡ at.value_slots + length e.slots
    pub nnz_next : next.matrix_nnz ≡ at.matrix_nnz + count (has e.mask) 64

  wrote_one : (ms₀ ms os₀ os ks₀ ks : List ℕ) (vs₀ vs : List Float) → Counted
      → (next.tiles ≤ length ms₀ → next.value_slots ≤ length vs₀ → Laid (e ∷ []) at next ms₀ ms os₀ os ks₀ ks vs₀ vs) → Wrote (e ∷ []) at next ms₀ ms os₀ os ks₀ ks vs₀ vs
  unfolding spread
  wrote_one ms₀ ms os₀ os ks₀ ks vs₀ vs c f = record {
    tiles_are = c.tiles_next;
    slots_are = c.slots_next ∙ ap (λ (l : List Float). at.value_slots + length l) (sym (append-nil e.slots));
    nnz_are = c.nnz_next ∙ ap (λ (n : ℕ). at.matrix_nnz + n) (sym (bits_one e.mask));
    fits = f;
  }

  laid_one : (ms os ks : List ℕ) (vs out : List Float) (mask offset meta : ℕ) → Counted → mask ≡ e.mask → offset ≡ at.value_slots → meta ≡ e.meta
      → at.tiles < length ms → at.tiles < length os → at.tiles < length ks → Appended e.slots at.value_slots next.value_slots vs out
      → Laid (e ∷ []) at next ms (set ms at.tiles mask) os (set os at.tiles offset) ks (set ks at.tiles meta) vs out
  unfolding spread laid
  laid_one ms os ks vs out mask offset meta c a b d k l m w = record {
    masks_are = appended_one at.tiles next.tiles ms mask e.mask a c.tiles_next k;
    offsets_are = appended_one at.tiles next.tiles os offset at.value_slots b c.tiles_next l;
    metas_are = appended_one at.tiles next.tiles ks meta e.meta d c.tiles_next m;
    vals_are = subst (λ (new : List Float). Appended new at.value_slots next.value_slots vs out) (sym (append-nil e.slots)) w;
  }

-- ---- the tile of word n, whose mask is that of its 64 sums

module _ (h : AbtmConfig) (n : ℕ) (sums : List Float) (mask : ℕ) where
  abbrev tile_here : Tile
  tile_here = record {
    mask = mask;
    meta = meta_of h mask n;
    slots = map (λ i. cond (has mask i) (get_or sums i nan) zero64) (places_of (kind_of h (count (has mask) 64)) mask);
  }

  value-here : (i : ℕ) → window_value (64 * n) sums (64 * n + i) ≡ get_or sums i nan
  value-here i = let e : 64 * n + i - 64 * n ≡ i = omega arith in ap (λ (k : ℕ). get_or sums k nan) e

  kind_here : n < 2 ^ 30 → meta_of h mask n / 2 ^ 30 ≡ kind_of h (count (has mask) 64)
  unfolding meta_of
  kind_here small = omega arith

  module _ (m : mask ≡ word_of (λ i. not (is_zero (get_or sums i nan)))) where
    mask-here : mask_at (window_value (64 * n) sums) n ≡ mask
    unfolding mask_at
    mask-here = word_cong (λ i. not (is_zero (window_value (64 * n) sums (64 * n + i)))) (λ i. not (is_zero (get_or sums i nan))) (λ i l. ap (λ (x : Float). not (is_zero x)) (value-here i)) ∙ sym m

    no_tile : mask ≡ 0 → tiles_between h (window_value (64 * n) sums) n (n + 1) ≡ []
    unfolding tiles_between
    no_tile z =
        ap (map (λ w. tile_of h (window_value (64 * n) sums) (mask_at (window_value (64 * n) sums) w) w))
        (between_none (hit_at (window_value (64 * n) sums)) n (n + 1) (λ w l u. none w (omega arith)))
      where
        none : (w : ℕ) → w ≡ n → hit_at (window_value (64 * n) sums) w ≡ false
        none w e = ap (hit_at (window_value (64 * n) sums)) e ∙ ap (λ (k : ℕ). not (eqb k 0)) (mask-here ∙ z)

    one-tile : (mask ≡ 0 → ⊥) → n < 2 ^ 30 → tiles_between h (window_value (64 * n) sums) n (n + 1) ≡ tile_here ∷ []
    unfolding tiles_between tile_of
    one-tile some small =
        ap (map (λ w. tile_of h (window_value (64 * n) sums) (mask_at (window_value (64 * n) sums) w) w)) listed
        ∙ ap (λ (k : ℕ). tile_of h (window_value (64 * n) sums) k n ∷ []) mask-here
        ∙ ap₂ (λ (f : ℕ → Float) (k : ℕ). record { mask = mask; meta = meta_of h mask n; slots = map f (places_of k mask) } ∷ []) (λ j i. cond (has mask i) (value-here i j) zero64) (kind_here small)
      where
        listed : between (hit_at (window_value (64 * n) sums)) n (n + 1) ≡ n ∷ []
        listed =
            between_cons (hit_at (window_value (64 * n) sums)) n (n + 1) (omega arith)
            ∙ ap₂ (λ (t : Bool) (l : List ℕ). cons_if t n l) (ap (λ (k : ℕ). not (eqb k 0)) mask-here ∙ ap not (ne_eqb mask 0 some)) (between_none (hit_at (window_value (64 * n) sums)) (suc n) (n + 1) (λ w l u. absurd (omega arith)))

    pub word_none : mask ≡ 0 → (at : TilesSize) (ms os ks : List ℕ) (vs : List Float) → Wrote (tiles_between h (window_value (64 * n) sums) n (n + 1)) at at ms ms os os ks ks vs vs
    word_none z at ms os ks vs = wrote_as [] (tiles_between h (window_value (64 * n) sums) n (n + 1)) at at ms ms os os ks ks vs vs (sym (no_tile z)) (wrote_none at ms os ks vs)

    -- the counts as the code finds them
    module _ (some : mask ≡ 0 → ⊥) (small : n < 2 ^ 30) (nnz kind low slots : ℕ) (b : nnz ≡ count (has mask) 64) (k : kind ≡ kind_of h nnz) (o : low ≡ n % 2 ^ 32) (s : slots ≡ length (places mask (kind * 1073741824 + low))) (at next : TilesSize)
        (t : next.tiles ≡ at.tiles + 1) (u : next.value_slots ≡ at.value_slots + slots) (w : next.matrix_nnz ≡ at.matrix_nnz + nnz) where
      kind_is : kind ≡ kind_of h (count (has mask) 64)
      kind_is = k ∙ ap (kind_of h) b

      word_kind : (kind * 1073741824 + low) / 2 ^ 30 ≡ kind
      word_kind = omega arith

      pub word_room : (room : ℕ) → next.value_slots ≤ room → at.value_slots + length (places_of kind mask) ≤ room
      word_room room l = let q : slots ≡ length (places_of kind mask) = s ∙ ap (λ (j : ℕ). length (places_of j mask)) word_kind in omega arith

      slots_is : slots ≡ length tile_here.slots
      slots_is =
          s ∙ ap (λ (j : ℕ). length (places_of j mask)) (word_kind ∙ kind_is)
          ∙ sym (length-map (places_of (kind_of h (count (has mask) 64)) mask) (λ i. cond (has mask i) (get_or sums i nan) zero64))

      counted : Counted tile_here at next
      counted = record { tiles_next = t; slots_next = u ∙ ap (λ (j : ℕ). at.value_slots + j) slots_is; nnz_next = w ∙ ap (λ (j : ℕ). at.matrix_nnz + j) b }

      as_word : (ms₀ ms os₀ os ks₀ ks : List ℕ) (vs₀ vs : List Float) → (next.tiles ≤ length ms₀ → next.value_slots ≤ length vs₀ → Laid (tile_here ∷ []) at next ms₀ ms os₀ os ks₀ ks vs₀ vs)
          → Wrote (tiles_between h (window_value (64 * n) sums) n (n + 1)) at next ms₀ ms os₀ os ks₀ ks vs₀ vs
      as_word ms₀ ms os₀ os ks₀ ks vs₀ vs f = wrote_as (tile_here ∷ []) (tiles_between h (window_value (64 * n) sums) n (n + 1)) at next ms₀ ms os₀ os ks₀ ks vs₀ vs (sym (one-tile some small)) (wrote_one tile_here at next ms₀ ms os₀ os ks₀ ks vs₀ vs counted f)

      -- no room
      pub word_full : (ms os ks : List ℕ) (vs : List Float) → (next.tiles ≤ length ms → next.value_slots ≤ length vs → ⊥) → Wrote (tiles_between h (window_value (64 * n) sums) n (n + 1)) at next ms ms os os ks ks vs vs
      word_full ms os ks vs f = as_word ms ms os os ks ks vs vs (λ a b. absurd (f a b))

      -- written
      pub word_some : (ms os ks : List ℕ) (vs out : List Float) (offset : ℕ) → Lists (length ms) (length os) (length ks) (length vs) → next.tiles ≤ length ms → next.value_slots ≤ length vs → offset ≡ at.value_slots % 2 ^ 32
          → Appended (map (λ i. cond (has mask i) (get_or sums i nan) zero64) (places_of kind mask)) at.value_slots (at.value_slots + length (places_of kind mask)) vs out
          → Wrote (tiles_between h (window_value (64 * n) sums) n (n + 1)) at next ms (set ms at.tiles mask) os (set os at.tiles offset) ks (set ks at.tiles (kind * 1073741824 + low)) vs out
      unfolding meta_of
      word_some ms os ks vs out offset l x y f a =
          let few : length vs ≤ 2 ^ 30 = l.few_slots in
          let same-os : length os ≡ length ms = l.offsets_same in
          let same-ks : length ks ≡ length ms = l.metas_same in
          let g : offset ≡ at.value_slots = omega arith in
          let d : kind * 1073741824 + low ≡ kind_of h (count (has mask) 64) * 2 ^ 30 + n = ap (λ (j : ℕ). j * 1073741824 + low) kind_is ∙ ap (λ (j : ℕ). kind_of h (count (has mask) 64) * 2 ^ 30 + j) (omega arith) in
          let q : at.value_slots + length (places_of kind mask) ≡ next.value_slots = ap (λ (j : ℕ). at.value_slots + j) (ap (λ (j : ℕ). length (places_of j mask)) (sym word_kind) ∙ sym s) ∙ sym u in
          as_word ms (set ms at.tiles mask) os (set os at.tiles offset) ks (set ks at.tiles (kind * 1073741824 + low)) vs out
          (λ _ _. laid_one tile_here at next ms os ks vs out mask offset (kind * 1073741824 + low) counted refl g d (omega arith) (omega arith) (omega arith)
          (subst (λ (j : ℕ). Appended (map (λ i. cond (has mask i) (get_or sums i nan) zero64) (places_of j mask)) at.value_slots next.value_slots vs out) kind_is
          (subst (λ (j : ℕ). Appended (map (λ i. cond (has mask i) (get_or sums i nan) zero64) (places_of kind mask)) at.value_slots j vs out) q a)))

-- ---- the tiles of the words from a up to b are written

pub record Emitting (h : AbtmConfig) (v : ℕ → Float) (a b : ℕ) (from at : TilesSize) (ms₀ ms os₀ os ks₀ ks : List ℕ) (vs₀ vs : List Float) : Type 0 where
  pub ordered : a ≤ b
  pub wrote : Wrote (tiles_between h v a b) from at ms₀ ms os₀ os ks₀ ks vs₀ vs
  pub same_masks : length ms ≡ length ms₀
  pub same_offsets : length os ≡ length os₀
  pub same_metas : length ks ≡ length ks₀
  pub same_vals : length vs ≡ length vs₀

between_le : (p : ℕ → Bool) (a b : ℕ) → a ≤ b → length (between p a b) ≤ b - a
between_le p a b o =
    let e : a + (b - a) ≡ b = omega arith in
    let l : length (between p a b) ≡ length (below (λ i. p (a + i)) (b - a)) = ap (λ (n : ℕ). length (between p a n)) (sym e) ∙ ap length (between_block p (λ i. p (a + i)) a (b - a) (λ i l. refl)) ∙ length-map (below (λ i. p (a + i)) (b - a)) (λ (n : ℕ). a + n) in
    omega (arith, l, length-below-le (λ i. p (a + i)) (b - a))

module _ (h : AbtmConfig) (v : ℕ → Float) (a : ℕ) where
  pub emitting_none : (b : ℕ) (at : TilesSize) (ms os ks : List ℕ) (vs : List Float) → b ≡ a → Emitting h v a b at at ms ms os os ks ks vs vs
  emitting_none b at ms os ks vs e = record {
    ordered = omega arith;
    wrote = wrote_as [] (tiles_between h v a b) at at ms ms os os ks ks vs vs (sym (tiles_skip h v a b (λ c l u. absurd (omega arith)))) (wrote_none at ms os ks vs);
    same_masks = refl;
    same_offsets = refl;
    same_metas = refl;
    same_vals = refl;
  }

  module _ (m : ℕ) (from mid : TilesSize) (ms₀ ms₁ os₀ os₁ ks₀ ks₁ : List ℕ) (vs₀ vs₁ : List Float) (inv : Emitting h v a m from mid ms₀ ms₁ os₀ os₁ ks₀ ks₁ vs₀ vs₁) where
    pub emitting_done : (b : ℕ) → m ≡ b → Wrote (tiles_between h v a b) from mid ms₀ ms₁ os₀ os₁ ks₀ ks₁ vs₀ vs₁
    emitting_done b e = wrote_as (tiles_between h v a m) (tiles_between h v a b) from mid ms₀ ms₁ os₀ os₁ ks₀ ks₁ vs₀ vs₁ (ap (tiles_between h v a) e) inv.wrote

    -- words of zeros
    pub emitting_skip : (b : ℕ) → m ≤ b → ((c : ℕ) → 64 * m ≤ c → c < 64 * b → v c ≡ zero64) → Emitting h v a b from mid ms₀ ms₁ os₀ os₁ ks₀ ks₁ vs₀ vs₁
    emitting_skip b o z = record {
      ordered = omega (arith, inv.ordered);
      wrote = wrote_as (tiles_between h v a m) (tiles_between h v a b) from mid ms₀ ms₁ os₀ os₁ ks₀ ks₁ vs₀ vs₁
          (sym (tiles_split h v a m b inv.ordered o ∙ ap (λ (l : List Tile). tiles_between h v a m ++ l) (tiles_skip h v m b z) ∙ append-nil (tiles_between h v a m))) inv.wrote;
      same_masks = inv.same_masks;
      same_offsets = inv.same_offsets;
      same_metas = inv.same_metas;
      same_vals = inv.same_vals;
    }

    -- the words from m up to b, which a callee wrote
    pub emitting_more : (u : ℕ → Float) (k n b : ℕ) (to : TilesSize) (ms₂ os₂ ks₂ : List ℕ) (vs₂ : List Float) → k ≡ m → n ≡ b → m ≤ b → ((c : ℕ) → 64 * m ≤ c → c < 64 * b → u c ≡ v c)
        → length ms₂ ≡ length ms₁ → length os₂ ≡ length os₁ → length ks₂ ≡ length ks₁ → length vs₂ ≡ length vs₁
        → Wrote (tiles_between h u k n) mid to ms₁ ms₂ os₁ os₂ ks₁ ks₂ vs₁ vs₂ → Emitting h v a b from to ms₀ ms₂ os₀ os₂ ks₀ ks₂ vs₀ vs₂
    emitting_more u k n b to ms₂ os₂ ks₂ vs₂ e f o same lm lo lk lv w = record {
      ordered = omega (arith, inv.ordered);
      wrote = wrote_as (tiles_between h v a m ++ tiles_between h v m b) (tiles_between h v a b) from to ms₀ ms₂ os₀ os₂ ks₀ ks₂ vs₀ vs₂ (sym (tiles_split h v a m b inv.ordered o))
          (wrote_join (tiles_between h v a m) (tiles_between h v m b) from mid to ms₀ ms₁ ms₂ os₀ os₁ os₂ ks₀ ks₁ ks₂ vs₀ vs₁ vs₂ inv.same_masks inv.same_vals inv.wrote
          (wrote_as (tiles_between h u k n) (tiles_between h v m b) mid to ms₁ ms₂ os₁ os₂ ks₁ ks₂ vs₁ vs₂ (ap₂ (λ (x y : ℕ). tiles_between h u x y) e f ∙ tiles_cong h u v m b o same) w));
      same_masks = lm ∙ inv.same_masks;
      same_offsets = lo ∙ inv.same_offsets;
      same_metas = lk ∙ inv.same_metas;
      same_vals = lv ∙ inv.same_vals;
    }

    -- at most one tile for each word, with at most 64 values
    pub emitting_bounded : (few more : ℕ) → Bounded few from → few + (m - a) ≤ more → Bounded more mid
    unfolding tiles_between
    emitting_bounded few more b o =
        let words : List ℕ = between (hit_at v) a m in
        let w : length words ≤ m - a = between_le (hit_at v) a m inv.ordered in
        let t : length (tiles_between h v a m) ≡ length words = length-map words (λ w. tile_of h v (mask_at v w) w) in
        record {
          tiles_in = omega (arith, w, t, inv.wrote.tiles_are, b.tiles_in);
          slots_in = omega (arith, w, slots_few h v (mask_at v) words, inv.wrote.slots_are, b.slots_in);
          nnz_in = omega (arith, w, t, bits_le (masks_of (tiles_between h v a m)), length-map (tiles_between h v a m) (λ (e : Tile). e.mask), inv.wrote.nnz_are, b.nnz_in);
        }

    pub emitting_lists : Lists (length ms₀) (length os₀) (length ks₀) (length vs₀) → Lists (length ms₁) (length os₁) (length ks₁) (length vs₁)
    emitting_lists l = record {
      offsets_same = omega (arith, l.offsets_same, inv.same_offsets, inv.same_masks);
      metas_same = omega (arith, l.metas_same, inv.same_metas, inv.same_masks);
      few_tiles = omega (arith, l.few_tiles, inv.same_masks);
      few_slots = omega (arith, l.few_slots, inv.same_vals);
    }

-- ---- the words of a window

module _ (first : ℕ) (sums : List Float) where
  -- the sums of word w, as they are lent
  pub lent_length : (w : ℕ) → 64 * w + 64 ≤ length sums → length (take (64 * w + 64 - 64 * w) (drop (64 * w) sums)) ≡ 64
  lent_length w h = let e : 64 * w + 64 - 64 * w ≡ 64 = omega arith in length-take-le (64 * w + 64 - 64 * w) (drop (64 * w) sums) (omega (arith, length-drop (64 * w) sums)) ∙ e

  pub lent_value : (w c : ℕ) → 64 * (first + w) ≤ c → c < 64 * (first + (w + 1)) → window_value (64 * (first + w)) (take (64 * w + 64 - 64 * w) (drop (64 * w) sums)) c ≡ window_value (64 * first) sums c
  lent_value w c l u =
      let e : 64 * w + (c - 64 * (first + w)) ≡ c - 64 * first = omega arith in
      get_or-take (64 * w + 64 - 64 * w) (drop (64 * w) sums) (c - 64 * (first + w)) nan (omega arith)
      ∙ get_or-drop (64 * w) sums (c - 64 * (first + w)) nan
      ∙ ap (λ (k : ℕ). get_or sums k nan) e

  -- where a mark is 0
  module _ (marks : List ℕ) where
    pub word_zeros : Marked 64 sums marks → (w c : ℕ) → 64 * w + 64 ≤ length sums → get_or marks w 0 ≡ 0 → 64 * (first + w) ≤ c → c < 64 * (first + (w + 1)) → window_value (64 * first) sums c ≡ zero64
    word_zeros m w c h z l u = let e : (c - 64 * first) / 64 ≡ w = omega arith in m.zeros (c - 64 * first) (omega arith) (ap (λ (k : ℕ). get_or marks k 0) e ∙ z)

    pub block_zeros : Marked 4096 sums marks → (b c : ℕ) → 4096 * b + 4096 ≤ length sums → get_or marks b 0 ≡ 0 → 64 * (first + 64 * b) ≤ c → c < 64 * (first + 64 * (b + 1)) → window_value (64 * first) sums c ≡ zero64
    block_zeros m b c h z l u = let e : (c - 64 * first) / 4096 ≡ b = omega arith in m.zeros (c - 64 * first) (omega arith) (ap (λ (k : ℕ). get_or marks k 0) e ∙ z)
