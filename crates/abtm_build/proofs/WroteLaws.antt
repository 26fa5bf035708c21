-- Tiles written one after another, and the tiles of some words of a row. Assumes nothing.
use mathlib.Core.Bool.{Bool, true, false, not, cond, ◌&&◌}
use mathlib.Core.List.{List, [], ◌∷◌, ◌++◌, map, map-append}
use mathlib.Core.Path.{◌≡◌, refl, sym, ap, ◌∙◌, subst}
use Prim.Native.Nat.{ℕ, ◌+◌, ◌*◌, ◌/◌, ◌^◌, ◌≤◌, ◌<◌}
use native.Mathlib.Nat.{add-zero}
use native.Mathlib.Omega.{arith}
use lib.Dec.{eqb, ltb, leb}
use borrow.Author.Tests.{ltb-true, ltb-false, leb-true, leb-false}
use lib.ListN.{length, length-append}
use lib.Ieee.{Float}
use Rattle.hybit_core.specs.Floats.{zero64}
use Rattle.lent.specs.Lists.{spread}
use Rattle.lent.specs.Lent.{Appended}
use Rattle.lent.proofs.ListLaws.{spread-append}
use Rattle.lent.proofs.LentLaws.{appended_none, appended_join}
use Rattle.word.specs.Bits.{has, from, below, between, number, within, mask_of, hit, words_of, ceil64}
use Rattle.word.proofs.BelowLaws.{below-between, below_cong, below_trim, between_split, between_none, between_cong, map-between, map_below}
use Rattle.word.proofs.OpLaws.{word_cong}
use Rattle.topology.specs.Words.{set_bits}
use Rattle.topology.proofs.ScanLaws.{bits_append}
use Rattle.abtm.specs.declared.AbtmConfig.{AbtmConfig}
use Rattle.abtm_values.specs.Values.{is_zero}
use Rattle.abtm.specs.Tiles.{Tile, meta_of, tile_of, row_tiles_of, laid, masks_of, metas_of, offsets_of, slots_of}
use Rattle.abtm.proofs.PlaceLaws.{map-places}
use Rattle.abtm_values.proofs.ZeroLaws.{zero_is_zero}
use Rattle.abtm_build.specs.declared.TilesSize.{TilesSize}
use Rattle.abtm_build.specs.Window.{mask_at, hit_at, tiles_between}
use Rattle.abtm_build.specs.Written.{Laid, Wrote}

-- ---- lists of tiles one after another

pub slots_append : (ts us : List Tile) → length (slots_of (ts ++ us)) ≡ length (slots_of ts) + length (slots_of us)
slots_append ts us = ap length (spread-append (λ (e : Tile). e.slots) ts us) ∙ length-append (slots_of ts) (slots_of us)

pub masks_append : (ts us : List Tile) → set_bits (masks_of (ts ++ us)) ≡ set_bits (masks_of ts) + set_bits (masks_of us)
masks_append ts us = ap set_bits (map-append (λ (e : Tile). e.mask) ts us) ∙ bits_append (masks_of ts) (masks_of us)

pub offsets_append : (k : ℕ) (ts us : List Tile) → offsets_of k (ts ++ us) ≡ offsets_of k ts ++ offsets_of (k + length (slots_of ts)) us
unfolding laid spread
offsets_append k [] us = ap (λ (n : ℕ). offsets_of n us) (sym (add-zero k))
offsets_append k (e ∷ ts) us =
    let n : ℕ = length e.slots in
    let s : (k + n) + length (slots_of ts) ≡ k + length (e.slots ++ slots_of ts) = omega (arith, length-append e.slots (slots_of ts)) in
    ap (λ (l : List ℕ). k ∷ l) (offsets_append (k + n) ts us ∙ ap (λ (m : ℕ). offsets_of (k + n) ts ++ offsets_of m us) s)

-- ---- `Wrote`

pub wrote_none : (at : TilesSize) (ms os ks : List ℕ) (vs : List Float) → Wrote [] at at ms ms os os ks ks vs vs
unfolding set_bits spread laid
wrote_none at ms os ks vs = record {
  tiles_are = sym (add-zero at.tiles);
  slots_are = sym (add-zero at.value_slots);
  nnz_are = sym (add-zero at.matrix_nnz);
  fits = λ l m. record {
    masks_are = appended_none at.tiles ms;
    offsets_are = appended_none at.tiles os;
    metas_are = appended_none at.tiles ks;
    vals_are = appended_none at.value_slots vs;
  };
}

module _ (ts us : List Tile) (from mid to : TilesSize) (ms₀ ms₁ ms₂ os₀ os₁ os₂ ks₀ ks₁ ks₂ : List ℕ) (vs₀ vs₁ vs₂ : List Float) where
  laid_join : mid.value_slots ≡ from.value_slots + length (slots_of ts) → Laid ts from mid ms₀ ms₁ os₀ os₁ ks₀ ks₁ vs₀ vs₁ → Laid us mid to ms₁ ms₂ os₁ os₂ ks₁ ks₂ vs₁ vs₂ → Laid (ts ++ us) from to ms₀ ms₂ os₀ os₂ ks₀ ks₂ vs₀ vs₂
  laid_join e a b = record {
    masks_are =
        subst (λ (l : List ℕ). Appended l from.tiles to.tiles ms₀ ms₂) (sym (map-append (λ (e : Tile). e.mask) ts us))
        (appended_join (masks_of ts) (masks_of us) from.tiles mid.tiles to.tiles ms₀ ms₁ ms₂ a.masks_are b.masks_are);
    offsets_are =
        subst (λ (l : List ℕ). Appended l from.tiles to.tiles os₀ os₂) (ap (λ (n : ℕ). offsets_of from.value_slots ts ++ offsets_of n us) e ∙ sym (offsets_append from.value_slots ts us))
        (appended_join (offsets_of from.value_slots ts) (offsets_of mid.value_slots us) from.tiles mid.tiles to.tiles os₀ os₁ os₂ a.offsets_are b.offsets_are);
    metas_are =
        subst (λ (l : List ℕ). Appended l from.tiles to.tiles ks₀ ks₂) (sym (map-append (λ (e : Tile). e.meta) ts us))
        (appended_join (metas_of ts) (metas_of us) from.tiles mid.tiles to.tiles ks₀ ks₁ ks₂ a.metas_are b.metas_are);
    vals_are =
        subst (λ (l : List Float). Appended l from.value_slots to.value_slots vs₀ vs₂) (sym (spread-append (λ (e : Tile). e.slots) ts us))
        (appended_join (slots_of ts) (slots_of us) from.value_slots mid.value_slots to.value_slots vs₀ vs₁ vs₂ a.vals_are b.vals_are);
  }

  -- tiles, and more after them
  pub wrote_join : length ms₁ ≡ length ms₀ → length vs₁ ≡ length vs₀ → Wrote ts from mid ms₀ ms₁ os₀ os₁ ks₀ ks₁ vs₀ vs₁ → Wrote us mid to ms₁ ms₂ os₁ os₂ ks₁ ks₂ vs₁ vs₂ → Wrote (ts ++ us) from to ms₀ ms₂ os₀ os₂ ks₀ ks₂ vs₀ vs₂
  wrote_join m v a b =
      let t : length (ts ++ us) ≡ length ts + length us = length-append ts us in
      let at = a.tiles_are in
      let bt = b.tiles_are in
      let as' = a.slots_are in
      let bs = b.slots_are in
      record {
        tiles_are = omega (arith, t, at, bt);
        slots_are = omega (arith, slots_append ts us, as', bs);
        nnz_are = omega (arith, masks_append ts us, a.nnz_are, b.nnz_are);
        fits = λ l k. laid_join as' (a.fits (omega (arith, at, bt, l)) (omega (arith, as', bs, k))) (b.fits (omega (arith, m, l)) (omega (arith, v, k)));
      }

pub wrote_as : (ts us : List Tile) (from to : TilesSize) (ms₀ ms₁ os₀ os₁ ks₀ ks₁ : List ℕ) (vs₀ vs₁ : List Float) → ts ≡ us → Wrote ts from to ms₀ ms₁ os₀ os₁ ks₀ ks₁ vs₀ vs₁ → Wrote us from to ms₀ ms₁ os₀ os₁ ks₀ ks₁ vs₀ vs₁
wrote_as ts us from to ms₀ ms₁ os₀ os₁ ks₀ ks₁ vs₀ vs₁ e w = subst (λ (l : List Tile). Wrote l from to ms₀ ms₁ os₀ os₁ ks₀ ks₁ vs₀ vs₁) e w

-- ---- the tiles of some words

module _ (h : AbtmConfig) (v : ℕ → Float) where
  pub tiles_split : (a m b : ℕ) → a ≤ m → m ≤ b → tiles_between h v a b ≡ tiles_between h v a m ++ tiles_between h v m b
  unfolding tiles_between
  tiles_split a m b l k = ap (map (λ w. tile_of h v (mask_at v w) w)) (between_split (hit_at v) a m b l k) ∙ map-append (λ w. tile_of h v (mask_at v w) w) (between (hit_at v) a m) (between (hit_at v) m b)

  -- a word of zeros has no tile
  pub not-hit : (w : ℕ) → ((i : ℕ) → i < 64 → v (64 * w + i) ≡ zero64) → hit_at v w ≡ false
  unfolding mask_at number
  not-hit w z = ap (λ (m : ℕ). not (eqb m 0)) (word_cong (λ i. not (is_zero (v (64 * w + i)))) (λ i. false) (λ i l. ap (λ (x : Float). not (is_zero x)) (z i l) ∙ ap not zero_is_zero))

  pub tiles_skip : (a b : ℕ) → ((c : ℕ) → 64 * a ≤ c → c < 64 * b → v c ≡ zero64) → tiles_between h v a b ≡ []
  unfolding tiles_between
  tiles_skip a b z = ap (map (λ w. tile_of h v (mask_at v w) w)) (between_none (hit_at v) a b (λ w l u. not-hit w (λ i k. z (64 * w + i) (omega arith) (omega arith))))

  -- the tiles of all words of the frame
  module _ (cols : ℕ) (outside : (c : ℕ) → cols ≤ c → v c ≡ zero64) where
    mask_same : (w : ℕ) → mask_at v w ≡ mask_of (λ c. not (is_zero (v c))) cols w
    unfolding mask_at mask_of
    mask_same w = word_cong (λ i. not (is_zero (v (64 * w + i)))) (λ i. within cols (λ c. not (is_zero (v c))) (64 * w + i)) (λ i l. here (64 * w + i)) where
      here : (c : ℕ) → not (is_zero (v c)) ≡ within cols (λ c. not (is_zero (v c))) c
      here c = go (ltb c cols) refl where
        go : (t : Bool) → ltb c cols ≡ t → not (is_zero (v c)) ≡ within cols (λ c. not (is_zero (v c))) c
        go true e = sym (ap (λ (b : Bool). b && not (is_zero (v c))) e)
        go false e = ap (λ (x : Float). not (is_zero x)) (outside c (ltb-false c cols e)) ∙ ap not zero_is_zero ∙ sym (ap (λ (b : Bool). b && not (is_zero (v c))) e)

    same_words : (b : ℕ) → ((c : ℕ) → 64 * b ≤ c → c < cols → v c ≡ zero64) → below (hit_at v) b ≡ below (hit_at v) (ceil64 cols)
    same_words b past = go (leb b (ceil64 cols)) refl where
      zeros : (c : ℕ) → 64 * b ≤ c → v c ≡ zero64
      zeros c l = pick (ltb c cols) refl where
        pick : (t : Bool) → ltb c cols ≡ t → v c ≡ zero64
        pick true e = past c l (ltb-true c cols e)
        pick false e = outside c (ltb-false c cols e)

      go : (t : Bool) → leb b (ceil64 cols) ≡ t → below (hit_at v) b ≡ below (hit_at v) (ceil64 cols)
      go true e = sym (below_trim (hit_at v) b (ceil64 cols) (leb-true b (ceil64 cols) e) (λ w l u. not-hit w (λ i k. zeros (64 * w + i) (omega arith))))
      go false e = let o : ceil64 cols ≤ b = (let k : ceil64 cols < b = leb-false b (ceil64 cols) e in omega arith) in below_trim (hit_at v) (ceil64 cols) b o (λ w l u. not-hit w (λ i k. outside (64 * w + i) (omega arith)))

    pub tiles_row : (b : ℕ) → ((c : ℕ) → 64 * b ≤ c → c < cols → v c ≡ zero64) → tiles_between h v 0 b ≡ row_tiles_of h cols (λ c. not (is_zero (v c))) v
    unfolding tiles_between row_tiles_of words_of
    tiles_row b past =
        ap (map (λ w. tile_of h v (mask_at v w) w))
        (sym (below-between (hit_at v) b) ∙ same_words b past ∙ below_cong (hit_at v) (hit (λ c. not (is_zero (v c))) cols) (ceil64 cols) (λ w l. ap (λ (m : ℕ). not (eqb m 0)) (mask_same w)))
        ∙ map_below (λ w. tile_of h v (mask_at v w) w) (λ w. tile_of h v (mask_of (λ c. not (is_zero (v c))) cols w) w) (hit (λ c. not (is_zero (v c))) cols) (ceil64 cols) (λ w l k. ap (λ (m : ℕ). tile_of h v m w) (mask_same w))

-- equal values give equal tiles
module _ (h : AbtmConfig) (v u : ℕ → Float) where
  mask_cong : (w : ℕ) → ((i : ℕ) → i < 64 → v (64 * w + i) ≡ u (64 * w + i)) → mask_at v w ≡ mask_at u w
  unfolding mask_at
  mask_cong w e = word_cong (λ i. not (is_zero (v (64 * w + i)))) (λ i. not (is_zero (u (64 * w + i)))) (λ i l. ap (λ (x : Float). not (is_zero x)) (e i l))

  tile_cong : (w : ℕ) → ((i : ℕ) → i < 64 → v (64 * w + i) ≡ u (64 * w + i)) → tile_of h v (mask_at v w) w ≡ tile_of h u (mask_at u w) w
  unfolding tile_of
  tile_cong w e =
      ap (λ (m : ℕ). tile_of h v m w) (mask_cong w e)
      ∙ (let m : ℕ = mask_at u w in
      ap (λ (l : List Float). record { mask = m; meta = meta_of h m w; slots = l })
      (map-places (λ i. cond (has m i) (v (64 * w + i)) zero64) (λ i. cond (has m i) (u (64 * w + i)) zero64) (meta_of h m w / 2 ^ 30) m (λ i l. ap (λ (x : Float). cond (has m i) x zero64) (e i l))))

  pub tiles_cong : (a b : ℕ) → a ≤ b → ((c : ℕ) → 64 * a ≤ c → c < 64 * b → v c ≡ u c) → tiles_between h v a b ≡ tiles_between h u a b
  unfolding tiles_between
  tiles_cong a b o e =
      let word : (w : ℕ) → a ≤ w → w < b → (i : ℕ) → i < 64 → v (64 * w + i) ≡ u (64 * w + i) = λ w l k i j. e (64 * w + i) (omega arith) (omega arith) in
      map-between (λ w. tile_of h v (mask_at v w) w) (λ w. tile_of h u (mask_at u w) w) (hit_at v) a b o (λ w l k. tile_cong w (word w l k))
      ∙ ap (map (λ w. tile_of h u (mask_at u w) w)) (between_cong (hit_at v) (hit_at u) a b (λ w l k. ap (λ (m : ℕ). not (eqb m 0)) (mask_cong w (word w l k))))
