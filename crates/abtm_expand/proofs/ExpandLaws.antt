-- A mask with the columns of its first rows joined in: what the code holds row after row. Assumes nothing.
use mathlib.Core.Bool.{Bool, true, false, not, ◌&&◌, ◌||◌, or-false, true≢false}
use mathlib.Core.List.{List, [], ◌∷◌, zip, zip_with}
use mathlib.Core.Path.{◌≡◌, refl, sym, ap, ap₂, ◌∙◌}
use Prim.Native.Nat.{ℕ, ◌+◌, ◌*◌, ◌/◌, ◌%◌, ◌≤◌, ◌<◌, ◌^◌}
use native.Mathlib.Numerals.{add-one}
use native.Mathlib.Omega.{arith}
use lib.Dec.{eqb, leb, ltb}
use lib.ListN.{length, get_or}
use borrow.Author.Tests.{leb-true, le-leb, eqb-true, ltb-true, lt-ltb}
use Rattle.hybit_core.specs.Answer.{Answer, accepted, demand, length_is, ◌and_then◌}
use Rattle.hybit_core.specs.Domain.{few}
use Rattle.hybit_core.proofs.BoolLaws.{and_left, and_right, and_both}
use Rattle.hybit_core.proofs.AnswerLaws.{demand_accepted, then_first, then_second, length_accepted}
use Rattle.lent.specs.Lists.{each, part, every, some}
use Rattle.lent.proofs.ListLaws.{each_cong, every-part, some-every, some-none, some_snoc, some-map}
use Rattle.word.specs.Bits.{has, below, within, members, mask_of, ceil64}
use Rattle.word.proofs.BelowLaws.{below_snoc, below-zero}
use Rattle.word.proofs.BitLaws.{has-mask_of, every-below-at}
use Rattle.word.proofs.OpLaws.{word_cong}
use Rattle.mask.specs.Mask.{Mask, as_mask, active, mask_words, mask_rules}
use Rattle.mask.proofs.CallLaws.{words_cong}
use Rattle.mask.proofs.MaskLaws.{Valid, rules_valid, words_are, length-words, word_of_words}
use Rattle.topology.specs.Words.{word_rule}
use Rattle.topology.proofs.RowLaws.{small, small_is, word_inside_lem}
use Rattle.abtm.specs.Tiles.{Tiles, Listed, word_in, tile_at, row_tiles, in_tile, in_tiles, tile_sizes, tiles_rules}
use Rattle.abtm_check.proofs.TilesLaws.{AcceptedTiles, rules_facts, row_listed, metas_same, offsets_same, row_words_lem}
use Rattle.abtm_expand.specs.Expand.{reached, expanded, expand_answer}
use Rattle.abtm_expand.proofs.JoinLaws.{in_word, joined_to}

-- ---- what an accepted call says

pub record Expandable (t : Tiles) (n : ℕ) (ws : List ℕ) (room : ℕ) : Type 0 where
  pub tiles : AcceptedTiles t
  pub mask : Valid n ws
  pub square : t.rows ≡ t.cols
  pub size : n ≡ t.rows
  pub room_in : ceil64 n ≤ room

pub expand_facts : (t : Tiles) (n : ℕ) (ws : List ℕ) (room : ℕ) → expand_answer t (as_mask n ws) room ≡ accepted → Expandable t n ws room
unfolding expand_answer
expand_facts t n ws room e =
    let a1 : Answer = demand (few n && tile_sizes t) 1 in
    let a2 : Answer = demand (tiles_rules t) 12 in
    let a3 : Answer = demand (mask_rules (as_mask n ws)) 5 in
    let a4 : Answer = demand (eqb t.rows t.cols) 10 in
    let a5 : Answer = length_is t.rows n in
    let a6 : Answer = demand (leb (ceil64 n) room) 13 in
    let e2 : a2 and_then a3 and_then a4 and_then a5 and_then a6 ≡ accepted = then_second a1 (a2 and_then a3 and_then a4 and_then a5 and_then a6) e in
    let e3 : a3 and_then a4 and_then a5 and_then a6 ≡ accepted = then_second a2 (a3 and_then a4 and_then a5 and_then a6) e2 in
    let e4 : a4 and_then a5 and_then a6 ≡ accepted = then_second a3 (a4 and_then a5 and_then a6) e3 in
    let e5 : a5 and_then a6 ≡ accepted = then_second a4 (a5 and_then a6) e4 in
    let sizes : (few n && tile_sizes t) ≡ true = demand_accepted _ _ (then_first a1 (a2 and_then a3 and_then a4 and_then a5 and_then a6) e) in
    record {
      tiles = rules_facts t (and_right (few n) (tile_sizes t) sizes) (demand_accepted _ _ (then_first a2 (a3 and_then a4 and_then a5 and_then a6) e2));
      mask = rules_valid n ws (leb-true n (2 ^ 20) (and_left (few n) (tile_sizes t) sizes)) (demand_accepted _ _ (then_first a3 (a4 and_then a5 and_then a6) e3));
      square = eqb-true t.rows t.cols (demand_accepted _ _ (then_first a4 (a5 and_then a6) e4));
      size = length_accepted t.rows n (then_first a5 a6 e5);
      room_in = leb-true (ceil64 n) room (demand_accepted _ _ (then_second a5 a6 e5));
    }

-- the same call with a list of just the mask's words
pub expand_used : (t : Tiles) (n : ℕ) (ws : List ℕ) (room used : ℕ) → expand_answer t (as_mask n ws) room ≡ accepted → used ≡ length ws → expand_answer t (as_mask n ws) used ≡ accepted
unfolding expand_answer
expand_used t n ws room used e u =
    let f : Expandable t n ws room = expand_facts t n ws room e in
    let fit : leb (ceil64 n) used ≡ leb (ceil64 n) room = le-leb (ceil64 n) used (omega (arith, f.mask.counted)) ∙ sym (le-leb (ceil64 n) room f.room_in) in
    ap (λ (b : Bool). demand (few n && tile_sizes t) 1 and_then demand (tiles_rules t) 12 and_then demand (mask_rules (as_mask n ws)) 5 and_then demand (eqb t.rows t.cols) 10 and_then length_is t.rows n and_then demand b 13) fit ∙ e

-- ---- one row more

reached_more : (t : Tiles) (a : Mask) (r c : ℕ) → reached t a (r + 1) c ≡ (reached t a r c || (active a r && in_tiles t r c))
unfolding reached
reached_more t a r c =
    ap (λ (k : ℕ). some (λ r. active a r && in_tiles t r c) (below (λ r. true) k)) (add-one r)
    ∙ ap (some (λ r. active a r && in_tiles t r c)) (below_snoc (λ r. true) r)
    ∙ some_snoc (λ r. active a r && in_tiles t r c) (below (λ r. true) r) r

reached-none : (t : Tiles) (a : Mask) (c : ℕ) → reached t a 0 c ≡ false
unfolding reached
reached-none t a c = ap (some (λ r. active a r && in_tiles t r c)) (below-zero (λ r. true)) ∙ some-none (λ r. active a r && in_tiles t r c)

-- ---- a row's tiles, as its masks and metas alone have them

some-listed : (q : ℕ × ℕ → Bool) (ms os ks : List ℕ) → length os ≡ length ms → length ks ≡ length ms → some (λ (e : Listed). q (e.0, e.1.1)) (zip ms (zip os ks)) ≡ some q (zip ms ks)
unfolding some zip zip_with
some-listed q [] os ks e f = refl
some-listed q (m ∷ ms) [] ks e f = absurd (omega arith)
some-listed q (m ∷ ms) (o ∷ os) [] e f = absurd (omega arith)
some-listed q (m ∷ ms) (o ∷ os) (k ∷ ks) e f = ap (λ (t : Bool). q (m, k) || t) (some-listed q ms os ks (omega arith) (omega arith))

-- the word numbers of tiles that keep their rule lie in the frame
words_low : (cols : ℕ) (ms os ks : List ℕ) → length os ≡ length ms → length ks ≡ length ms → small ms ≡ true → every (λ (e : Listed). word_rule cols (word_in e.1.1, e.0)) (zip ms (zip os ks)) ≡ true → every (λ k. ltb (word_in k) (ceil64 cols)) ks ≡ true
unfolding every zip zip_with
words_low cols [] os [] e f s w = refl
words_low cols [] os (k ∷ ks) e f s w = absurd (omega arith)
words_low cols (m ∷ ms) [] ks e f s w = absurd (omega arith)
words_low cols (m ∷ ms) (o ∷ os) [] e f s w = absurd (omega arith)
words_low cols (m ∷ ms) (o ∷ os) (k ∷ ks) e f s w =
    let rest : Bool = every (λ (e : Listed). word_rule cols (word_in e.1.1, e.0)) (zip ms (zip os ks)) in
    and_both (ltb (word_in k) (ceil64 cols)) (every (λ k. ltb (word_in k) (ceil64 cols)) ks)
    (lt-ltb (word_in k) (ceil64 cols) (word_inside_lem cols (word_in k) m (ltb-true m (2 ^ 64) (and_left (ltb m (2 ^ 64)) (small ms) s)) (and_left (word_rule cols (word_in k, m)) rest w)))
    (words_low cols ms os ks (omega arith) (omega arith) (and_right (ltb m (2 ^ 64)) (small ms) s) (and_right (word_rule cols (word_in k, m)) rest w))

module _ (t : Tiles) (a : AcceptedTiles t) (r : ℕ) (h : r < t.rows) where
  -- a row has no column at or past the column count
  row_within : (c : ℕ) → in_tiles t r c ≡ true → ltb c t.cols ≡ true
  unfolding in_tiles row_tiles tile_at word_rule members
  row_within c s =
      let w = some-every (λ (e : Listed). eqb (word_in e.1.1) (c / 64) && has e.0 (c % 64)) (λ (e : Listed). word_rule t.cols (word_in e.1.1, e.0)) (row_listed t r) (sym (some-map (in_tile c) (tile_at t.vals) (row_listed t r)) ∙ s) (row_words_lem t a r h) in
      let e : Listed = w.0 in
      let k : word_in e.1.1 ≡ c / 64 = eqb-true (word_in e.1.1) (c / 64) (and_left (eqb (word_in e.1.1) (c / 64)) (has e.0 (c % 64)) w.1) in
      let col : 64 * word_in e.1.1 + c % 64 ≡ c = omega arith in
      ap (λ (d : ℕ). ltb d t.cols) (sym col)
      ∙ every-below-at (λ i. ltb (64 * word_in e.1.1 + i) t.cols) (has e.0) 64 (c % 64) (and_right (not (eqb e.0 0)) (every (λ i. ltb (64 * word_in e.1.1 + i) t.cols) (below (has e.0) 64)) w.2) (omega arith) (and_right (eqb (word_in e.1.1) (c / 64)) (has e.0 (c % 64)) w.1)

  -- bit i of word w is in the row's tiles
  row_bit : (w i : ℕ) → i < 64 → in_word (zip (part t.ptr t.mask r) (part t.ptr t.meta r)) w i ≡ in_tiles t r (64 * w + i)
  unfolding in_tiles row_tiles tile_at
  row_bit w i l =
      let p : (64 * w + i) / 64 ≡ w = omega arith in
      let q : (64 * w + i) % 64 ≡ i = omega arith in
      sym
      (some-map (in_tile (64 * w + i)) (tile_at t.vals) (row_listed t r)
      ∙ ap₂ (λ (v j : ℕ). some (λ (e : Listed). eqb (word_in e.1.1) v && has e.0 j) (row_listed t r)) p q
      ∙ some-listed (λ (e : ℕ × ℕ). eqb (word_in e.1) w && has e.0 i) (part t.ptr t.mask r) (part t.ptr t.offset r) (part t.ptr t.meta r) (offsets_same t a r h) (metas_same t a r h))

-- the mask with the columns of its first rows
pub record Expanding (t : Tiles) (n : ℕ) (ws : List ℕ) (next : ℕ) (out : List ℕ) : Type 0 where
  pub inside : next ≤ t.rows
  pub is : out ≡ mask_words (λ c. active (as_mask n ws) c || reached t (as_mask n ws) next c) n

-- a test and one that is in the frame, joined inside it
frame_or : (b s q u : Bool) → (u ≡ true → b ≡ true) → ((b && (s || q)) || u) ≡ (b && (s || (q || u)))
frame_or true true q u f = refl
frame_or true false q u f = refl
frame_or false s q true f = absurd (true≢false (sym (f refl)))
frame_or false s q false f = refl

module _ (t : Tiles) (n : ℕ) (ws : List ℕ) (room : ℕ) (ok : expand_answer t (as_mask n ws) room ≡ accepted) where
  facts : Expandable t n ws room
  facts = expand_facts t n ws room ok

  -- ---- a row, as its masks and metas are lent
  module _ (r : ℕ) (h : r < t.rows) (ms ks : List ℕ) (em : ms ≡ part t.ptr t.mask r) (ek : ks ≡ part t.ptr t.meta r) where
    pub metas_lent : length ks ≡ length ms
    metas_lent = ap length ek ∙ metas_same t facts.tiles r h ∙ ap length (sym em)

    module _ (out : List ℕ) (inv : Expanding t n ws r out) where
      out_long : length out ≡ ceil64 n
      out_long = ap length inv.is ∙ length-words (λ c. active (as_mask n ws) c || reached t (as_mask n ws) r c) n

      pub lent_words : ((k : ℕ) → get_or t.mask k 0 < 2 ^ 64) → every (λ m. ltb (word_in m) (length out)) ks ≡ true
      lent_words fits =
          ap₂ (λ (k : ℕ) (l : List ℕ). every (λ m. ltb (word_in m) k) l) (out_long ∙ ap ceil64 (facts.size ∙ facts.square)) ek
          ∙ words_low t.cols (part t.ptr t.mask r) (part t.ptr t.offset r) (part t.ptr t.meta r) (offsets_same t facts.tiles r h) (metas_same t facts.tiles r h)
          (every-part (λ m. ltb m (2 ^ 64)) t.ptr t.mask r (small_is t.mask fits)) (row_words_lem t facts.tiles r h)

      -- the columns of a member's row are joined in
      bit_joined : true ≡ active (as_mask n ws) r → (w i : ℕ) → w < ceil64 n → i < 64
          → (has (get_or out w 0) i || in_word (zip ms ks) w i) ≡ within n (λ c. active (as_mask n ws) c || reached t (as_mask n ws) (r + 1) c) (64 * w + i)
      bit_joined m w i l k =
          let a : Mask = as_mask n ws in
          let p : ℕ → Bool = λ c. active a c || reached t a r c in
          let c : ℕ = 64 * w + i in
          ap₂ (λ (s u : Bool). s || u)
          (ap (λ (o : List ℕ). has (get_or o w 0) i) inv.is ∙ ap (λ (v : ℕ). has v i) (word_of_words p n w l) ∙ has-mask_of p n w i k)
          (ap₂ (λ (x y : List ℕ). in_word (zip x y) w i) em ek ∙ row_bit t facts.tiles r h w i k)
          ∙ frame_or (ltb c n) (active a c) (reached t a r c) (in_tiles t r c) (λ u. ap (ltb c) (facts.size ∙ facts.square) ∙ row_within t facts.tiles r h c u)
          ∙ sym (ap (λ (u : Bool). ltb c n && (active a c || u)) (reached_more t a r c ∙ ap (λ (s : Bool). reached t a r c || (s && in_tiles t r c)) (sym m)))

      pub expanding_member : (new : List ℕ) → true ≡ active (as_mask n ws) r → new ≡ each (joined_to out (zip ms ks)) (length out) → Expanding t n ws (r + 1) new
      unfolding mask_words mask_of
      expanding_member new m e =
          let l : List (ℕ × ℕ) = zip ms ks in
          let q : ℕ → Bool = λ c. active (as_mask n ws) c || reached t (as_mask n ws) (r + 1) c in
          record {
            inside = omega arith;
            is =
                e ∙ ap (each (joined_to out l)) out_long
                ∙ each_cong (joined_to out l) (mask_of q n) (ceil64 n) (λ w k. word_cong (λ i. has (get_or out w 0) i || in_word l w i) (λ i. within n q (64 * w + i)) (λ i j. bit_joined m w i k j));
          }

  -- ---- the mask before any row, past a row that is no member, and after all rows

  pub expanding_none : (out : List ℕ) → ((k : ℕ) → get_or ws k 0 < 2 ^ 64) → out ≡ ws → Expanding t n ws 0 out
  expanding_none out fits e = record {
    inside = omega arith;
    is =
        e ∙ words_are n ws facts.mask fits
        ∙ words_cong (active (as_mask n ws)) (λ c. active (as_mask n ws) c || reached t (as_mask n ws) 0 c) n
        (λ c l. sym (ap (λ (u : Bool). active (as_mask n ws) c || u) (reached-none t (as_mask n ws) c) ∙ or-false (active (as_mask n ws) c)));
  }

  module _ (r : ℕ) (out : List ℕ) (inv : Expanding t n ws r out) where
    pub expanding_other : r < t.rows → false ≡ active (as_mask n ws) r → Expanding t n ws (r + 1) out
    expanding_other h m =
        let a : Mask = as_mask n ws in
        record {
          inside = omega arith;
          is =
              inv.is
              ∙ words_cong (λ c. active a c || reached t a r c) (λ c. active a c || reached t a (r + 1) c) n
              (λ c l. ap (λ (u : Bool). active a c || u) (sym (reached_more t a r c ∙ ap (λ (s : Bool). reached t a r c || (s && in_tiles t r c)) (sym m) ∙ or-false (reached t a r c))));
        }

    pub expanding_done : t.rows ≤ r → out ≡ mask_words (expanded t (as_mask n ws)) n
    unfolding expanded
    expanding_done h =
        let end : r ≡ t.rows = omega (arith, inv.inside) in
        inv.is ∙ ap (λ (k : ℕ). mask_words (λ c. active (as_mask n ws) c || reached t (as_mask n ws) k c) n) end
