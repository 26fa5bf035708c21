-- Accepted tiles and mask: their facts, and the three lists row after row. Assumes nothing.
use mathlib.Core.Bool.{true, ◌&&◌}
use mathlib.Core.List.{List, [], ◌∷◌, ◌++◌, map, zip, map-append}
use mathlib.Core.Path.{◌≡◌, refl, sym, ap, subst, ◌∙◌}
use Prim.Native.Nat.{ℕ, suc, ◌+◌, ◌*◌, ◌%◌, ◌≤◌, ◌<◌, ◌^◌}
use native.Mathlib.Numerals.{add-one}
use native.Mathlib.Omega.{arith}
use lib.ListN.{length, get_or, take, set, length-append, length-take, length-drop, length-set}
use lib.Ieee.{Float}
use borrow.Author.Tests.{leb-true}
use Rattle.hybit_core.specs.Answer.{Answer, accepted, demand, length_is, ◌and_then◌}
use Rattle.hybit_core.specs.Domain.{few}
use Rattle.hybit_core.proofs.BoolLaws.{and_left, and_right}
use Rattle.hybit_core.proofs.AnswerLaws.{then_first, then_second, demand_accepted, length_accepted}
use Rattle.lent.specs.Lists.{joined, each, starts, part, every}
use Rattle.lent.specs.Lent.{Appended}
use Rattle.lent.proofs.ListLaws.{length-joined-le, each-suc, joined-suc}
use Rattle.lent.proofs.LentLaws.{appended_none, appended_snoc}
use Rattle.mask.specs.Mask.{as_mask, mask_rules}
use Rattle.mask.proofs.MaskLaws.{Valid, rules_valid, few_words}
use Rattle.csr32.specs.Csr.{Entry}
use Rattle.csr32.specs.Made.{csr_of}
use Rattle.csr32.proofs.MadeLaws.{made_values}
use Rattle.abtm.specs.Tiles.{Tiles, tile_sizes, tiles_rules}
use Rattle.abtm_check.proofs.TilesLaws.{AcceptedTiles, rules_facts, row_listed, offsets_same, metas_same}
use Rattle.restricted.specs.Restricted.{restricted_tiles}
use Rattle.restricted_abtm.specs.Kept.{kept_all, tile_ready, records_answer}
use Rattle.restricted_abtm.proofs.RoomLaws.{Fitting, fitting-none, fitting_join}
use Rattle.restricted_abtm.proofs.EntryLaws.{row_kept, row_kept_lem, row_ready, all-few}

-- ---- what accepted tiles and mask say

pub record Restrictable (t : Tiles) (n : ℕ) (ws : List ℕ) : Type 0 where
  pub tiles : AcceptedTiles t
  pub mask : Valid n ws
  pub size : n ≡ t.cols

pub records_facts : (t : Tiles) (n : ℕ) (ws : List ℕ) → records_answer t (as_mask n ws) ≡ accepted → Restrictable t n ws
unfolding records_answer
records_facts t n ws e =
    let a1 : Answer = demand (few n && tile_sizes t) 1 in
    let a2 : Answer = demand (tiles_rules t) 12 in
    let a3 : Answer = demand (mask_rules (as_mask n ws)) 5 in
    let a4 : Answer = length_is t.cols n in
    let e2 : a2 and_then a3 and_then a4 ≡ accepted = then_second a1 (a2 and_then a3 and_then a4) e in
    let e3 : a3 and_then a4 ≡ accepted = then_second a2 (a3 and_then a4) e2 in
    let sizes : (few n && tile_sizes t) ≡ true = demand_accepted _ _ (then_first a1 (a2 and_then a3 and_then a4) e) in
    record {
      tiles = rules_facts t (and_right (few n) (tile_sizes t) sizes) (demand_accepted _ _ (then_first a2 (a3 and_then a4) e2));
      mask = rules_valid n ws (leb-true n (2 ^ 20) (and_left (few n) (tile_sizes t) sizes)) (demand_accepted _ _ (then_first a3 a4 e3));
      size = length_accepted t.cols n (then_second a3 a4 e3);
    }

-- ---- the lists on the way: the pointers and entries of the first rows

module _ (t : Tiles) (n : ℕ) (ws : List ℕ) (room : ℕ) (old_p old_c : List ℕ) (old_v : List Float) where
  abbrev kept : ℕ → List Entry
  kept r = joined (row_kept t (as_mask n ws)) r

  pub record Filling (r at : ℕ) (out_p out_c : List ℕ) (out_v : List Float) : Type 0 where
    pub inside : r ≤ t.rows
    pub place : at ≡ length (kept r)
    pub pointers : Appended (each (λ r. length (kept r)) r) 0 r old_p out_p
    pub pointers_same : length out_p ≡ length old_p
    pub columns : Fitting room (map (λ (e : Entry). e.0) (kept r)) 0 at old_c out_c
    pub values : Fitting room (map (λ (e : Entry). e.1) (kept r)) 0 at old_v out_v

  pub filling_none : Filling 0 0 old_p old_c old_v
  unfolding each joined
  filling_none = record {
    inside = omega arith;
    place = refl;
    pointers = appended_none 0 old_p;
    pointers_same = refl;
    columns = fitting-none room 0 old_c;
    values = fitting-none room 0 old_v;
  }

module _ (t : Tiles) (n : ℕ) (ws : List ℕ) (ok : records_answer t (as_mask n ws) ≡ accepted) where
  pub facts : Restrictable t n ws
  facts = records_facts t n ws ok

  pub rows_few : t.rows ≤ 2 ^ 20
  rows_few = facts.tiles.rows_in

  pub words-few : length ws ≤ 2 ^ 14
  words-few = few_words n ws facts.mask

  -- the pointers fit a u32, however many rows they count
  kept_small : (r : ℕ) → r ≤ t.rows → length (joined (row_kept t (as_mask n ws)) r) ≤ 2 ^ 30
  kept_small r h = omega (arith, length-joined-le (row_kept t (as_mask n ws)) r t.rows h, all-few t facts.tiles n ws facts.mask)

  -- ---- a row, as its masks, offsets and metas are lent
  module _ (r : ℕ) (h : r < t.rows) (ms os ks : List ℕ) (em : ms ≡ part t.ptr t.mask r) (eo : os ≡ part t.ptr t.offset r) (ek : ks ≡ part t.ptr t.meta r) where
    listed_lent : zip ms (zip os ks) ≡ row_listed t r
    listed_lent = λ i. zip (em i) (zip (eo i) (ek i))

    pub offsets_lent : length os ≡ length ms
    offsets_lent = ap length eo ∙ offsets_same t facts.tiles r h ∙ ap length (sym em)

    pub metas_lent : length ks ≡ length ms
    metas_lent = ap length ek ∙ metas_same t facts.tiles r h ∙ ap length (sym em)

    pub lent_ready : ((k : ℕ) → get_or t.mask k 0 < 2 ^ 64) → every (tile_ready (length t.vals) (length ws)) (zip ms (zip os ks)) ≡ true
    lent_ready fits = ap (every (tile_ready (length t.vals) (length ws))) listed_lent ∙ row_ready t facts.tiles n ws facts.mask facts.size fits r h

    lent_kept : kept_all t.vals ws (zip ms (zip os ks)) ≡ row_kept t (as_mask n ws) r
    lent_kept = ap (kept_all t.vals ws) listed_lent ∙ sym (row_kept_lem t facts.tiles n ws facts.mask r h)

    lent_few : length ms ≤ 2 ^ 24
    unfolding part
    lent_few =
        let end : ℕ = get_or t.ptr (r + 1) 0 in
        omega (arith, ap length em, length-drop (get_or t.ptr r 0) (take end t.mask), length-take end t.mask, facts.tiles.tiles_in)

    module _ (room : ℕ) (old_p old_c : List ℕ) (old_v : List Float) (np : t.rows < length old_p) (at : ℕ) (out_p out_c : List ℕ) (out_v : List Float) (inv : Filling t n ws room old_p old_c old_v r at out_p out_c out_v) where
      pub row_small : at + 64 * length ms ≤ 2 ^ 31
      row_small = omega (arith, inv.place, kept_small r inv.inside, lent_few)

      pub filling_more : (u to : ℕ) (last_c : List ℕ) (last_v : List Float) → u ≡ at % 2 ^ 32
          → to ≡ at + length (kept_all t.vals ws (zip ms (zip os ks)))
          → (to ≤ room → Appended (map (λ (e : Entry). e.0) (kept_all t.vals ws (zip ms (zip os ks)))) at to out_c last_c)
          → (to ≤ room → Appended (map (λ (e : Entry). e.1) (kept_all t.vals ws (zip ms (zip os ks)))) at to out_v last_v)
          → length last_c ≡ length out_c → length last_v ≡ length out_v → Filling t n ws room old_p old_c old_v (r + 1) to (set out_p r u) last_c last_v
      filling_more u to last_c last_v eu et c v sc sv =
          let f : ℕ → List Entry = row_kept t (as_mask n ws) in
          let lent : List Entry = kept_all t.vals ws (zip ms (zip os ks)) in
          let step : joined f (r + 1) ≡ joined f r ++ lent = joined-suc f r ∙ ap (λ (l : List Entry). joined f r ++ l) (sym lent_kept) in
          let number : u ≡ length (joined f r) = omega (arith, inv.place, kept_small r inv.inside) in
          let after : at ≤ to = omega arith in
          let cs : map (λ (e : Entry). e.0) (joined f (r + 1)) ≡ map (λ (e : Entry). e.0) (joined f r) ++ map (λ (e : Entry). e.0) lent = ap (map (λ (e : Entry). e.0)) step ∙ map-append (λ (e : Entry). e.0) (joined f r) lent in
          let vs : map (λ (e : Entry). e.1) (joined f (r + 1)) ≡ map (λ (e : Entry). e.1) (joined f r) ++ map (λ (e : Entry). e.1) lent = ap (map (λ (e : Entry). e.1)) step ∙ map-append (λ (e : Entry). e.1) (joined f r) lent in
          let ps : each (λ r. length (joined f r)) (r + 1) ≡ each (λ r. length (joined f r)) r ++ (u ∷ []) = each-suc (λ r. length (joined f r)) r ∙ ap (λ (k : ℕ). each (λ r. length (joined f r)) r ++ (k ∷ [])) (sym number) in
          record {
            inside = omega arith;
            place = omega (arith, inv.place, ap length step, length-append (joined f r) lent);
            pointers = rw ps (appended_snoc (each (λ r. length (joined f r)) r) 0 r old_p out_p u inv.pointers (omega (arith, inv.pointers_same)));
            pointers_same = length-set out_p r u ∙ inv.pointers_same;
            columns = rw cs (fitting_join room (map (λ (e : Entry). e.0) (joined f r)) 0 at old_c out_c inv.columns (map (λ (e : Entry). e.0) lent) to last_c after sc c);
            values = rw vs (fitting_join room (map (λ (e : Entry). e.1) (joined f r)) 0 at old_v out_v inv.values (map (λ (e : Entry). e.1) lent) to last_v after sv v);
          }

  -- ---- the last pointer, and the whole lists
  module _ (room : ℕ) (old_p old_c : List ℕ) (old_v : List Float) (r at : ℕ) (out_p out_c : List ℕ) (out_v : List Float) (inv : Filling t n ws room old_p old_c old_v r at out_p out_c out_v) (h : t.rows ≤ r) where
    last_row : r ≡ t.rows
    last_row = omega (arith, inv.inside)

    pub filled_kept : at ≡ length (restricted_tiles t (as_mask n ws)).val
    unfolding restricted_tiles
    filled_kept = inv.place ∙ ap (λ (k : ℕ). length (joined (row_kept t (as_mask n ws)) k)) last_row ∙ sym (made_values t.rows t.cols (row_kept t (as_mask n ws)))

    pub filled_pointers : (u : ℕ) → u ≡ at % 2 ^ 32 → t.rows < length out_p → Appended (restricted_tiles t (as_mask n ws)).ptr 0 (t.rows + 1) old_p (set out_p t.rows u)
    unfolding restricted_tiles csr_of starts
    filled_pointers u eu l =
        let f : ℕ → List Entry = row_kept t (as_mask n ws) in
        let g : ℕ → ℕ = λ r. length (joined f r) in
        let number : u ≡ g t.rows = omega (arith, inv.place, ap g last_row, kept_small r inv.inside) in
        let all : each g (suc t.rows) ≡ each g t.rows ++ (u ∷ []) = ap (each g) (sym (add-one t.rows)) ∙ each-suc g t.rows ∙ ap (λ (k : ℕ). each g t.rows ++ (k ∷ [])) (sym number) in
        let before : Appended (each g t.rows) 0 t.rows old_p out_p = subst (λ (k : ℕ). Appended (each g k) 0 k old_p out_p) last_row inv.pointers in
        rw all (appended_snoc (each g t.rows) 0 t.rows old_p out_p u before l)

    pub filled_columns : at ≤ room → Appended (restricted_tiles t (as_mask n ws)).col 0 at old_c out_c
    unfolding restricted_tiles csr_of
    filled_columns l = subst (λ (k : ℕ). Appended (map (λ (e : Entry). e.0) (joined (row_kept t (as_mask n ws)) k)) 0 at old_c out_c) last_row (inv.columns.written l)

    pub filled_values : at ≤ room → Appended (restricted_tiles t (as_mask n ws)).val 0 at old_v out_v
    unfolding restricted_tiles csr_of
    filled_values l = subst (λ (k : ℕ). Appended (map (λ (e : Entry). e.1) (joined (row_kept t (as_mask n ws)) k)) 0 at old_v out_v) last_row (inv.values.written l)
