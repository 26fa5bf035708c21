-- What the figures of tiles know once the check has accepted, and the tiles of a kind, counted one by one. Assumes nothing.
use Rattle.std.specs.Prelude.{Result, Ok}
use Rattle.hybit_core.specs.declared.HybitError.{HybitError}
use mathlib.Core.Bool.{Bool, true, false}
use mathlib.Core.List.{List, [], ◌∷◌}
use mathlib.Core.Path.{◌≡◌, refl, sym, ap, ◌∙◌}
use Prim.Native.Nat.{ℕ, ◌+◌, ◌*◌, ◌<◌}
use native.Mathlib.Numerals.{add-one}
use native.Mathlib.Omega.{arith}
use lib.Dec.{eqb}
use lib.ListN.{length, get_or, take, length-append}
use lib.Seq.{take-suc}
use Rattle.hybit_core.specs.Table.{told}
use Rattle.hybit_core.proofs.AnswerLaws.{accepted_by}
use Rattle.lent.specs.Lists.{only, cons_if}
use Rattle.lent.proofs.ListLaws.{only-append}
use Rattle.abtm.specs.Tiles.{Tiles, kind_in, tiles_answer}
use Rattle.abtm_check.proofs.TilesLaws.{AcceptedTiles, tiles_facts}
use Rattle.abtm_rows.specs.declared.AbtmStats.{AbtmStats}
use Rattle.abtm_rows.specs.Rows.{of_kind, tile_stats}

-- ---- a record that the check accepted

pub tiles_checked : (t : Tiles) (v : Result Unit HybitError) → told v ≡ tiles_answer t → v ≡ Ok tt → AcceptedTiles t
tiles_checked t v e a = tiles_facts t (accepted_by (tiles_answer t) v e a)

-- ---- the tiles of a kind among the first i

module _ (ks : List ℕ) (k : ℕ) where
  pub kind_none : 0 ≡ of_kind k (take 0 ks)
  unfolding of_kind only
  kind_none = refl

  module _ (n i : ℕ) (inv : n ≡ of_kind k (take i ks)) (h : i < length ks) where
    one : (t : Bool) → eqb (kind_in (get_or ks i 0)) k ≡ t → of_kind k (take (i + 1) ks) ≡ n + length (cons_if t (get_or ks i 0) [])
    unfolding of_kind only
    one t q =
        ap (λ (j : ℕ). of_kind k (take j ks)) (add-one i)
        ∙ ap (of_kind k) (take-suc ks i 0 h)
        ∙ ap length (only-append (λ m. eqb (kind_in m) k) (take i ks) (get_or ks i 0 ∷ []))
        ∙ length-append (only (λ m. eqb (kind_in m) k) (take i ks)) (only (λ m. eqb (kind_in m) k) (get_or ks i 0 ∷ []))
        ∙ ap (λ (j : ℕ). j + length (only (λ m. eqb (kind_in m) k) (get_or ks i 0 ∷ []))) (sym inv)
        ∙ ap (λ (b : Bool). n + length (cons_if b (get_or ks i 0) [])) q

    pub kind_more : eqb (kind_in (get_or ks i 0)) k ≡ true → n + 1 ≡ of_kind k (take (i + 1) ks)
    kind_more q = sym (one true q)

    pub kind_same : eqb (kind_in (get_or ks i 0)) k ≡ false → n ≡ of_kind k (take (i + 1) ks)
    kind_same q = omega (arith, one false q)

-- ---- the figures, as they are counted

abbrev counted : Tiles → ℕ → ℕ → ℕ → AbtmStats
counted t a b c = record {
  nrows = t.rows;
  ncols = t.cols;
  matrix_nnz = t.nnz;
  tiles = length t.meta;
  sparse_tiles = a;
  bitmap_tiles = b;
  dense_tiles = c;
  value_slots = length t.vals;
  metadata_bytes = 4 * (t.rows + 1) + 16 * length t.meta;
}

pub stats_are : (t : Tiles) (a b c : ℕ) → a ≡ of_kind 0 t.meta → b ≡ of_kind 1 t.meta → c ≡ of_kind 2 t.meta → counted t a b c ≡ tile_stats t
unfolding tile_stats
stats_are t a b c p q r = λ i. counted t (p i) (q i) (r i)
