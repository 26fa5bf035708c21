-- A row's number on the way, tile after tile. Assumes nothing.
use mathlib.Core.Bool.{true}
use mathlib.Core.List.{List, map, zip, foldl}
use mathlib.Core.Path.{◌≡◌, refl, sym, ap, ◌∙◌}
use Prim.Native.Nat.{ℕ, ◌+◌, ◌≤◌, ◌<◌}
use native.Mathlib.Omega.{arith}
use lib.ListN.{length, get_or, drop}
use lib.Ieee.{Float}
use Rattle.hybit_core.specs.Floats.{zero64}
use Rattle.lent.specs.Lists.{every}
use Rattle.lent.proofs.ListLaws.{every-get_or}
use Rattle.abtm.specs.Tiles.{Listed, tile_at}
use Rattle.abtm_check.proofs.TilesLaws.{length-listed, listed_at, rest-listed, none-listed}
use Rattle.abtm_apply.specs.Product.{add_tile, sum_tiles}
use Rattle.abtm_apply.specs.Ready.{tile_inside}

module _ (masks offs metas : List ℕ) (vals x : List Float) where
  -- the tiles from i on are still to be added to s
  pub record Summing (i : ℕ) (s : Float) : Type 0 where
    pub is : foldl (add_tile (length x) x) s (map (tile_at vals) (drop i (zip masks (zip offs metas)))) ≡ sum_tiles (length x) x (map (tile_at vals) (zip masks (zip offs metas)))

  pub summing_none : Summing 0 zero64
  unfolding sum_tiles
  summing_none = record { is = refl }

module _ (masks offs metas : List ℕ) (vals x : List Float) (eo : length offs ≡ length masks) (em : length metas ≡ length masks) where
  pub tile_in : every (tile_inside (length vals) (length x)) (zip masks (zip offs metas)) ≡ true → (i o : ℕ) → i < length masks → o ≡ get_or offs i 0 → tile_inside (length vals) (length x) (get_or masks i 0, (o, get_or metas i 0)) ≡ true
  tile_in a i o h e =
      sym (ap (tile_inside (length vals) (length x)) (listed_at masks offs metas eo em i o h e))
      ∙ every-get_or (tile_inside (length vals) (length x)) (zip masks (zip offs metas)) i (0, (0, 0)) a (omega (arith, length-listed masks offs metas eo em))

  module _ (i : ℕ) (s : Float) (inv : Summing masks offs metas vals x i s) where
    pub summing_more : (o : ℕ) (r : Float) → i < length masks → o ≡ get_or offs i 0 → r ≡ add_tile (length x) x s (tile_at vals (get_or masks i 0, (o, get_or metas i 0))) → Summing masks offs metas vals x (i + 1) r
    summing_more o r h e q =
        let l : List Listed = zip masks (zip offs metas) in
        record {
          is =
              ap (λ (t : Float). foldl (add_tile (length x) x) t (map (tile_at vals) (drop (i + 1) l))) q
              ∙ sym (ap (λ (t : List Listed). foldl (add_tile (length x) x) s (map (tile_at vals) t)) (rest-listed masks offs metas eo em i o h e)) ∙ inv.is;
        }

    pub summing_done : length masks ≤ i → s ≡ sum_tiles (length x) x (map (tile_at vals) (zip masks (zip offs metas)))
    summing_done h =
        sym (ap (λ (t : List Listed). foldl (add_tile (length x) x) s (map (tile_at vals) t)) (none-listed masks offs metas eo em i h)) ∙ inv.is
