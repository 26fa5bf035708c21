-- The route by tiles where the checks before it accept: only 13 can be said on the way, and what it answers is what the matrix itself
-- has. Assumes nothing.
use mathlib.Core.Bool.{Bool, true}
use mathlib.Core.List.{List}
use mathlib.Core.Path.{◌≡◌, ap, ap₂, ◌∙◌}
use Prim.Native.Nat.{ℕ}
use lib.Dec.{leb}
use lib.ListN.{get_or}
use lib.Ieee.{Float, nan}
use borrow.Author.Tests.{lt-ltb}
use Rattle.hybit_core.specs.Answer.{Answer, demand, answers, ◌and_then◌}
use Rattle.mask.specs.Mask.{Mask}
use Rattle.csr32.specs.Csr.{Csr, product}
use Rattle.csr32.specs.Made.{csr_of, CsrRoom, fits_csr}
use Rattle.abtm.specs.declared.AbtmConfig.{AbtmConfig}
use Rattle.abtm.specs.Tiles.{Tiles, threshold_rules, tiles_of}
use Rattle.abtm.specs.Calls.{threshold_answer}
use Rattle.abtm_build.specs.Build.{TileRoom, tiles_from, fits_tiles, tile_answer, tiled}
use Rattle.restricted.specs.Restricted.{restricted_tiles, restrict_tiles_answer, restricted_tiles_left}
use Rattle.demand.proofs.TilingLaws.{tiled_is, apply_accepted, left_is_list, cut_says}
use Rattle.demand_examine.specs.Steps.{after}
use Rattle.demand_tiled.specs.Tiled.{product_answer, list_number, tile_list_number, tiles_number}
use Rattle.demand_examine.specs.Calls.{tiled_fits, tiled_row_product}
use Rattle.demand_examine.proofs.StepLaws.{Asked, three_thirteens, last_accepted, after_13}

module _ (m : Csr) (a : Mask) (x : List Float) (r : ℕ) (k : Asked m a x r) where
  module _ (h : AbtmConfig) (good : threshold_rules h ≡ true) where
    abbrev cut : Csr
    cut = restricted_tiles (tiles_from m h) a

    pub tiles_say : (rt : TileRoom) → tile_answer m h rt ≡ demand (fits_tiles (tiles_from m h) rt) 13
    unfolding tile_answer threshold_answer
    tiles_say rt = rw (k.packs.list, good)

    pub cut_said : (rc : CsrRoom) → restrict_tiles_answer (tiles_from m h) a rc ≡ demand (fits_csr cut rc) 13
    cut_said rc = cut_says m k.packs a h k.valid_mask k.mask_long x r k.vector_long k.here rc

    pub product_said : (n : ℕ) → product_answer cut x r n ≡ demand (leb m.rows n) 13
    unfolding product_answer restricted_tiles csr_of tiles_from tiles_of
    product_said n =
        ap₂ (λ (b : Bool) (t : Answer). demand b 7 and_then demand (leb m.rows n) 13 and_then t) (lt-ltb r m.rows k.here) (apply_accepted m k.packs a h x k.vector_long)
        ∙ last_accepted (leb m.rows n)

    list_exact : (n : ℕ) → list_number cut x r n ≡ answers (demand (leb m.rows n) 13) (tiled_row_product m a h x r)
    unfolding list_number tiled_row_product
    list_exact n = ap (λ (t : Answer). answers t (get_or (product cut x) r nan)) (product_said n)

    pub tiled_exact : (rt : TileRoom) (rc : CsrRoom) (n : ℕ) → tiles_number m a x h r rt rc n ≡ answers (tiled_fits m a h rt rc n) (tiled_row_product m a h x r)
    unfolding tiles_number tile_list_number tiled_fits
    tiled_exact rt rc n =
        let u : Float = tiled_row_product m a h x r in
        let f : Bool = fits_tiles (tiles_from m h) rt in
        let c : Bool = fits_csr cut rc in
        let w : Bool = leb m.rows n in
        ap (λ (t : Answer). after t (tile_list_number (tiled m h rt) a x r rc n)) (tiles_say rt)
        ∙ after_13 f (demand c 13 and_then demand w 13) (tile_list_number (tiled m h rt) a x r rc n) u
        (λ e. ap (λ (t : Tiles). tile_list_number t a x r rc n) (tiled_is m h rt (tiles_say rt ∙ ap (λ (b : Bool). demand b 13) e))
        ∙ ap (λ (t : Answer). after t (list_number (restricted_tiles_left (tiles_from m h) a rc) x r n)) (cut_said rc)
        ∙ after_13 c (demand w 13) (list_number (restricted_tiles_left (tiles_from m h) a rc) x r n) u
        (λ g. ap (λ (l : Csr). list_number l x r n) (left_is_list m k.packs a h rc (cut_said rc ∙ ap (λ (b : Bool). demand b 13) g)) ∙ list_exact n))
        ∙ ap (λ (t : Answer). answers t u) (three_thirteens f c w)
