-- What each end of the call leaves: zeros where it is refused, at whatever step, and the results where it is accepted. Assumes nothing.
use Rattle.std.specs.Prelude.{Result, Ok}
use Rattle.hybit_core.specs.declared.HybitError.{HybitError}
use mathlib.Core.Bool.{Bool, true, ◌&&◌}
use mathlib.Core.List.{List, []}
use mathlib.Core.Path.{◌≡◌, sym, ap, ap₂, ◌∙◌, subst}
use Prim.Native.Nat.{ℕ}
use lib.Dec.{leb}
use lib.Ieee.{Float}
use Rattle.hybit_core.specs.Answer.{Told, Answer, accepted, refused, Given, gives, refuses, demand, answers, ◌and_then◌}
use Rattle.hybit_core.specs.Floats.{zero64}
use Rattle.hybit_core.specs.Table.{told}
use Rattle.hybit_core.proofs.BoolLaws.{and_left, and_right}
use Rattle.hybit_core.proofs.AnswerLaws.{demand_accepted, then_first, then_second, accepted_by}
use Rattle.lent.specs.Lent.{padded, built}
use Rattle.mask.specs.Mask.{Mask}
use Rattle.csr32.specs.Csr.{Csr}
use Rattle.csr32.specs.Made.{CsrRoom, fits_csr}
use Rattle.abtm.specs.declared.AbtmConfig.{AbtmConfig}
use Rattle.abtm.specs.Tiles.{Tiles, threshold_rules}
use Rattle.abtm.specs.Calls.{threshold_answer}
use Rattle.abtm_build.specs.Build.{TileRoom, tiles_from, fits_tiles, tile_answer, tiled}
use Rattle.restricted.specs.Restricted.{restricted_tiles, restrict_tiles_answer, restricted_tiles_left}
use Rattle.demand.proofs.TilingLaws.{tiled_is, left_is_list}
use Rattle.demand_tiled.specs.Tiled.{product_answer, product_of, tiles_number, TileLists}
use Rattle.demand_examine.specs.Steps.{PlotLists}
use Rattle.demand_examine.specs.Calls.{records_answer, question_answer, tiled_fits, tiled_answer, tiled_row_product}
use Rattle.demand_examine.proofs.StepLaws.{gave, refused_as, Asked, asked}
use Rattle.demand_tiled.proofs.ExactLaws.{tiles_say, cut_said, product_said, tiled_exact}

pub tile_zeros : (t : Answer) (e : Told) (s : Tiles) (room : TileRoom) (p b o k : List ℕ) (v : List Float) → t ≡ refused e
    → p ≡ padded 0 room.ptr [] → b ≡ padded 0 room.mask [] → o ≡ padded 0 room.offset [] → k ≡ padded 0 room.meta [] → v ≡ padded zero64 room.vals [] → TileLists t s room p b o k v
tile_zeros t e s room p b o k v q ep eb eo ek ev = subst (λ (u : Answer). TileLists u s room p b o k v) (sym q) (record { pointers = ep; bits = eb; offsets = eo; metas = ek; values = ev })

module _ (m : Csr) (a : Mask) (h : AbtmConfig) (x : List Float) (r : ℕ) (rt : TileRoom) (rc : CsrRoom) (n : ℕ) (v : Result Unit HybitError)
    (ev : told v ≡ records_answer m a and_then threshold_answer h and_then question_answer m a x r) (kv : v ≡ Ok tt) where
  checked : records_answer m a and_then threshold_answer h and_then question_answer m a x r ≡ accepted
  checked = accepted_by (records_answer m a and_then threshold_answer h and_then question_answer m a x r) v ev kv

  records_good : records_answer m a ≡ accepted
  records_good = then_first (records_answer m a) (threshold_answer h and_then question_answer m a x r) checked

  limits-good : threshold_answer h ≡ accepted
  limits-good = then_first (threshold_answer h) (question_answer m a x r) (then_second (records_answer m a) (threshold_answer h and_then question_answer m a x r) checked)

  question_good : question_answer m a x r ≡ accepted
  question_good = then_second (threshold_answer h) (question_answer m a x r) (then_second (records_answer m a) (threshold_answer h and_then question_answer m a x r) checked)

  put : Asked m a x r
  put = asked m a x r records_good question_good

  limits : threshold_rules h ≡ true
  unfolding threshold_answer
  limits = demand_accepted (threshold_rules h) 9 limits-good

  abbrev whole : Answer
  whole = tiled_answer m a h x r rt rc n

  tiled_says : whole ≡ tiled_fits m a h rt rc n
  unfolding tiled_answer
  tiled_says = rw (records_good, limits-good, question_good)

  pub tiled-told : (g : Given Float) → g ≡ tiles_number m a x h r rt rc n → g ≡ answers whole (tiled_row_product m a h x r)
  tiled-told g e = e ∙ tiled_exact m a x r put h limits rt rc n ∙ ap (λ (t : Answer). answers t (tiled_row_product m a h x r)) (sym tiled_says)

  pub tiled_short : (t : Told) → refuses t ≡ tiles_number m a x h r rt rc n → whole ≡ refused t
  tiled_short t e = refused_as whole (tiled_row_product m a h x r) t (tiled-told (refuses t) e)

  module _ (d : Float) (e : gives d ≡ tiles_number m a x h r rt rc n) where
    all_fine : whole ≡ accepted
    all_fine = (gave whole (tiled_row_product m a h x r) d (tiled-told (gives d) e)).0

    abbrev cut : Csr
    cut = restricted_tiles (tiles_from m h) a

    room_is : (fits_tiles (tiles_from m h) rt && fits_csr cut rc && leb m.rows n) ≡ true
    unfolding tiled_fits
    room_is = demand_accepted _ 13 (sym tiled_says ∙ all_fine)

    tiles_fit : fits_tiles (tiles_from m h) rt ≡ true
    tiles_fit = and_left (fits_tiles (tiles_from m h) rt) (fits_csr cut rc) (and_left (fits_tiles (tiles_from m h) rt && fits_csr cut rc) (leb m.rows n) room_is)

    built-first : tile_answer m h rt ≡ accepted
    built-first = tiles_say m a x r put h limits rt ∙ ap (λ (b : Bool). demand b 13) tiles_fit

    tiles_are : tiled m h rt ≡ tiles_from m h
    tiles_are = tiled_is m h rt built-first

    cut_second : restrict_tiles_answer (tiles_from m h) a rc ≡ accepted
    cut_second =
        cut_said m a x r put h limits rc
        ∙ ap (λ (b : Bool). demand b 13) (and_right (fits_tiles (tiles_from m h) rt) (fits_csr cut rc) (and_left (fits_tiles (tiles_from m h) rt && fits_csr cut rc) (leb m.rows n) room_is))

    cut_left : restricted_tiles_left (tiles_from m h) a rc ≡ cut
    cut_left = left_is_list m put.packs a h rc cut_second

    product_third : product_answer cut x r n ≡ accepted
    product_third = product_said m a x r put h limits n ∙ ap (λ (b : Bool). demand b 13) (and_right (fits_tiles (tiles_from m h) rt && fits_csr cut rc) (leb m.rows n) room_is)

    pub tiled_tiles : (p b o k : List ℕ) (vs : List Float) → TileLists (tile_answer m h rt) (tiles_from m h) rt p b o k vs → TileLists whole (tiles_from m h) rt p b o k vs
    tiled_tiles p b o k vs l = subst (λ (t : Answer). TileLists t (tiles_from m h) rt p b o k vs) (built-first ∙ sym all_fine) l

    pub tiled-plots : (p c : List ℕ) (vs : List Float) → PlotLists (tile_answer m h rt and_then restrict_tiles_answer (tiled m h rt) a rc) (restricted_tiles (tiled m h rt) a) rc p c vs → PlotLists whole cut rc p c vs
    tiled-plots p c vs l =
        let one = subst (λ (t : Answer). PlotLists (t and_then restrict_tiles_answer (tiled m h rt) a rc) (restricted_tiles (tiled m h rt) a) rc p c vs) built-first l in
        let two = subst (λ (t : Tiles). PlotLists (restrict_tiles_answer t a rc) (restricted_tiles t a) rc p c vs) tiles_are one in
        subst (λ (t : Answer). PlotLists t cut rc p c vs) (cut_second ∙ sym all_fine) two

    pub tiled-product : (out : List Float)
        → out ≡ built zero64 n (tile_answer m h rt and_then restrict_tiles_answer (tiled m h rt) a rc and_then product_answer (restricted_tiles_left (tiled m h rt) a rc) x r n) (product_of (restricted_tiles_left (tiled m h rt) a rc) x)
        → out ≡ built zero64 n whole (product_of cut x)
    tiled-product out q =
        q
        ∙ ap (λ (t : Answer). built zero64 n (t and_then restrict_tiles_answer (tiled m h rt) a rc and_then product_answer (restricted_tiles_left (tiled m h rt) a rc) x r n) (product_of (restricted_tiles_left (tiled m h rt) a rc) x)) built-first
        ∙ ap (λ (t : Tiles). built zero64 n (restrict_tiles_answer t a rc and_then product_answer (restricted_tiles_left t a rc) x r n) (product_of (restricted_tiles_left t a rc) x)) tiles_are
        ∙ ap₂ (λ (t : Answer) (c : Csr). built zero64 n (t and_then product_answer c x r n) (product_of c x)) cut_second cut_left
        ∙ ap (λ (t : Answer). built zero64 n t (product_of cut x)) (product_third ∙ sym all_fine)
