-- The row product of a list, of one restricted from tiles, and of a matrix's tiles. Assumes nothing.
use Rattle.std.specs.Prelude.{Result, Ok, Err}
use mathlib.Core.Bool.{Bool, true, ◌&&◌}
use mathlib.Core.List.{List, [], ◌++◌, map}
use mathlib.Core.Path.{◌≡◌, refl, sym, ap, ap₂, subst, ◌∙◌}
use Prim.Native.Nat.{ℕ, ◌+◌, ◌^◌, ◌≤◌, ◌<◌}
use native.Mathlib.Numerals.{add-one}
use native.Mathlib.Omega.{arith}
use lib.Dec.{leb}
use lib.ListN.{length, get_or, take, drop, length-map}
use lib.Ieee.{Float, nan}
use borrow.Author.Tests.{leb-true}
use Rattle.hybit_core.specs.Answer.{plain, Answer, accepted, refused, Given, gives, refuses, demand, length_is, answers, ◌and_then◌}
use Rattle.hybit_core.specs.Domain.{few, many, sizes_fit}
use Rattle.hybit_core.specs.Floats.{zero64, finite}
use Rattle.hybit_core.specs.Table.{paper, told, given}
use Rattle.hybit_core.specs.declared.HybitError.{HybitError}
use Rattle.hybit_core.proofs.BoolLaws.{and_left, and_right, is_below, is_not_below, is_within, is_above}
use Rattle.hybit_core.proofs.AnswerLaws.{accepted_by, refused_by, demand_accepted, then_first, then_second}
use Rattle.lent.specs.Lists.{joined, every}
use Rattle.lent.specs.Lent.{padded, built, kept}
use Rattle.lent.proofs.ListLaws.{length-each, length-starts}
use Rattle.lent.proofs.LentLaws.{get_or-padded, cleared_front}
use Rattle.mask.specs.Mask.{Mask, mask_rules, active}
use Rattle.csr32.specs.Csr.{Csr, Entry, as_csr, csr_answer, entries, row_product, apply_answer, product}
use Rattle.csr32.specs.Made.{entries_in, csr_of, CsrRoom, as_csr_room, fits_csr}
use Rattle.csr32.proofs.CsrLaws.{valid}
use Rattle.csr32.proofs.MadeLaws.{made_pointers, made_columns, made_values}
use Rattle.abtm.specs.declared.AbtmConfig.{AbtmConfig}
use Rattle.abtm.specs.Tiles.{Tile, Tiles, as_tiles, tiles_of, tile_sizes, tiles_rules, tile_entries}
use Rattle.abtm.specs.Calls.{threshold_answer}
use Rattle.abtm.proofs.PlaceLaws.{laid_long}
use Rattle.abtm_build.specs.declared.TilesSize.{TilesSize}
use Rattle.abtm_build.specs.Build.{as_tile_room, tiles_from, fits_tiles, tile_answer, as_tiles_size, used_tiles, tiled}
use Rattle.abtm_build.specs.Written.{row_of}
use Rattle.restricted.specs.declared.ColumnRestriction.{ColumnRestriction}
use Rattle.restricted.specs.Restricted.{restricted_tiles, restrict_tiles_answer, restricted_tiles_left, tile_restriction_of}
use Rattle.demand_examine.specs.Steps.{after, PlotLists}
use Rattle.demand_tiled.specs.Tiled.{product_answer, list_number, tile_list_number, tiles_number, TileLists}
use Rattle.demand_examine.proofs.StepLaws.{gave, refused_as, plot_lent}

-- ---- a row of a list's product, in a list of n places

module _ (m : Csr) (x : List Float) (r n : ℕ) where
  abbrev Multiplied : Given Float → List Float → Type 0
  Multiplied g y = (g ≡ list_number m x r n) × (y ≡ built zero64 n (product_answer m x r n) (product m x))

  by_answer : (s : Answer) (g : Given Float) (y : List Float) → product_answer m x r n ≡ s → g ≡ answers s (get_or (product m x) r nan) → y ≡ built zero64 n s (product m x) → Multiplied g y
  unfolding list_number
  by_answer s g y e eg ey = subst (λ (t : Answer). (g ≡ answers t (get_or (product m x) r nan)) × (y ≡ built zero64 n t (product m x))) (sym e) (eg, ey)

  pub row_past : (y : List Float) → m.rows ≤ r → y ≡ padded zero64 n [] → Multiplied (refuses (plain 7)) y
  unfolding product_answer
  row_past y h e = by_answer (refused (plain 7)) (refuses (plain 7)) y (ap (λ (b : Bool). demand b 7 and_then demand (leb m.rows n) 13 and_then apply_answer m x m.rows) (sym (is_not_below r m.rows h))) refl e

  module _ (h : r < m.rows) where
    pub product_short : (y : List Float) → n < m.rows → y ≡ padded zero64 n [] → Multiplied (refuses (plain 13)) y
    unfolding product_answer
    product_short y k e =
        by_answer (refused (plain 13)) (refuses (plain 13)) y (ap₂ (λ (b d : Bool). demand b 7 and_then demand d 13 and_then apply_answer m x m.rows) (sym (is_below r m.rows h)) (sym (is_above m.rows n k))) refl e

    module _ (k : m.rows ≤ n) (v : Result Unit HybitError) (ny : ℕ) (en : ny ≡ m.rows) (t : told v ≡ apply_answer m x ny) where
      only_apply : product_answer m x r n ≡ apply_answer m x ny
      unfolding product_answer
      only_apply =
          ap₂ (λ (b d : Bool). demand b 7 and_then demand d 13 and_then apply_answer m x m.rows) (sym (is_below r m.rows h)) (sym (is_within m.rows n k)) ∙ ap (apply_answer m x) (sym en)

      pub apply_refused : (q : HybitError) (l : ℕ) (y : List Float) → v ≡ Err q → y ≡ padded zero64 l [] → l ≡ n → Multiplied (refuses (paper q)) y
      apply_refused q l y e ey el =
          by_answer (refused (paper q)) (refuses (paper q)) y (only_apply ∙ refused_by (apply_answer m x ny) v q t e) refl (ey ∙ ap (λ (i : ℕ). padded zero64 i []) el)

      -- front: what `apply` left in the first rows places of old
      module _ (e : v ≡ Ok tt) (front old last : List Float) (ef : front ≡ kept (apply_answer m x ny) (product m x) (take m.rows old)) (eo : n ≡ length old)
          (el : last ≡ padded zero64 (length (front ++ drop m.rows old)) (take m.rows (front ++ drop m.rows old))) where
        is_accepted : apply_answer m x ny ≡ accepted
        is_accepted = accepted_by (apply_answer m x ny) v t e

        list_is : last ≡ padded zero64 n (product m x)
        unfolding product
        list_is =
            cleared_front zero64 m.rows (λ r. row_product (entries m r) x) front old last (ef ∙ ap (λ (s : Answer). kept s (product m x) (take m.rows old)) is_accepted) (omega arith) el
            ∙ ap (λ (i : ℕ). padded zero64 i (product m x)) (sym eo)

        product_long : length (product m x) ≡ m.rows
        unfolding product
        product_long = length-each (λ r. row_product (entries m r) x) m.rows

        pub apply_done : (g : Float) → g ≡ get_or last r nan → Multiplied (gives g) last
        apply_done g eg =
            let at : get_or last r nan ≡ get_or (product m x) r nan = ap (λ (l : List Float). get_or l r nan) list_is ∙ get_or-padded zero64 n r (product m x) nan (omega (arith, product_long)) in
            by_answer accepted (gives g) last (only_apply ∙ is_accepted) (ap gives (eg ∙ at)) list_is

-- ---- a list restricted from tiles, which answered s, in lists of np, nc and nv places

module _ (t : Tiles) (a : Mask) (np nc nv : ℕ) (s : Result ColumnRestriction HybitError) (e : given s ≡ answers (restrict_tiles_answer t a (as_csr_room np nc nv)) (tile_restriction_of t a)) where
  module _ (x : List Float) (r n : ℕ) (y : List Float) (lp lc : List ℕ) (lv : List Float) (ls : PlotLists (restrict_tiles_answer t a (as_csr_room np nc nv)) (restricted_tiles t a) (as_csr_room np nc nv) lp lc lv) where
    abbrev left : Csr
    left = restricted_tiles_left t a (as_csr_room np nc nv)

    abbrev Lists : Given Float → Type 0
    Lists g =
        (g ≡ tile_list_number t a x r (as_csr_room np nc nv) n)
        × (PlotLists (restrict_tiles_answer t a (as_csr_room np nc nv)) (restricted_tiles t a) (as_csr_room np nc nv) lp lc lv × (y ≡ built zero64 n (restrict_tiles_answer t a (as_csr_room np nc nv) and_then product_answer left x r n) (product left x)))

    by_restriction : (g : Given Float) (i : Answer) → restrict_tiles_answer t a (as_csr_room np nc nv) ≡ i → g ≡ after i (list_number left x r n) → y ≡ built zero64 n (i and_then product_answer left x r n) (product left x) → Lists g
    unfolding tile_list_number
    by_restriction g i q eg ey =
        let w = subst (λ (j : Answer). (g ≡ after j (list_number left x r n)) × (y ≡ built zero64 n (j and_then product_answer left x r n) (product left x))) (sym q) (eg, ey) in
        (w.0, (ls, w.1))

    pub unlisted : (q : HybitError) → s ≡ Err q → y ≡ padded zero64 n [] → Lists (refuses (paper q))
    unlisted q k ey = by_restriction (refuses (paper q)) (refused (paper q)) (refused_as (restrict_tiles_answer t a (as_csr_room np nc nv)) (tile_restriction_of t a) (paper q) (sym (ap given k) ∙ e)) refl ey

    module _ (z : ColumnRestriction) (k : s ≡ Ok z) where
      made : (restrict_tiles_answer t a (as_csr_room np nc nv) ≡ accepted) × (z ≡ tile_restriction_of t a)
      made = gave (restrict_tiles_answer t a (as_csr_room np nc nv)) (tile_restriction_of t a) z (sym (ap given k) ∙ e)

      kept_is : z.retained_nnz ≡ length (restricted_tiles t a).val
      unfolding tile_restriction_of
      kept_is = ap (λ (i : ColumnRestriction). i.retained_nnz) made.1

      lent_is : as_csr t.rows t.cols (take (t.rows + 1) lp) (take z.retained_nnz lc) (take z.retained_nnz lv) ≡ left
      unfolding restricted_tiles csr_of
      lent_is = plot_lent (restrict_tiles_answer t a (as_csr_room np nc nv)) (restricted_tiles t a) (as_csr_room np nc nv) z.retained_nnz lp lc lv ls kept_is

      pub listed : (g : Given Float) (l : Csr) → l ≡ as_csr t.rows t.cols (take (t.rows + 1) lp) (take z.retained_nnz lc) (take z.retained_nnz lv) → g ≡ list_number l x r n → y ≡ built zero64 n (product_answer l x r n) (product l x) → Lists g
      listed g l el eg ey =
          let w = subst (λ (i : Csr). (g ≡ list_number i x r n) × (y ≡ built zero64 n (product_answer i x r n) (product i x))) (el ∙ lent_is) (eg, ey) in
          by_restriction g accepted made.0 w.0 w.1

  module _ (z : ColumnRestriction) (k : s ≡ Ok z) where
    pub record ListUsed : Type 0 where
      pub rows_in : t.rows ≤ 2 ^ 20
      pub ptr_in : t.rows + 1 ≤ np
      pub col_in : z.retained_nnz ≤ nc
      pub val_in : z.retained_nnz ≤ nv

    pub list_used : ListUsed
    unfolding restrict_tiles_answer tile_restriction_of tile_sizes sizes_fit fits_csr restricted_tiles
    list_used =
        let b = gave (restrict_tiles_answer t a (as_csr_room np nc nv)) (tile_restriction_of t a) z (sym (ap given k) ∙ e) in
        let row : ℕ → List Entry = λ r. entries_in (active a) (tile_entries t r) in
        let q : z.retained_nnz ≡ length (restricted_tiles t a).val = ap (λ (i : ColumnRestriction). i.retained_nnz) b.1 in
        let c₁ : Bool = few a.size && tile_sizes t in
        let c₆ : Answer = demand (fits_csr (restricted_tiles t a) (as_csr_room np nc nv)) 13 in
        let c₅ : Answer = demand (many (length (restricted_tiles t a).val)) 1 and_then c₆ in
        let c₄ : Answer = demand (every finite (restricted_tiles t a).val) 4 and_then c₅ in
        let c₃ : Answer = length_is t.cols a.size and_then c₄ in
        let c₂ : Answer = demand (mask_rules a) 5 and_then c₃ in
        let sizes : c₁ ≡ true = demand_accepted c₁ 1 (then_first (demand c₁ 1) (demand (tiles_rules t) 12 and_then c₂) b.0) in
        let e₁ : demand (tiles_rules t) 12 and_then c₂ ≡ accepted = then_second (demand c₁ 1) (demand (tiles_rules t) 12 and_then c₂) b.0 in
        let e₂ : c₂ ≡ accepted = then_second (demand (tiles_rules t) 12) c₂ e₁ in
        let e₃ : c₃ ≡ accepted = then_second (demand (mask_rules a) 5) c₃ e₂ in
        let e₄ : c₄ ≡ accepted = then_second (length_is t.cols a.size) c₄ e₃ in
        let e₅ : c₅ ≡ accepted = then_second (demand (every finite (restricted_tiles t a).val) 4) c₅ e₄ in
        let e₆ : c₆ ≡ accepted = then_second (demand (many (length (restricted_tiles t a).val)) 1) c₆ e₅ in
        let fits : fits_csr (restricted_tiles t a) (as_csr_room np nc nv) ≡ true = demand_accepted _ 13 e₆ in
        let fp : Bool = leb (length (restricted_tiles t a).ptr) np in
        let fc : Bool = leb (length (restricted_tiles t a).col) nc in
        let fv : Bool = leb (length (restricted_tiles t a).val) nv in
        let p = leb-true (length (restricted_tiles t a).ptr) np (and_left fp fc (and_left (fp && fc) fv fits)) in
        let c = leb-true (length (restricted_tiles t a).col) nc (and_right fp fc (and_left (fp && fc) fv fits)) in
        let v = leb-true (length (restricted_tiles t a).val) nv (and_right (fp && fc) fv fits) in
        let fr : Bool = few t.rows in
        let fl : Bool = few t.cols in
        let mm : Bool = many (length t.mask) in
        let mk : Bool = many (length t.meta) in
        let mo : Bool = many (length t.offset) in
        let sz : (fr && fl && mm && mk && mo) ≡ true = and_right (few a.size) (tile_sizes t) sizes in
        let fits-rows : fr ≡ true = and_left fr fl (and_left (fr && fl) mm (and_left (fr && fl && mm) mk (and_left (fr && fl && mm && mk) mo sz))) in
        record {
          rows_in = leb-true t.rows (2 ^ 20) fits-rows;
          ptr_in = omega (arith, p, made_pointers t.rows t.cols row);
          col_in = omega (arith, c, q, made_columns t.rows t.cols row, made_values t.rows t.cols row);
          val_in = omega (arith, v, q);
        }

-- ---- a build of tiles, which answered s, in lists of n₁ .. n₅ places

module _ (m : Csr) (h : AbtmConfig) (n₁ n₂ n₃ n₄ n₅ : ℕ) (s : Result TilesSize HybitError) (e : given s ≡ answers (tile_answer m h (as_tile_room n₁ n₂ n₃ n₄ n₅)) (used_tiles (tiles_from m h))) where
  module _ (a : Mask) (x : List Float) (r : ℕ) (rc : CsrRoom) (n : ℕ) (y : List Float) (lp lc : List ℕ) (lv : List Float) (op ob oo ok : List ℕ) (ov : List Float)
      (ls : TileLists (tile_answer m h (as_tile_room n₁ n₂ n₃ n₄ n₅)) (tiles_from m h) (as_tile_room n₁ n₂ n₃ n₄ n₅) op ob oo ok ov) where
    abbrev held : Tiles
    held = tiled m h (as_tile_room n₁ n₂ n₃ n₄ n₅)

    abbrev After : Answer → Given Float → Type 0
    After i g =
        (g ≡ after i (tile_list_number held a x r rc n))
        × (PlotLists (i and_then restrict_tiles_answer held a rc) (restricted_tiles held a) rc lp lc lv
        × (y ≡ built zero64 n (i and_then restrict_tiles_answer held a rc and_then product_answer (restricted_tiles_left held a rc) x r n) (product (restricted_tiles_left held a rc) x)))

    abbrev Numbers : Given Float → Type 0
    Numbers g =
        (g ≡ tiles_number m a x h r (as_tile_room n₁ n₂ n₃ n₄ n₅) rc n)
        × (TileLists (tile_answer m h (as_tile_room n₁ n₂ n₃ n₄ n₅)) (tiles_from m h) (as_tile_room n₁ n₂ n₃ n₄ n₅) op ob oo ok ov
        × (PlotLists (tile_answer m h (as_tile_room n₁ n₂ n₃ n₄ n₅) and_then restrict_tiles_answer held a rc) (restricted_tiles held a) rc lp lc lv
        × (y ≡ built zero64 n (tile_answer m h (as_tile_room n₁ n₂ n₃ n₄ n₅) and_then restrict_tiles_answer held a rc and_then product_answer (restricted_tiles_left held a rc) x r n) (product (restricted_tiles_left held a rc) x))))

    by_tiles : (g : Given Float) (i : Answer) → tile_answer m h (as_tile_room n₁ n₂ n₃ n₄ n₅) ≡ i → After i g → Numbers g
    unfolding tiles_number
    by_tiles g i q w = let z = subst (λ (j : Answer). After j g) (sym q) w in (z.0, (ls, (z.1.0, z.1.1)))

    pub untiled : (q : HybitError) → s ≡ Err q → lp ≡ padded 0 rc.ptr [] → lc ≡ padded 0 rc.col [] → lv ≡ padded zero64 rc.val [] → y ≡ padded zero64 n [] → Numbers (refuses (paper q))
    untiled q k ep ec ev ey =
        by_tiles (refuses (paper q)) (refused (paper q)) (refused_as (tile_answer m h (as_tile_room n₁ n₂ n₃ n₄ n₅)) (used_tiles (tiles_from m h)) (paper q) (sym (ap given k) ∙ e))
        (refl, (record { pointers = ep; columns = ec; values = ev }, ey))

    module _ (i j w : ℕ) (k : s ≡ Ok (as_tiles_size i j w)) where
      tiles_made : (tile_answer m h (as_tile_room n₁ n₂ n₃ n₄ n₅) ≡ accepted) × (as_tiles_size i j w ≡ used_tiles (tiles_from m h))
      tiles_made = gave (tile_answer m h (as_tile_room n₁ n₂ n₃ n₄ n₅)) (used_tiles (tiles_from m h)) (as_tiles_size i j w) (sym (ap given k) ∙ e)

      tiles_lent : as_tiles m.rows m.cols (take (m.rows + 1) op) (take i ob) (take i oo) (take i ok) (take j ov) w ≡ held
      unfolding tiled
      tiles_lent =
          let ei : i ≡ length (tiles_from m h).mask = ap (λ (u : TilesSize). u.tiles) tiles_made.1 in
          let ej : j ≡ length (tiles_from m h).vals = ap (λ (u : TilesSize). u.value_slots) tiles_made.1 in
          let ew : w ≡ (tiles_from m h).nnz = ap (λ (u : TilesSize). u.matrix_nnz) tiles_made.1 in
          let p = ap₂ (λ (u : ℕ) (l : List ℕ). take u l) (add-one m.rows) ls.pointers in
          let b = ap₂ (λ (u : ℕ) (l : List ℕ). take u l) ei ls.bits in
          let o = ap₂ (λ (u : ℕ) (l : List ℕ). take u l) ei ls.offsets in
          let q = ap₂ (λ (u : ℕ) (l : List ℕ). take u l) ei ls.metas in
          let v = ap₂ (λ (u : ℕ) (l : List Float). take u l) ej ls.values in
          λ d. as_tiles m.rows m.cols (p d) (b d) (o d) (q d) (v d) (ew d)

      pub tiled-number : (g : Given Float) (t : Tiles) → t ≡ as_tiles m.rows m.cols (take (m.rows + 1) op) (take i ob) (take i oo) (take i ok) (take j ov) w → g ≡ tile_list_number t a x r rc n
          → PlotLists (restrict_tiles_answer t a rc) (restricted_tiles t a) rc lp lc lv → y ≡ built zero64 n (restrict_tiles_answer t a rc and_then product_answer (restricted_tiles_left t a rc) x r n) (product (restricted_tiles_left t a rc) x) → Numbers g
      tiled-number g t et eg el ey =
          by_tiles g accepted tiles_made.0
          (subst (λ (u : Tiles). (g ≡ tile_list_number u a x r rc n) × (PlotLists (restrict_tiles_answer u a rc) (restricted_tiles u a) rc lp lc lv × (y ≡ built zero64 n (restrict_tiles_answer u a rc and_then product_answer (restricted_tiles_left u a rc) x r n) (product (restricted_tiles_left u a rc) x)))) (et ∙ tiles_lent) (eg, (el, ey)))

  -- the used parts lie in their lists
  module _ (i j w : ℕ) (k : s ≡ Ok (as_tiles_size i j w)) where
    pub record TilesUsed : Type 0 where
      pub rows_in : m.rows ≤ 2 ^ 20
      pub ptr_in : m.rows + 1 ≤ n₁
      pub mask_in : i ≤ n₂
      pub offset_in : i ≤ n₃
      pub meta_in : i ≤ n₄
      pub vals_in : j ≤ n₅

    pub tiles_used : TilesUsed
    unfolding tile_answer fits_tiles tiles_from tiles_of
    tiles_used =
        let t : Tiles = tiles_from m h in
        let b = gave (tile_answer m h (as_tile_room n₁ n₂ n₃ n₄ n₅)) (used_tiles t) (as_tiles_size i j w) (sym (ap given k) ∙ e) in
        let ei : i ≡ length t.mask = ap (λ (u : TilesSize). u.tiles) b.1 in
        let ej : j ≡ length t.vals = ap (λ (u : TilesSize). u.value_slots) b.1 in
        let ts : List Tile = joined (row_of m h) m.rows in
        let masks : length t.mask ≡ length ts = length-map ts (λ (e : Tile). e.mask) in
        let metas : length t.meta ≡ length ts = length-map ts (λ (e : Tile). e.meta) in
        let offsets : length t.offset ≡ length ts = laid_long 0 (map (λ (e : Tile). length e.slots) ts) ∙ length-map ts (λ (e : Tile). length e.slots) in
        let f₁ : Bool = leb (length t.ptr) n₁ in
        let f₂ : Bool = leb (length t.mask) n₂ in
        let f₃ : Bool = leb (length t.offset) n₃ in
        let f₄ : Bool = leb (length t.meta) n₄ in
        let f₅ : Bool = leb (length t.vals) n₅ in
        let last : Answer = demand (f₁ && f₂ && f₃ && f₄ && f₅) 13 in
        let list : csr_answer m ≡ accepted = then_first (csr_answer m) (threshold_answer h and_then last) b.0 in
        let fits : (f₁ && f₂ && f₃ && f₄ && f₅) ≡ true = demand_accepted _ 13 (then_second (threshold_answer h) last (then_second (csr_answer m) (threshold_answer h and_then last) b.0)) in
        let g₄ : (f₁ && f₂ && f₃ && f₄) ≡ true = and_left (f₁ && f₂ && f₃ && f₄) f₅ fits in
        let g₃ : (f₁ && f₂ && f₃) ≡ true = and_left (f₁ && f₂ && f₃) f₄ g₄ in
        let g₂ : (f₁ && f₂) ≡ true = and_left (f₁ && f₂) f₃ g₃ in
        record {
          rows_in = (valid m list).rows_in;
          ptr_in = omega (arith, leb-true (length t.ptr) n₁ (and_left f₁ f₂ g₂), length-starts (row_of m h) m.rows);
          mask_in = omega (arith, ei, leb-true (length t.mask) n₂ (and_right f₁ f₂ g₂));
          offset_in = omega (arith, ei, masks, offsets, leb-true (length t.offset) n₃ (and_right (f₁ && f₂) f₃ g₃));
          meta_in = omega (arith, ei, masks, metas, leb-true (length t.meta) n₄ (and_right (f₁ && f₂ && f₃) f₄ g₄));
          vals_in = omega (arith, ej, leb-true (length t.vals) n₅ (and_right (f₁ && f₂ && f₃ && f₄) f₅ fits));
        }
