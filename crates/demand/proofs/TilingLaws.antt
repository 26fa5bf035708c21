-- Tiles of a packable plot list, restricted to the active columns: no call is refused, and where no stored or merged active value of a
-- row is zero, its row product is the number of demand 2. Assumes nothing.
use mathlib.Core.Bool.{Bool, true, not, ◌&&◌}
use mathlib.Core.List.{List, map}
use mathlib.Core.Path.{◌≡◌, refl, sym, ap, ◌∙◌}
use Prim.Native.Nat.{ℕ, suc, ◌^◌, ◌≤◌, ◌<◌}
use native.Mathlib.Omega.{arith}
use lib.Dec.{ltb, eqb}
use lib.ListN.{length, get_or, length-map}
use lib.Ieee.{Float, nan, binary64, add, mul}
use borrow.Author.Tests.{lt-ltb, le-leb, eq-eqb}
use Rattle.hybit_core.specs.Answer.{accepted, demand}
use Rattle.hybit_core.specs.Domain.{few, many}
use Rattle.hybit_core.specs.Floats.{zero64, finite}
use Rattle.hybit_core.proofs.BoolLaws.{and_left, and_right, and_both, same_test}
use Rattle.hybit_core.proofs.AnswerLaws.{demand_accepted, then_first, then_second}
use Rattle.lent.specs.Lists.{joined, every}
use Rattle.lent.proofs.ListLaws.{get_or-each, joined-le, every_map, only-map, foldl-map, length-starts}
use Rattle.lent.proofs.LentLaws.{handed_used}
use Rattle.word.specs.Bits.{below, both}
use Rattle.word.proofs.BelowLaws.{length-below-parts}
use Rattle.word.proofs.BitLaws.{every-below, every-below-at}
use Rattle.word.proofs.WordLaws.{below-only}
use Rattle.mask.specs.Mask.{Mask, active, mask_rules}
use Rattle.csr32.specs.Csr.{Csr, Entry, entries, present, merged, at, row_product, csr_answer, apply_answer, product}
use Rattle.csr32.specs.Made.{entries_in, csr_of, CsrRoom, fits_csr}
use Rattle.csr32.proofs.MadeLaws.{entries_of, good_values, made_values, made_accepted, left_is}
use Rattle.metadata_first.specs.Dot.{sum_over, dot_of, three_of, demanded, Three}
use Rattle.metadata_first.proofs.DotLaws.{three_cong}
use Rattle.metadata_first_build.specs.Pack.{wanted}
use Rattle.abtm.specs.declared.AbtmConfig.{AbtmConfig}
use Rattle.abtm_values.specs.Values.{is_zero, merged_nonzero}
use Rattle.abtm.specs.Tiles.{Tile, Tiles, tiles_of, tile_sizes, tiles_rules, tiles_answer, tile_entries, threshold_rules, row_tiles_of}
use Rattle.abtm.specs.Calls.{threshold_answer}
use Rattle.abtm.proofs.PlaceLaws.{laid_long}
use Rattle.abtm_build.specs.Build.{TileRoom, tiles_from, fits_tiles, tile_answer, tiled}
use Rattle.abtm_build.proofs.BuiltLaws.{built_accepted, built-entries}
use Rattle.abtm_build.proofs.FewLaws.{nonzero-few}
use Rattle.restricted.specs.Restricted.{restricted_tiles, restrict_tiles_answer, restricted_tiles_left}
use Rattle.demand.specs.Demand.{NoZero, Tiling}
use Rattle.demand.proofs.OnlyLaws.{merged-nonzero, nonzero-present}
use Rattle.demand.proofs.ZeroSumLaws.{finite-nonzero}
use Rattle.metadata_first_merge.proofs.MergeLaws.{Packable}
use Rattle.demand.proofs.PackedLaws.{is_valid, entries-few, merged-at}

-- ---- what an accepted build of tiles hands on is the tiles

pub tiled_is : (m : Csr) (h : AbtmConfig) (room : TileRoom) → tile_answer m h room ≡ accepted → tiled m h room ≡ tiles_from m h
unfolding tiled tiles_from tiles_of
tiled_is m h room e =
    let t : Tiles = tiles_from m h in
    let row : ℕ → List Tile = λ r. row_tiles_of h m.cols (λ c. not (is_zero (merged_nonzero (entries m r) c))) (merged_nonzero (entries m r)) in
    let ts : List Tile = joined row m.rows in
    let masks : length t.mask ≡ length ts = length-map ts (λ (e : Tile). e.mask) in
    let metas : length t.meta ≡ length t.mask = length-map ts (λ (e : Tile). e.meta) ∙ sym masks in
    let offsets : length t.offset ≡ length t.mask = laid_long 0 (map (λ (e : Tile). length e.slots) ts) ∙ length-map ts (λ (e : Tile). length e.slots) ∙ sym masks in
    let ptr = handed_used 0 room.ptr (tile_answer m h room) (suc m.rows) t.ptr e (length-starts row m.rows) in
    let mask = handed_used 0 room.mask (tile_answer m h room) (length t.mask) t.mask e refl in
    let offset = handed_used 0 room.offset (tile_answer m h room) (length t.mask) t.offset e offsets in
    let meta = handed_used 0 room.meta (tile_answer m h room) (length t.mask) t.meta e metas in
    let vals = handed_used zero64 room.vals (tile_answer m h room) (length t.vals) t.vals e refl in
    λ i. record { rows = m.rows; cols = m.cols; ptr = ptr i; mask = mask i; offset = offset i; meta = meta i; vals = vals i; nnz = t.nnz }

-- ---- restricting from tiles that `check` accepts

restrict_says : (t : Tiles) (a : Mask) (rc : CsrRoom) → tiles_answer t ≡ accepted → few a.size ≡ true → mask_rules a ≡ true → a.size ≡ t.cols
    → every finite (restricted_tiles t a).val ≡ true → many (length (restricted_tiles t a).val) ≡ true → restrict_tiles_answer t a rc ≡ demand (fits_csr (restricted_tiles t a) rc) 13
unfolding restrict_tiles_answer tiles_answer
restrict_says t a rc e s va la vs n =
    let one : (few a.size && tile_sizes t) ≡ true = and_both (few a.size) (tile_sizes t) s (demand_accepted (tile_sizes t) 1 (then_first (demand (tile_sizes t) 1) (demand (tiles_rules t) 12) e)) in
    let twelve : tiles_rules t ≡ true = demand_accepted (tiles_rules t) 12 (then_second (demand (tile_sizes t) 1) (demand (tiles_rules t) 12) e) in
    let six : eqb a.size t.cols ≡ true = eq-eqb a.size t.cols la in
    rw (one, twelve, va, six, vs, n)

-- ---- a row that is restricted from tiles

product_of_columns : (l : List ℕ) (v : ℕ → Float) (x : List Float) → row_product (map (λ c. (c, v c)) l) x ≡ sum_over l v (at x)
unfolding row_product sum_over
product_of_columns l v x = foldl-map (λ (s : Float) (e : Entry). add binary64 s (mul binary64 e.1 (at x e.0))) (λ c. (c, v c)) zero64 l

module _ (m : Csr) (k : Packable m) (a : Mask) (t : AbtmConfig) where
  -- the value of a column in the tiles; the columns that have one
  abbrev value : ℕ → ℕ → Float
  value r = merged_nonzero (entries m r)

  abbrev solid_at : ℕ → ℕ → Bool
  solid_at r c = not (is_zero (value r c))

  abbrev cut : ℕ → List Entry
  cut r = entries_in (active a) (tile_entries (tiles_from m t) r)

  cut_is : (r : ℕ) → r < m.rows → cut r ≡ map (λ c. (c, value r c)) (below (both (solid_at r) (active a)) m.cols)
  cut_is r h =
      ap (entries_in (active a)) (built-entries m t k.list r h) ∙ only-map (λ (e : Entry). active a e.0) (λ c. (c, value r c)) (below (solid_at r) m.cols)
      ∙ ap (map (λ c. (c, value r c))) (sym (below-only (solid_at r) (active a) m.cols))

  -- a value in the tiles is finite, for packing found the merged value finite
  value-finite : (r c : ℕ) → r < m.rows → c < m.cols → solid_at r c ≡ true → finite (value r c) ≡ true
  value-finite r c h l e = finite-nonzero (entries m r) c ∙ merged-at m k r c h l (nonzero-present (entries m r) c e)

  cut-good : (r : ℕ) → r < m.rows → every (λ (e : Entry). ltb e.0 m.cols && finite e.1) (cut r) ≡ true
  cut-good r h =
      let good : Entry → Bool = λ (e : Entry). ltb e.0 m.cols && finite e.1 in
      ap (every good) (cut_is r h) ∙ every_map good (λ c. (c, value r c)) (below (both (solid_at r) (active a)) m.cols)
      ∙ every-below (λ c. ltb c m.cols && finite (value r c)) (both (solid_at r) (active a)) m.cols
      (λ c l e. and_both (ltb c m.cols) (finite (value r c)) (lt-ltb c m.cols l) (value-finite r c h l (and_left (solid_at r c) (active a c) e)))

  cut-few : length (joined cut m.rows) ≤ 2 ^ 24
  cut-few = omega (arith, entries-few m k, joined-le cut (entries m) m.rows row_few)
    where
      row_few : (r : ℕ) → r < m.rows → length (cut r) ≤ length (entries m r)
      row_few r h =
          omega (
            arith,
            ap length (cut_is r h),
            length-map {B = Entry} (below (both (solid_at r) (active a)) m.cols) (λ c. (c, value r c)),
            length-below-parts (solid_at r) (active a) m.cols,
            nonzero-few (entries m r) m.cols,
          )

  -- ---- the calls

  abbrev left : Csr
  left = restricted_tiles (tiles_from m t) a

  left_list : csr_answer left ≡ accepted
  unfolding restricted_tiles tiles_from tiles_of
  left_list = made_accepted m.rows m.cols cut cut-good (is_valid m k).rows_in (is_valid m k).cols_in cut-few

  left-finite : every finite left.val ≡ true
  unfolding restricted_tiles tiles_from tiles_of
  left-finite = good_values m.rows m.cols cut cut-good

  left-many : many (length left.val) ≡ true
  unfolding restricted_tiles tiles_from tiles_of
  left-many = le-leb (length left.val) (2 ^ 24) (omega (arith, made_values m.rows m.cols cut, cut-few))

  pub apply_accepted : (x : List Float) → length x ≡ m.cols → apply_answer left x m.rows ≡ accepted
  unfolding apply_answer restricted_tiles csr_of tiles_from tiles_of
  apply_accepted x lx =
      let six : eqb (length x) m.cols ≡ true = eq-eqb (length x) m.cols lx in
      let rows : eqb m.rows m.rows ≡ true = eq-eqb m.rows m.rows refl in
      rw (left_list, six, rows)

  pub build_accepted : (rt : TileRoom) → threshold_rules t ≡ true → fits_tiles (tiles_from m t) rt ≡ true → tile_answer m t rt ≡ accepted
  unfolding tile_answer threshold_answer
  build_accepted rt ht ft = rw (k.list, ht, ft)

  pub left_is_list : (rc : CsrRoom) → restrict_tiles_answer (tiles_from m t) a rc ≡ accepted → restricted_tiles_left (tiles_from m t) a rc ≡ left
  unfolding restricted_tiles
  left_is_list rc e = left_is (tiles_from m t).rows (tiles_from m t).cols cut (restrict_tiles_answer (tiles_from m t) a rc) rc e

  -- ---- the number

  module _ (r : ℕ) (z : NoZero m a r) where
    same_value : (c : ℕ) → active a c ≡ true → value r c ≡ merged (entries m r) c
    same_value c e = merged-nonzero (active a) (entries m r) c z.stored e

    -- an active column has a tile entry exactly where it has an entry
    same_columns : (c : ℕ) → c < m.cols → both (solid_at r) (active a) c ≡ both (present (entries m r)) (active a) c
    same_columns c l =
        let p : Bool = present (entries m r) c in
        same_test (solid_at r c && active a c) (p && active a c)
        (λ e. and_both p (active a c) (nonzero-present (entries m r) c (and_left (solid_at r c) (active a c) e)) (and_right (solid_at r c) (active a c) e))
        (λ e. and_both (solid_at r c) (active a c)
        (ap (λ (v : Float). not (is_zero v)) (same_value c (and_right p (active a c) e)) ∙ every-below-at (λ c. not (is_zero (merged (entries m r) c))) (both (present (entries m r)) (active a)) m.cols c z.merging l e)
        (and_right p (active a c) e))

    row_number : (x : List Float) → r < m.rows → row_product (cut r) x ≡ (wanted m a x r).number
    unfolding demanded three_of dot_of
    row_number x h =
        ap (λ (es : List Entry). row_product es x) (cut_is r h)
        ∙ product_of_columns (below (both (solid_at r) (active a)) m.cols) (value r) x
        ∙ ap (λ (w : Three). w.number)
        (three_cong m.cols (solid_at r) (present (entries m r)) (active a) (active a) (value r) (merged (entries m r)) (at x) (at x)
        same_columns (λ c l e. same_value c (and_right (solid_at r c) (active a c) e)) (λ c l e. refl))

    pub left-number : (x : List Float) → r < m.rows → get_or (product left x) r nan ≡ (wanted m a x r).number
    unfolding product restricted_tiles csr_of tiles_from tiles_of
    left-number x h =
        get_or-each (λ q. row_product (entries left q) x) m.rows r nan h
        ∙ ap (λ (es : List Entry). row_product es x) (entries_of m.rows m.cols cut r h)
        ∙ row_number x h

  -- ---- the route

  module _ (va : mask_rules a ≡ true) (la : a.size ≡ m.cols) (x : List Float) (r : ℕ) (lx : length x ≡ m.cols) (h : r < m.rows) where
    -- only 13 can be said
    pub cut_says : (rc : CsrRoom) → restrict_tiles_answer (tiles_from m t) a rc ≡ demand (fits_csr left rc) 13
    unfolding tiles_from tiles_of
    cut_says rc = restrict_says (tiles_from m t) a rc (built_accepted m t k.list) (le-leb a.size (2 ^ 20) (omega (arith, (is_valid m k).cols_in))) va la left-finite left-many

    pub tiling : (rt : TileRoom) (rc : CsrRoom) → threshold_rules t ≡ true → fits_tiles (tiles_from m t) rt ≡ true → fits_csr (restricted_tiles (tiled m t rt) a) rc ≡ true → Tiling m a x r t rt rc
    tiling rt rc ht ft fc =
        let b : tile_answer m t rt ≡ accepted = build_accepted rt ht ft in
        let s : tiled m t rt ≡ tiles_from m t = tiled_is m t rt b in
        let g : restrict_tiles_answer (tiles_from m t) a rc ≡ accepted = cut_says rc ∙ ap (λ (b : Bool). demand b 13) (sym (ap (λ (s : Tiles). fits_csr (restricted_tiles s a) rc) s) ∙ fc) in
        let l : restricted_tiles_left (tiled m t rt) a rc ≡ left = ap (λ (s : Tiles). restricted_tiles_left s a rc) s ∙ left_is_list rc g in
        record {
          build_accepted = b;
          restrict_accepted = ap (λ (s : Tiles). restrict_tiles_answer s a rc) s ∙ g;
          product_accepted = ap (λ (n : Csr). apply_answer n x m.rows) l ∙ apply_accepted x lx;
          number = λ z. ap (λ (n : Csr). get_or (product n x) r nan) l ∙ left-number r z x h;
        }
