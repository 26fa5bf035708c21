-- Laws of the public build: which lists are too short, and what each of its ends answers and leaves. Assumes nothing.
use Rattle.std.specs.Prelude.{Result, Ok, Err}
use mathlib.Core.Bool.{Bool, true, false, not, ◌&&◌}
use mathlib.Core.List.{List, [], ◌∷◌, ◌++◌, map, map-map}
use mathlib.Core.Path.{◌≡◌, refl, sym, ap, ap₂, ◌∙◌}
use Prim.Native.Nat.{ℕ, zero, suc, min, ◌+◌, ◌%◌, ◌^◌, ◌≤◌, ◌<◌}
use native.Mathlib.Nat.{mod-eq_of_lt}
use native.Mathlib.Numerals.{add-one}
use native.Mathlib.Omega.{arith}
use native.Mathlib.Decide.{dec_lt}
use borrow.Author.Tests.{le-leb, ltb-true, ltb-false}
use lib.Dec.{leb, ltb}
use lib.Ieee.{Float}
use lib.ListN.{length, take, drop, set, length-append, length-set, length-take, length-drop, length-map}
use lib.Seq.{take-append-le, take-suc-set}
use Rattle.hybit_core.specs.Answer.{Answer, accepted, refused, Told, demand, ◌and_then◌, Given, gives, refuses, answers}
use Rattle.hybit_core.specs.Floats.{zero64}
use Rattle.hybit_core.specs.Table.{paper, told}
use Rattle.hybit_core.specs.declared.HybitError.{HybitError}
use Rattle.hybit_core.specs.declared.HybitError.TheVariants.{ShortList}
use Rattle.hybit_core.proofs.BoolLaws.{and_both, not-both, and_first, and_second, is_above}
use Rattle.hybit_core.proofs.AnswerLaws.{accepted_by, refused_by, demand_accepted, then_first, then_second}
use Rattle.lent.specs.Lists.{joined, each, starts, spread}
use Rattle.lent.specs.Lent.{padded, built}
use Rattle.lent.proofs.ListLaws.{length-starts}
use Rattle.word.specs.Bits.{below, mask_of, words_of}
use Rattle.csr32.specs.Csr.{Csr, csr_answer, entries}
use Rattle.csr32.proofs.CsrLaws.{Valid, valid}
use Rattle.topology.specs.Words.{set_bits}
use Rattle.topology.proofs.TopologyLaws.{row_bits}
use Rattle.abtm.specs.declared.AbtmConfig.{AbtmConfig}
use Rattle.abtm_values.specs.Values.{is_zero, merged_nonzero}
use Rattle.abtm.specs.Tiles.{Tile, Tiles, tile_of, row_tiles_of, masks_of, slots_of, tiles_of}
use Rattle.abtm.specs.Calls.{threshold_answer}
use Rattle.abtm.proofs.PlaceLaws.{laid_long}
use Rattle.abtm_build.specs.declared.TilesSize.{TilesSize}
use Rattle.abtm_build.specs.Build.{tiles_from, TileRoom, as_tile_room, fits_tiles, before_answer, tile_answer, as_tiles_size, used_tiles}
use Rattle.abtm_build.specs.Written.{row_of, Held, Rows}
use Rattle.abtm_build.proofs.WroteLaws.{masks_append}
use Rattle.abtm_build.proofs.FewLaws.{tiles_few, slots_few_in}

-- what the call answers, and what its five lists hold
abbrev Outcome : Answer → Given TilesSize → Tiles → TileRoom → List ℕ → List ℕ → List ℕ → List ℕ → List Float → Type 0
Outcome a r t n op om oo ok ov =
    (r ≡ answers a (used_tiles t)) × ((op ≡ built 0 n.ptr a t.ptr) × ((om ≡ built 0 n.mask a t.mask) × ((oo ≡ built 0 n.offset a t.offset) × ((ok ≡ built 0 n.meta a t.meta) × (ov ≡ built zero64 n.vals a t.vals)))))

refusal : (a : Answer) (e : HybitError) (t : Tiles) (n : TileRoom) (op om oo ok : List ℕ) (ov : List Float) → a ≡ refused (paper e)
    → op ≡ padded 0 n.ptr [] → om ≡ padded 0 n.mask [] → oo ≡ padded 0 n.offset [] → ok ≡ padded 0 n.meta [] → ov ≡ padded zero64 n.vals []
    → Outcome a (refuses (paper e)) t n op om oo ok ov
refusal a e t n op om oo ok ov q x y z u w = rw q (refl, (x, (y, (z, (u, w)))))

success : (a : Answer) (t : Tiles) (i j k : ℕ) (n : TileRoom) (op om oo ok : List ℕ) (ov : List Float) → a ≡ accepted → i ≡ length t.mask → j ≡ length t.vals → k ≡ t.nnz
    → op ≡ padded 0 n.ptr t.ptr → om ≡ padded 0 n.mask t.mask → oo ≡ padded 0 n.offset t.offset → ok ≡ padded 0 n.meta t.meta → ov ≡ padded zero64 n.vals t.vals
    → Outcome a (gives (as_tiles_size i j k)) t n op om oo ok ov
success a t i j k n op om oo ok ov q ei ej ek x y z u w = rw q (λ s. gives (as_tiles_size (ei s) (ej s) (ek s)), (x, (y, (z, (u, w)))))

-- ---- the chain of checks

abbrev goes : Answer → Bool
goes accepted = true
goes (refused t) = false

last_refusal_lem : (x y : Bool) (n : ℕ) (t : Told) → (x ≡ false → y ≡ false) → demand x n ≡ refused t → demand y n ≡ refused t
last_refusal_lem true y n t h e = not-both true refl (ap goes e)
last_refusal_lem false y n t h e = ap (λ (b : Bool). demand b n) (h refl) ∙ e

chain_refusal : (a b c d : Answer) (t : Told) → (c ≡ refused t → d ≡ refused t) → a and_then b and_then c ≡ refused t → a and_then b and_then d ≡ refused t
chain_refusal accepted accepted c d t h e = h e
chain_refusal accepted (refused u) c d t h e = e
chain_refusal (refused u) b c d t h e = e

-- ---- the lists of the tiles

module _ (m : Csr) (h : AbtmConfig) where
  abbrev ts : List Tile
  ts = joined (row_of m h) m.rows

  ptr_long : length (tiles_from m h).ptr ≡ suc m.rows
  unfolding tiles_from tiles_of
  ptr_long = length-starts (row_of m h) m.rows

  mask_long : length (tiles_from m h).mask ≡ length ts
  unfolding tiles_from tiles_of
  mask_long = length-map ts (λ (e : Tile). e.mask)

  offset_long : length (tiles_from m h).offset ≡ length ts
  unfolding tiles_from tiles_of
  offset_long = laid_long 0 (map (λ (e : Tile). length e.slots) ts) ∙ length-map ts (λ (e : Tile). length e.slots)

  meta_long : length (tiles_from m h).meta ≡ length ts
  unfolding tiles_from tiles_of
  meta_long = length-map ts (λ (e : Tile). e.meta)

  vals_long : length (tiles_from m h).vals ≡ length (slots_of ts)
  unfolding tiles_from tiles_of
  vals_long = refl

  row_nnz : (r : ℕ) → set_bits (masks_of (row_of m h r)) ≡ length (below (λ c. not (is_zero (merged_nonzero (entries m r) c))) m.cols)
  unfolding row_tiles_of tile_of
  row_nnz r =
      let v : ℕ → Float = merged_nonzero (entries m r) in
      let p : ℕ → Bool = λ c. not (is_zero (v c)) in
      ap set_bits (map-map (λ (e : Tile). e.mask) (λ w. tile_of h v (mask_of p m.cols w) w) (words_of p m.cols)) ∙ row_bits p m.cols

  nnz_rows : (n : ℕ) → set_bits (masks_of (joined (row_of m h) n)) ≡ length (joined (λ r. below (λ c. not (is_zero (merged_nonzero (entries m r) c))) m.cols) n)
  unfolding joined set_bits spread
  nnz_rows zero = refl
  nnz_rows (suc n) =
      let q : ℕ → List ℕ = λ r. below (λ c. not (is_zero (merged_nonzero (entries m r) c))) m.cols in
      omega (arith, masks_append (joined (row_of m h) n) (row_of m h n), nnz_rows n, row_nnz n, length-append (joined q n) (q n))

  nnz_is : set_bits (masks_of ts) ≡ (tiles_from m h).nnz
  unfolding tiles_from tiles_of
  nnz_is = nnz_rows m.rows

  module _ (np nm nf nk nv : ℕ) where
    abbrev fitting : Bool
    fitting = fits_tiles (tiles_from m h) (as_tile_room np nm nf nk nv)

    no_pointers : np ≤ m.rows → fitting ≡ false
    unfolding fits_tiles
    no_pointers l =
        let t : Tiles = tiles_from m h in
        sym (and_first (leb (length t.ptr) np && leb (length t.mask) nm && leb (length t.offset) nf && leb (length t.meta) nk) (leb (length t.vals) nv)
        (and_first (leb (length t.ptr) np && leb (length t.mask) nm && leb (length t.offset) nf) (leb (length t.meta) nk)
        (and_first (leb (length t.ptr) np && leb (length t.mask) nm) (leb (length t.offset) nf)
        (and_first (leb (length t.ptr) np) (leb (length t.mask) nm) (is_above (length t.ptr) np (omega (arith, ptr_long)))))))

    no_tiles : (min (min nm nf) nk) < length ts → fitting ≡ false
    unfolding fits_tiles
    no_tiles l = first (dec_lt nm (length ts)) (dec_lt nf (length ts))
      where
        first : Dec (nm < length ts) → Dec (nf < length ts) → fitting ≡ false
        first (yes d) o =
            let t : Tiles = tiles_from m h in
            sym (and_first (leb (length t.ptr) np && leb (length t.mask) nm && leb (length t.offset) nf && leb (length t.meta) nk) (leb (length t.vals) nv)
            (and_first (leb (length t.ptr) np && leb (length t.mask) nm && leb (length t.offset) nf) (leb (length t.meta) nk)
            (and_first (leb (length t.ptr) np && leb (length t.mask) nm) (leb (length t.offset) nf)
            (and_second (leb (length t.ptr) np) (leb (length t.mask) nm) (is_above (length t.mask) nm (omega (arith, mask_long)))))))
        first (no d) (yes o) =
            let t : Tiles = tiles_from m h in
            sym (and_first (leb (length t.ptr) np && leb (length t.mask) nm && leb (length t.offset) nf && leb (length t.meta) nk) (leb (length t.vals) nv)
            (and_first (leb (length t.ptr) np && leb (length t.mask) nm && leb (length t.offset) nf) (leb (length t.meta) nk)
            (and_second (leb (length t.ptr) np && leb (length t.mask) nm) (leb (length t.offset) nf) (is_above (length t.offset) nf (omega (arith, offset_long))))))
        first (no d) (no o) =
            let t : Tiles = tiles_from m h in
            sym (and_first (leb (length t.ptr) np && leb (length t.mask) nm && leb (length t.offset) nf && leb (length t.meta) nk) (leb (length t.vals) nv)
            (and_second (leb (length t.ptr) np && leb (length t.mask) nm && leb (length t.offset) nf) (leb (length t.meta) nk) (is_above (length t.meta) nk (omega (arith, meta_long)))))

    no_slots : nv < length (slots_of ts) → fitting ≡ false
    unfolding fits_tiles
    no_slots l =
        let t : Tiles = tiles_from m h in
        sym (and_second (leb (length t.ptr) np && leb (length t.mask) nm && leb (length t.offset) nf && leb (length t.meta) nk) (leb (length t.vals) nv) (is_above (length t.vals) nv (omega (arith, vals_long))))

    has_room : m.rows < np → length ts ≤ nm → length ts ≤ nf → length ts ≤ nk → length (slots_of ts) ≤ nv → fitting ≡ true
    unfolding fits_tiles
    has_room a b c d e =
        let t : Tiles = tiles_from m h in
        and_both (leb (length t.ptr) np && leb (length t.mask) nm && leb (length t.offset) nf && leb (length t.meta) nk) (leb (length t.vals) nv)
        (and_both (leb (length t.ptr) np && leb (length t.mask) nm && leb (length t.offset) nf) (leb (length t.meta) nk)
        (and_both (leb (length t.ptr) np && leb (length t.mask) nm) (leb (length t.offset) nf)
        (and_both (leb (length t.ptr) np) (leb (length t.mask) nm) (le-leb (length t.ptr) np (omega (arith, ptr_long))) (le-leb (length t.mask) nm (omega (arith, mask_long))))
        (le-leb (length t.offset) nf (omega (arith, offset_long))))
        (le-leb (length t.meta) nk (omega (arith, meta_long))))
        (le-leb (length t.vals) nv (omega (arith, vals_long)))

-- ---- after the checks that need no build, which gave the verdict v

module _ (m : Csr) (h : AbtmConfig) (op om oo ok : List ℕ) (ov : List Float) (v : Result Unit HybitError) (t : told v ≡ before_answer m h (length op)) where
  abbrev room : TileRoom
  room = as_tile_room (length op) (length om) (length oo) (length ok) (length ov)

  abbrev whole : Answer
  whole = tile_answer m h room

  pub from_refused : (op2 om2 oo2 ok2 : List ℕ) (ov2 : List Float) (e : HybitError) → v ≡ Err e
      → op2 ≡ padded 0 (length op) [] → om2 ≡ padded 0 (length om) [] → oo2 ≡ padded 0 (length oo) [] → ok2 ≡ padded 0 (length ok) [] → ov2 ≡ padded zero64 (length ov) []
      → Outcome whole (refuses (paper e)) (tiles_from m h) room op2 om2 oo2 ok2 ov2
  unfolding tile_answer before_answer
  from_refused op2 om2 oo2 ok2 ov2 e k =
      refusal whole e (tiles_from m h) room op2 om2 oo2 ok2 ov2
      (chain_refusal (csr_answer m) (threshold_answer h) (demand (ltb m.rows (length op)) 13) (demand (fits_tiles (tiles_from m h) room) 13) (paper e)
      (last_refusal_lem (ltb m.rows (length op)) (fits_tiles (tiles_from m h) room) 13 (paper e) (λ f. no_pointers m h (length op) (length om) (length oo) (length ok) (length ov) (ltb-false m.rows (length op) f)))
      (refused_by (before_answer m h (length op)) v e t k))

  module _ (k : v ≡ Ok tt) where
    before : before_answer m h (length op) ≡ accepted
    before = accepted_by (before_answer m h (length op)) v t k

    pub list_accepted : csr_answer m ≡ accepted
    unfolding before_answer
    list_accepted = then_first (csr_answer m) (threshold_answer h and_then demand (ltb m.rows (length op)) 13) before

    rest : threshold_answer h and_then demand (ltb m.rows (length op)) 13 ≡ accepted
    unfolding before_answer
    rest = then_second (csr_answer m) (threshold_answer h and_then demand (ltb m.rows (length op)) 13) before

    pub pointers_fit : m.rows < length op
    pointers_fit = ltb-true m.rows (length op) (demand_accepted (ltb m.rows (length op)) 13 (then_second (threshold_answer h) (demand (ltb m.rows (length op)) 13) rest))

    pub good : Valid m
    good = valid m list_accepted

    decides : (b : Bool) → fits_tiles (tiles_from m h) room ≡ b → whole ≡ demand b 13
    unfolding tile_answer
    decides b e =
        ap₂ (λ (x y : Answer). x and_then y and_then demand (fits_tiles (tiles_from m h) room) 13) list_accepted (then_first (threshold_answer h) (demand (ltb m.rows (length op)) 13) rest)
        ∙ ap (λ (x : Bool). demand x 13) e

    -- the rows are written to the fronts of the lists, of `some` and `many` places
    module _ (tiles slots : ℕ) (et : tiles ≡ min (min (length om) (length oo)) (min (length ok) (2 ^ 24))) (es : slots ≡ min (length ov) (2 ^ 30)) (at : TilesSize) (op1 om1 oo1 ok1 : List ℕ) (ov1 : List Float)
        (f : Rows (row_of m h) m.rows at op1 om1 oo1 ok1 ov1) (lp : length op1 ≡ length op) (lm : length om1 ≡ length (take tiles om)) (lo : length oo1 ≡ length (take tiles oo)) (lk : length ok1 ≡ length (take tiles ok)) (lv : length ov1 ≡ length (take slots ov)) where
      masks_room : length om1 ≡ tiles
      masks_room = omega (arith, length-take tiles om)

      offsets_room : length oo1 ≡ tiles
      offsets_room = omega (arith, length-take tiles oo)

      metas_room : length ok1 ≡ tiles
      metas_room = omega (arith, length-take tiles ok)

      vals-room : length ov1 ≡ slots
      vals-room = omega (arith, length-take slots ov)

      masks_same : length (om1 ++ drop tiles om) ≡ length om
      masks_same = omega (arith, length-append om1 (drop tiles om), length-drop tiles om, masks_room)

      offsets_same : length (oo1 ++ drop tiles oo) ≡ length oo
      offsets_same = omega (arith, length-append oo1 (drop tiles oo), length-drop tiles oo, offsets_room)

      metas_same : length (ok1 ++ drop tiles ok) ≡ length ok
      metas_same = omega (arith, length-append ok1 (drop tiles ok), length-drop tiles ok, metas_room)

      vals_same : length (ov1 ++ drop slots ov) ≡ length ov
      vals_same = omega (arith, length-append ov1 (drop slots ov), length-drop slots ov, vals-room)

      short : (op2 om2 oo2 ok2 : List ℕ) (ov2 : List Float) → fits_tiles (tiles_from m h) room ≡ false → op2 ≡ padded 0 (length op1) [] → om2 ≡ padded 0 (length (om1 ++ drop tiles om)) []
          → oo2 ≡ padded 0 (length (oo1 ++ drop tiles oo)) [] → ok2 ≡ padded 0 (length (ok1 ++ drop tiles ok)) [] → ov2 ≡ padded zero64 (length (ov1 ++ drop slots ov)) []
          → Outcome whole (refuses (paper ShortList)) (tiles_from m h) room op2 om2 oo2 ok2 ov2
      short op2 om2 oo2 ok2 ov2 b x y z u w =
          refusal whole ShortList (tiles_from m h) room op2 om2 oo2 ok2 ov2 (decides false b)
          (x ∙ ap (λ (i : ℕ). padded 0 i []) lp) (y ∙ ap (λ (i : ℕ). padded 0 i []) masks_same) (z ∙ ap (λ (i : ℕ). padded 0 i []) offsets_same) (u ∙ ap (λ (i : ℕ). padded 0 i []) metas_same)
          (w ∙ ap (λ (i : ℕ). padded zero64 i []) vals_same)

      pub from_few_tiles : (op2 om2 oo2 ok2 : List ℕ) (ov2 : List Float) → tiles < at.tiles → op2 ≡ padded 0 (length op1) [] → om2 ≡ padded 0 (length (om1 ++ drop tiles om)) []
          → oo2 ≡ padded 0 (length (oo1 ++ drop tiles oo)) [] → ok2 ≡ padded 0 (length (ok1 ++ drop tiles ok)) [] → ov2 ≡ padded zero64 (length (ov1 ++ drop slots ov)) []
          → Outcome whole (refuses (paper ShortList)) (tiles_from m h) room op2 om2 oo2 ok2 ov2
      from_few_tiles op2 om2 oo2 ok2 ov2 l =
          short op2 om2 oo2 ok2 ov2 (no_tiles m h (length op) (length om) (length oo) (length ok) (length ov) (omega (arith, f.tiles_are, tiles_few m h good)))

      pub from_few_slots : (op2 om2 oo2 ok2 : List ℕ) (ov2 : List Float) → slots < at.value_slots → op2 ≡ padded 0 (length op1) [] → om2 ≡ padded 0 (length (om1 ++ drop tiles om)) []
          → oo2 ≡ padded 0 (length (oo1 ++ drop tiles oo)) [] → ok2 ≡ padded 0 (length (ok1 ++ drop tiles ok)) [] → ov2 ≡ padded zero64 (length (ov1 ++ drop slots ov)) []
          → Outcome whole (refuses (paper ShortList)) (tiles_from m h) room op2 om2 oo2 ok2 ov2
      from_few_slots op2 om2 oo2 ok2 ov2 l =
          short op2 om2 oo2 ok2 ov2 (no_slots m h (length op) (length om) (length oo) (length ok) (length ov) (omega (arith, f.slots_are, slots_few_in m h good)))

      module _ (l : at.tiles ≤ tiles) (g : at.value_slots ≤ slots) where
        held : Held (row_of m h) m.rows at op1 om1 oo1 ok1 ov1
        held = f.fits (omega (arith, masks_room)) (omega (arith, vals-room))

        starts_are : (w : ℕ) → w ≡ at.tiles % 2 ^ 32 → take (m.rows + 1) (set op1 m.rows w) ≡ (tiles_from m h).ptr
        unfolding tiles_from tiles_of starts each joined
        starts_are w e =
            let i : w ≡ length (joined (row_of m h) m.rows) = e ∙ mod-eq_of_lt (omega (arith, f.tiles_are, tiles_few m h good)) ∙ f.tiles_are in
            ap (λ (n : ℕ). take n (set op1 m.rows w)) (add-one m.rows) ∙ take-suc-set op1 m.rows w (omega (arith, pointers_fit)) ∙ ap₂ (λ (s : List ℕ) (x : ℕ). s ++ x ∷ []) held.starts_are i

        masks_are : take at.tiles (om1 ++ drop tiles om) ≡ (tiles_from m h).mask
        unfolding tiles_from tiles_of
        masks_are = take-append-le at.tiles om1 (drop tiles om) (omega (arith, masks_room)) ∙ held.masks_are

        offsets_are : take at.tiles (oo1 ++ drop tiles oo) ≡ (tiles_from m h).offset
        unfolding tiles_from tiles_of
        offsets_are = take-append-le at.tiles oo1 (drop tiles oo) (omega (arith, offsets_room)) ∙ held.offsets_are

        metas_are : take at.tiles (ok1 ++ drop tiles ok) ≡ (tiles_from m h).meta
        unfolding tiles_from tiles_of
        metas_are = take-append-le at.tiles ok1 (drop tiles ok) (omega (arith, metas_room)) ∙ held.metas_are

        vals_are : take at.value_slots (ov1 ++ drop slots ov) ≡ (tiles_from m h).vals
        unfolding tiles_from tiles_of
        vals_are = take-append-le at.value_slots ov1 (drop slots ov) (omega (arith, vals-room)) ∙ held.vals_are

        pub from-built : (op2 om2 oo2 ok2 : List ℕ) (ov2 : List Float) (w : ℕ) → w ≡ at.tiles % 2 ^ 32
            → op2 ≡ padded 0 (length (set op1 m.rows w)) (take (m.rows + 1) (set op1 m.rows w)) → om2 ≡ padded 0 (length (om1 ++ drop tiles om)) (take at.tiles (om1 ++ drop tiles om))
            → oo2 ≡ padded 0 (length (oo1 ++ drop tiles oo)) (take at.tiles (oo1 ++ drop tiles oo)) → ok2 ≡ padded 0 (length (ok1 ++ drop tiles ok)) (take at.tiles (ok1 ++ drop tiles ok))
            → ov2 ≡ padded zero64 (length (ov1 ++ drop slots ov)) (take at.value_slots (ov1 ++ drop slots ov))
            → Outcome whole (gives (as_tiles_size at.tiles at.value_slots at.matrix_nnz)) (tiles_from m h) room op2 om2 oo2 ok2 ov2
        from-built op2 om2 oo2 ok2 ov2 w ew x y z u q =
            success whole (tiles_from m h) at.tiles at.value_slots at.matrix_nnz room op2 om2 oo2 ok2 ov2
            (decides true (has_room m h (length op) (length om) (length oo) (length ok) (length ov) pointers_fit (omega (arith, f.tiles_are)) (omega (arith, f.tiles_are)) (omega (arith, f.tiles_are)) (omega (arith, f.slots_are))))
            (f.tiles_are ∙ sym (mask_long m h)) (f.slots_are ∙ sym (vals_long m h)) (f.nnz_are ∙ nnz_is m h)
            (x ∙ ap₂ (λ (i : ℕ) (s : List ℕ). padded 0 i s) (length-set op1 m.rows w ∙ lp) (starts_are w ew))
            (y ∙ ap₂ (λ (i : ℕ) (s : List ℕ). padded 0 i s) masks_same masks_are)
            (z ∙ ap₂ (λ (i : ℕ) (s : List ℕ). padded 0 i s) offsets_same offsets_are)
            (u ∙ ap₂ (λ (i : ℕ) (s : List ℕ). padded 0 i s) metas_same metas_are)
            (q ∙ ap₂ (λ (i : ℕ) (s : List Float). padded zero64 i s) vals_same vals_are)
