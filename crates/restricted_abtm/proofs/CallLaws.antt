-- The checks at each return of the code, and what a call answers. Assumes nothing.
use Rattle.std.specs.Prelude.{Result, Ok, Err}
use mathlib.Core.Bool.{Bool, true, false, not, ◌&&◌}
use mathlib.Core.List.{List, [], zip}
use mathlib.Core.Path.{◌≡◌, refl, sym, ap, ◌∙◌}
use Prim.Native.Nat.{ℕ, ◌+◌, ◌≤◌, ◌<◌, ◌^◌, min}
use native.Mathlib.Numerals.{add-one}
use native.Mathlib.Omega.{arith}
use lib.Dec.{leb, ltb}
use lib.ListN.{length, get_or, take}
use lib.Ieee.{Float}
use borrow.Author.Tests.{leb-true}
use Rattle.hybit_core.specs.Answer.{Answer, accepted, refused, gives, refuses, answers, plain, lengths_differ, demand, length_is, ◌and_then◌}
use Rattle.hybit_core.specs.Domain.{few, many}
use Rattle.hybit_core.specs.Floats.{finite}
use Rattle.hybit_core.specs.Table.{paper, told, given}
use Rattle.hybit_core.specs.declared.HybitError.{HybitError}
use Rattle.hybit_core.proofs.BoolLaws.{and_first, and-next, and_left, and_right, flag_on, flag_off, is_within}
use Rattle.hybit_core.proofs.AnswerLaws.{demand_accepted, accepted_by, then_second, test_fails, test_passes, last_fails, last_passes, last_length_wrong, last_length_right, call_refused, call_accepted, by_records}
use Rattle.lent.specs.Lists.{joined, every}
use Rattle.lent.specs.Lent.{Appended, padded}
use Rattle.lent.proofs.ListLaws.{every_map}
use Rattle.mask.specs.Mask.{Mask, as_mask, mask_rules, mask_answer}
use Rattle.mask.proofs.MaskLaws.{Valid}
use Rattle.csr32.specs.Csr.{Csr, Entry}
use Rattle.csr32.specs.Made.{csr_of, CsrRoom, as_csr_room, fits_csr}
use Rattle.csr32.proofs.MadeLaws.{made_columns, made_values, made_pointers, below_is}
use Rattle.abtm.specs.Tiles.{Tiles, tile_sizes, tiles_rules, tiles_answer, listed_tiles}
use Rattle.abtm_check.proofs.TilesLaws.{AcceptedTiles}
use Rattle.restricted.specs.declared.ColumnRestriction.{ColumnRestriction}
use Rattle.restricted.specs.Restricted.{restricted_tiles, restrict_tiles_answer, tile_restriction_of}
use Rattle.restricted_abtm.specs.Kept.{kept_all, kept_answer, tile_ready, records_answer, last_answer}
use Rattle.restricted_abtm.proofs.EntryLaws.{row_kept, all-kept, all_ready}
use Rattle.restricted_abtm.proofs.FillLaws.{facts}

-- ---- the tests of what is kept: k is its number, as the code counts it

module _ (rows : ℕ) (kept : List Entry) (np nc nv : ℕ) where
  pub kept_infinite : false ≡ every (λ (e : Entry). finite e.1) kept → refused (plain 4) ≡ kept_answer rows kept (as_csr_room np nc nv)
  unfolding kept_answer
  kept_infinite e = test_fails (every (λ (e : Entry). finite e.1) kept) 4 _ e

  module _ (f : true ≡ every (λ (e : Entry). finite e.1) kept) (k : ℕ) (ek : k ≡ length kept) where
    pub kept-many : false ≡ many k → refused (plain 1) ≡ kept_answer rows kept (as_csr_room np nc nv)
    unfolding kept_answer
    kept-many e = test_passes (every (λ (e : Entry). finite e.1) kept) 4 _ _ f (test_fails (many (length kept)) 1 _ (e ∙ ap many ek))

    module _ (m : true ≡ many k) where
      by_room : (a : Answer) → a ≡ demand (leb (rows + 1) np && leb (length kept) nc && leb (length kept) nv) 13 → a ≡ kept_answer rows kept (as_csr_room np nc nv)
      unfolding kept_answer
      by_room a e = test_passes (every (λ (e : Entry). finite e.1) kept) 4 _ _ f (test_passes (many (length kept)) 1 _ _ (m ∙ ap many ek) e)

      -- r tells whether they fit, as the code finds it
      module _ (r : Bool) (e : r ≡ (ltb rows np && leb k nc && leb k nv)) where
        held : r ≡ (leb (rows + 1) np && leb (length kept) nc && leb (length kept) nv)
        held = rw (add-one rows, ← ek, ← below_is rows np) e

        pub few_places : not r ≡ true → refused (plain 13) ≡ kept_answer rows kept (as_csr_room np nc nv)
        few_places f = by_room _ (last_fails _ 13 (flag_off (leb (rows + 1) np && leb (length kept) nc && leb (length kept) nv) r held f))

        pub kept-good : not r ≡ false → accepted ≡ kept_answer rows kept (as_csr_room np nc nv)
        kept-good f = by_room _ (last_passes _ 13 (flag_on (leb (rows + 1) np && leb (length kept) nc && leb (length kept) nv) r held f))

-- ---- the checks of the two records, as the calls of theirs give them

module _ (t : Tiles) (n : ℕ) (ws : List ℕ) where
  pub mask_large : false ≡ few n → refused (plain 1) ≡ records_answer t (as_mask n ws)
  unfolding records_answer
  mask_large e = test_fails (few n && tile_sizes t) 1 _ (and_first (few n) (tile_sizes t) e)

  module _ (small : true ≡ few n) where
    abbrev size : Answer
    size = length_is t.cols n

    records_are : records_answer t (as_mask n ws) ≡ tiles_answer t and_then (mask_answer (as_mask n ws) and_then size)
    unfolding records_answer tiles_answer mask_answer
    records_are = by_records (few n) (tile_sizes t) (mask_rules (as_mask n ws)) (demand (tiles_rules t) 12) size small

    pub tiles_refused : (v : Result Unit HybitError) (e : HybitError) → told v ≡ tiles_answer t → v ≡ Err e → refused (paper e) ≡ records_answer t (as_mask n ws)
    tiles_refused v e h k = call_refused (tiles_answer t) (mask_answer (as_mask n ws) and_then size) v e h k ∙ sym records_are

    module _ (v : Result Unit HybitError) (h : told v ≡ tiles_answer t) (k : v ≡ Ok tt) where
      by_mask : (a : Answer) → a ≡ mask_answer (as_mask n ws) and_then size → a ≡ records_answer t (as_mask n ws)
      by_mask a e = call_accepted (tiles_answer t) (mask_answer (as_mask n ws) and_then size) a v h k e ∙ sym records_are

      pub mask_refused : (m : Result Unit HybitError) (e : HybitError) → told m ≡ mask_answer (as_mask n ws) → m ≡ Err e → refused (paper e) ≡ records_answer t (as_mask n ws)
      mask_refused m e hm km = by_mask (refused (paper e)) (call_refused (mask_answer (as_mask n ws)) size m e hm km)

      module _ (m : Result Unit HybitError) (hm : told m ≡ mask_answer (as_mask n ws)) (km : m ≡ Ok tt) where
        pub wrong_size : (n ≡ t.cols → ⊥) → refused (lengths_differ t.cols n) ≡ records_answer t (as_mask n ws)
        wrong_size l = by_mask _ (call_accepted (mask_answer (as_mask n ws)) size _ m hm km (last_length_wrong t.cols n l))

        pub right_size : n ≡ t.cols → accepted ≡ records_answer t (as_mask n ws)
        right_size l = by_mask _ (call_accepted (mask_answer (as_mask n ws)) size _ m hm km (last_length_right t.cols n l))

-- ---- the tests of what accepted tiles keep

tested : (t : Tiles) (n : ℕ) (ws : List ℕ) → every finite (csr_of t.rows t.cols (row_kept t (as_mask n ws))).val ≡ every (λ (e : Entry). finite e.1) (joined (row_kept t (as_mask n ws)) t.rows)
unfolding csr_of
tested t n ws = every_map finite (λ (e : Entry). e.1) (joined (row_kept t (as_mask n ws)) t.rows)

last_is : (t : Tiles) → AcceptedTiles t → (n : ℕ) (ws : List ℕ) → Valid n ws → (room : CsrRoom) → kept_answer t.rows (kept_all t.vals ws (listed_tiles t)) room ≡ last_answer t (as_mask n ws) room
unfolding kept_answer last_answer restricted_tiles fits_csr
last_is t acc n ws ok room =
    let f : ℕ → List Entry = row_kept t (as_mask n ws) in
    let m : Csr = csr_of t.rows t.cols f in
    let all : joined f t.rows ≡ kept_all t.vals ws (listed_tiles t) = all-kept t acc n ws ok in
    let good : every finite m.val ≡ every (λ (e : Entry). finite e.1) (kept_all t.vals ws (listed_tiles t)) = tested t n ws ∙ ap (every (λ (e : Entry). finite e.1)) all in
    let vs : length m.val ≡ length (kept_all t.vals ws (listed_tiles t)) = made_values t.rows t.cols f ∙ ap length all in
    let cs : length m.col ≡ length (kept_all t.vals ws (listed_tiles t)) = made_columns t.rows t.cols f ∙ ap length all in
    let ps : length m.ptr ≡ t.rows + 1 = made_pointers t.rows t.cols f ∙ sym (add-one t.rows) in
    sym (λ i. demand (good i) 4 and_then demand (many (vs i)) 1 and_then demand (leb (ps i) room.ptr && leb (cs i) room.col && leb (vs i) room.val) 13)

module _ (t : Tiles) (n : ℕ) (ws : List ℕ) (ok : records_answer t (as_mask n ws) ≡ accepted) where
  pub many_tiles : length t.mask ≤ 2 ^ 24
  many_tiles = (facts t n ws ok).tiles.tiles_in

  pub offsets_long : length t.offset ≡ length t.mask
  offsets_long = (facts t n ws ok).tiles.offsets_long

  pub metas_long : length t.meta ≡ length t.mask
  metas_long = (facts t n ws ok).tiles.metas_long

  pub tiles_ready : ((k : ℕ) → get_or t.mask k 0 < 2 ^ 64) → every (tile_ready (length t.vals) (length ws)) (zip t.mask (zip t.offset t.meta)) ≡ true
  unfolding listed_tiles
  tiles_ready fits = all_ready t (facts t n ws ok).tiles n ws (facts t n ws ok).mask (facts t n ws ok).size fits

  -- the lists have their lengths still
  pub by_kept : (a : Answer) (p c v np nc nv : ℕ) → p ≡ np → c ≡ nc → v ≡ nv → a ≡ kept_answer t.rows (kept_all t.vals ws (zip t.mask (zip t.offset t.meta))) (as_csr_room p c v)
      → a ≡ last_answer t (as_mask n ws) (as_csr_room np nc nv)
  unfolding listed_tiles
  by_kept a p c v np nc nv ep ec ev e = e ∙ last_is t (facts t n ws ok).tiles n ws (facts t n ws ok).mask (as_csr_room p c v) ∙ (λ i. last_answer t (as_mask n ws) (as_csr_room (ep i) (ec i) (ev i)))

-- ---- the room that is asked for

module _ (t : Tiles) (n : ℕ) (ws : List ℕ) (np nc nv : ℕ) where
  abbrev kept : ℕ
  kept = length (restricted_tiles t (as_mask n ws)).val

  pub record Held : Type 0 where
    pub pointers : t.rows < np
    pub columns : kept ≤ nc
    pub values : kept ≤ nv

  fits : (b : Bool) → b ≡ (leb (t.rows + 1) np && leb kept nc && leb kept nv) → b ≡ fits_csr (restricted_tiles t (as_mask n ws)) (as_csr_room np nc nv)
  unfolding restricted_tiles fits_csr
  fits b e =
      let f : ℕ → List Entry = row_kept t (as_mask n ws) in
      let ps : t.rows + 1 ≡ length (csr_of t.rows t.cols f).ptr = add-one t.rows ∙ sym (made_pointers t.rows t.cols f) in
      let cs : length (csr_of t.rows t.cols f).val ≡ length (csr_of t.rows t.cols f).col = made_values t.rows t.cols f ∙ sym (made_columns t.rows t.cols f) in
      e ∙ (λ i. leb (ps i) np && leb (cs i) nc && leb (length (csr_of t.rows t.cols f).val) nv)

  -- an accepted build has it
  pub last_held : last_answer t (as_mask n ws) (as_csr_room np nc nv) ≡ accepted → Held
  unfolding last_answer
  last_held e =
      let a1 : Answer = demand (every finite (restricted_tiles t (as_mask n ws)).val) 4 in
      let a2 : Answer = demand (many kept) 1 in
      let a3 : Answer = demand (fits_csr (restricted_tiles t (as_mask n ws)) (as_csr_room np nc nv)) 13 in
      let p : Bool = leb (t.rows + 1) np in
      let c : Bool = leb kept nc in
      let v : Bool = leb kept nv in
      let all : (p && c && v) ≡ true = fits (p && c && v) refl ∙ demand_accepted _ _ (then_second a2 a3 (then_second a1 (a2 and_then a3) e)) in
      record {
        pointers = omega (arith, leb-true (t.rows + 1) np (and_left p c (and_left (p && c) v all)));
        columns = leb-true kept nc (and_right p c (and_left (p && c) v all));
        values = leb-true kept nv (and_right (p && c) v all);
      }

  pub pointers_short : np ≤ t.rows → (a : Answer) → a ≡ last_answer t (as_mask n ws) (as_csr_room np nc nv) → a ≡ accepted → ⊥
  pointers_short l a e h = omega (arith, (last_held (sym e ∙ h)).pointers)

  pub entries_short : (to room : ℕ) → to ≡ kept → room ≡ min nc nv → room < to → (a : Answer) → a ≡ last_answer t (as_mask n ws) (as_csr_room np nc nv) → a ≡ accepted → ⊥
  entries_short to room et er l a e h = let held : Held = last_held (sym e ∙ h) in omega (arith, held.columns, held.values)

  -- where there is room, the tests of the values that were written decide
  pub last_written : (to room : ℕ) → to ≡ kept → room ≡ min nc nv → to ≤ room → t.rows < np → (old out : List Float) (a : Answer) → Appended (restricted_tiles t (as_mask n ws)).val 0 to old out
      → a ≡ demand (every finite (take to out)) 4 and_then demand (many (length (take to out))) 1 → a ≡ last_answer t (as_mask n ws) (as_csr_room np nc nv)
  unfolding last_answer
  last_written to room et er l p old out a w e =
      let val : List Float = (restricted_tiles t (as_mask n ws)).val in
      let fit : true ≡ fits_csr (restricted_tiles t (as_mask n ws)) (as_csr_room np nc nv) =
      fits true (and-next (leb (t.rows + 1) np && leb kept nc) (leb kept nv) true
      (and-next (leb (t.rows + 1) np) (leb kept nc) true (is_within (t.rows + 1) np (omega arith)) (is_within kept nc (omega arith)))
      (is_within kept nv (omega arith))) in
      e ∙ ap (λ (l : List Float). demand (every finite l) 4 and_then demand (many (length l)) 1) w.list
      ∙ ends (demand (every finite val) 4) (demand (many (length val)) 1) (demand (fits_csr (restricted_tiles t (as_mask n ws)) (as_csr_room np nc nv)) 13) (last_passes _ 13 fit)
    where
      ends : (a b c : Answer) → accepted ≡ c → a and_then b ≡ a and_then b and_then c
      ends accepted accepted c e = e
      ends accepted (refused t) c e = refl
      ends (refused t) b c e = refl

-- ---- the whole call: the records' checks, then those of what is kept

module _ (t : Tiles) (a : Mask) (room : CsrRoom) where
  whole_is : restrict_tiles_answer t a room ≡ records_answer t a and_then last_answer t a room
  unfolding restrict_tiles_answer records_answer last_answer
  whole_is = parts (demand (few a.size && tile_sizes t) 1) (demand (tiles_rules t) 12) (demand (mask_rules a) 5) (length_is t.cols a.size) _
    where
      parts : (a b c d e : Answer) → a and_then b and_then c and_then d and_then e ≡ (a and_then b and_then c and_then d) and_then e
      parts accepted accepted accepted d e = refl
      parts accepted accepted (refused t) d e = refl
      parts accepted (refused t) c d e = refl
      parts (refused t) b c d e = refl

  pub records_refuse : (v : Result Unit HybitError) (e : HybitError) → told v ≡ records_answer t a → v ≡ Err e → told v ≡ restrict_tiles_answer t a room
  records_refuse v e h k = ap told k ∙ call_refused (records_answer t a) (last_answer t a room) v e h k ∙ sym whole_is

  pub last_decides : (v w : Result Unit HybitError) → told v ≡ records_answer t a → v ≡ Ok tt → told w ≡ last_answer t a room → told w ≡ restrict_tiles_answer t a room
  last_decides v w h k l = call_accepted (records_answer t a) (last_answer t a room) (told w) v h k l ∙ sym whole_is

  -- the records are accepted: what writing the entries answers decides
  module _ (v : Result Unit HybitError) (h : told v ≡ records_answer t a) (good : v ≡ Ok tt) (f : Result ℕ HybitError) (n : ℕ) (l : given f ≡ answers (last_answer t a room) n) where
    rest_is : restrict_tiles_answer t a room ≡ last_answer t a room
    rest_is = whole_is ∙ ap (λ (r : Answer). r and_then last_answer t a room) (accepted_by (records_answer t a) v h good)

    pub fill_refuses : (e : HybitError) → f ≡ Err e → restrict_tiles_answer t a room ≡ refused (paper e)
    fill_refuses e k = rest_is ∙ go (last_answer t a room) (sym (ap given k) ∙ l)
      where
        go : (b : Answer) → refuses (paper e) ≡ answers b n → b ≡ refused (paper e)
        go accepted q = absurd (cc q)
        go (refused d) q = ap refused (cc q)

    pub fill_accepts : (k : ℕ) → f ≡ Ok k → restrict_tiles_answer t a room ≡ accepted
    fill_accepts k q = rest_is ∙ go (last_answer t a room) (sym (ap given q) ∙ l)
      where
        go : (b : Answer) → gives k ≡ answers b n → b ≡ accepted
        go accepted q = refl
        go (refused d) q = absurd (cc q)

-- lists that a refused call has written to, cleared
pub wiped : {A : Type 0} (z : A) (m n : ℕ) (last : List A) → m ≡ n → last ≡ padded z m [] → last ≡ padded z n []
wiped z m n last s e = e ∙ ap (λ (k : ℕ). padded z k []) s

-- ---- the numbers of an accepted build

pub restriction_is : (t : Tiles) (a : Mask) (k : ℕ) → k ≡ length (restricted_tiles t a).val → record { nrows = t.rows; ncols = t.cols; source_nnz = t.nnz; retained_nnz = k } ≡ tile_restriction_of t a
unfolding tile_restriction_of
restriction_is t a k e = ap (numbers t) e
  where
    numbers : Tiles → ℕ → ColumnRestriction
    numbers t k = record { nrows = t.rows; ncols = t.cols; source_nnz = t.nnz; retained_nnz = k }
