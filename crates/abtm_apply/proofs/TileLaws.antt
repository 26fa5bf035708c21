-- One tile by its place in the lists: its values are there, its columns have an x, and what it adds. Assumes nothing.
use mathlib.Core.Bool.{Bool, true, false, cond, not}
use mathlib.Core.List.{List, map, zip}
use mathlib.Core.Path.{◌≡◌, refl, sym, ap, ap₂, ◌∙◌}
use Prim.Native.Nat.{ℕ, ◌+◌, ◌-◌, ◌*◌, ◌≤◌, ◌<◌, ◌^◌}
use native.Mathlib.Omega.{arith}
use lib.Dec.{eqb, leb, ltb}
use lib.ListN.{length, get_or, take, drop}
use lib.Seq.{slice, length-slice}
use lib.Ieee.{Float, binary64, add}
use borrow.Author.Tests.{leb-true, ltb-true, eqb-true, eqb-false, not-true}
use Rattle.hybit_core.specs.Floats.{zero64}
use Rattle.hybit_core.proofs.BoolLaws.{and_left, and_right}
use Rattle.lent.specs.Lists.{only, every}
use Rattle.lent.proofs.ListLaws.{every-get_or, slice_lent}
use Rattle.word.specs.Bits.{below, members}
use Rattle.word.proofs.WalkLaws.{some-members}
use Rattle.csr32.specs.Csr.{Entry, row_product}
use Rattle.csr32.specs.Sums.{added_to}
use Rattle.topology.specs.Words.{word_rule}
use Rattle.abtm.specs.Tiles.{word_in, kind_in, is_dense, places, stored, tile_at}
use Rattle.abtm.proofs.KindLaws.{dense_places, compact_places, dense_count}
use Rattle.abtm_apply.specs.Product.{dense_entries, add_tile}
use Rattle.abtm_apply.specs.Ready.{columns_inside, tile_inside}

-- base is the tile's first column as the code has it, n how many values it takes
module _ (nv nx mask offset meta base n : ℕ) (e : tile_inside nv nx (mask, (offset, meta)) ≡ true) (eb : base ≡ 64 * word_in meta) (en : n ≡ length (places mask meta)) where
  pub tile_end : offset + n ≤ nv
  unfolding tile_inside
  tile_end = rw en (leb-true (offset + length (places mask meta)) nv (and_left (leb (offset + length (places mask meta)) nv) (word_rule nx (word_in meta, mask)) e))

  word_rule_lem : word_rule nx (word_in meta, mask) ≡ true
  unfolding tile_inside
  word_rule_lem = and_right (leb (offset + length (places mask meta)) nv) (word_rule nx (word_in meta, mask)) e

  pub tile_columns : columns_inside nx base mask ≡ true
  unfolding columns_inside word_rule
  tile_columns = rw eb (and_right (not (eqb mask 0)) (every (λ i. ltb (64 * word_in meta + i) nx) (members mask)) word_rule_lem)

  pub tile_base : mask < 2 ^ 64 → base ≤ nx
  unfolding columns_inside word_rule
  tile_base f =
      let some : mask ≡ 0 → ⊥ = eqb-false mask 0 (not-true (eqb mask 0) (and_left (not (eqb mask 0)) (every (λ i. ltb (64 * word_in meta + i) nx) (members mask)) word_rule_lem)) in
      let low : ℕ = get_or (members mask) 0 64 in
      let in-x : base + low < nx = ltb-true (base + low) nx (every-get_or (λ i. ltb (base + i) nx) (members mask) 0 64 tile_columns (some-members mask f some)) in
      omega arith

-- the arm that a test picks
pick_first : {A : Type 0} (b : Bool) (u v : A) → true ≡ b → u ≡ cond b u v
pick_first b u v e = ap (λ (t : Bool). cond t u v) e

pick_second : {A : Type 0} (b : Bool) (u v : A) → false ≡ b → v ≡ cond b u v
pick_second b u v e = ap (λ (t : Bool). cond t u v) e

-- what it adds
module _ (vals x : List Float) (mask offset meta base n : ℕ) (eb : base ≡ 64 * word_in meta) (en : n ≡ length (places mask meta)) where
  part_long : offset + n ≤ length vals → length (take (offset + n - offset) (drop offset vals)) ≡ n
  part_long h = ap length (slice_lent offset (offset + n) vals) ∙ length-slice offset (offset + n) vals h ∙ omega arith

  slots_are : take (offset + n - offset) (drop offset vals) ≡ slice offset (offset + length (places mask meta)) vals
  slots_are = slice_lent offset (offset + n) vals ∙ ap (λ (m : ℕ). slice offset (offset + m) vals) en

  module _ (d : true ≡ is_dense meta) where
    pub dense_long : offset + n ≤ length vals → length (take (offset + n - offset) (drop offset vals)) ≡ 64
    dense_long h = part_long h ∙ en ∙ sym (dense_count (kind_in meta) mask meta refl (eqb-true (kind_in meta) 2 (sym d)))

    pub dense_adds : (s r : Float)
        → r ≡ added_to s (only (λ (e : Entry). ltb e.0 (length x)) (zip (map (λ i. base + i) (below (λ i. true) 64)) (take (offset + n - offset) (drop offset vals)))) x
        → r ≡ add_tile (length x) x s (tile_at vals (mask, (offset, meta)))
    unfolding add_tile dense_entries stored tile_at
    dense_adds s r e =
        e
        ∙ ap₂ (λ (u : ℕ) (t : List Float). added_to s (only (λ (e : Entry). ltb e.0 (length x)) (zip (map (λ i. u + i) (below (λ i. true) 64)) t)) x) eb slots_are
        ∙ ap (λ (t : List ℕ). added_to s (only (λ (e : Entry). ltb e.0 (length x)) (zip (map (λ i. 64 * word_in meta + i) t) (slice offset (offset + length (places mask meta)) vals))) x) (sym (dense_places (kind_in meta) mask (eqb-true (kind_in meta) 2 (sym d))))
        ∙ pick_first _ _ _ d

  module _ (d : false ≡ is_dense meta) where
    pub compact_long : offset + n ≤ length vals → length (take (offset + n - offset) (drop offset vals)) ≡ length (members mask)
    compact_long h = part_long h ∙ en ∙ ap length (compact_places (kind_in meta) mask (eqb-false (kind_in meta) 2 (sym d)))

    pub compact_adds : (s r : Float)
        → r ≡ added_to zero64 (zip (map (λ i. base + i) (members mask)) (take (offset + n - offset) (drop offset vals))) x
        → add binary64 s r ≡ add_tile (length x) x s (tile_at vals (mask, (offset, meta)))
    unfolding add_tile stored tile_at row_product added_to
    compact_adds s r e =
        ap (add binary64 s)
        (e
        ∙ ap₂ (λ (u : ℕ) (t : List Float). added_to zero64 (zip (map (λ i. u + i) (members mask)) t) x) eb slots_are
        ∙ ap (λ (t : List ℕ). added_to zero64 (zip (map (λ i. 64 * word_in meta + i) t) (slice offset (offset + length (places mask meta)) vals)) x) (sym (compact_places (kind_in meta) mask (eqb-false (kind_in meta) 2 (sym d)))))
        ∙ pick_second _ _ _ d
