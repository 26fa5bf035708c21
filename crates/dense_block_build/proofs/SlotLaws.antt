-- The places of blocks inside the frame, counted. Assumes nothing.
use mathlib.Core.List.{List, [], ◌∷◌, ◌++◌, map, map-append, foldl, foldl-append}
use mathlib.Core.Bool.{true}
use mathlib.Core.Path.{◌≡◌, refl, sym, ap, ap₂, ◌∙◌, subst}
use Prim.Native.Nat.{ℕ, ◌+◌, ◌-◌, ◌*◌, ◌≤◌, ◌<◌, ◌^◌, min, zero-le}
use native.Mathlib.Nat.{mul-le-mul, zero-add}
use native.Mathlib.Numerals.{add-one}
use native.Mathlib.Omega.{arith}
use lib.Dec.{ltb}
use lib.ListN.{length, get_or, take}
use lib.Seq.{take-suc, take_all}
use borrow.Author.Tests.{ltb-true, lt-ltb}
use Rattle.hybit_core.specs.Answer.{accepted}
use Rattle.lent.specs.Lists.{joined, every}
use Rattle.lent.proofs.ListLaws.{every-get_or, length-joined-suc}
use Rattle.dense_block.specs.Blocks.{width_of, blocks_for, inside, sum_of, block_has, row_blocks, row_slots, valid_slots}
use Rattle.dense_block.specs.declared.DenseBlockSize.{DenseBlockSize}
use Rattle.word.proofs.BitLaws.{every-below}
use Rattle.csr32.specs.Csr.{Csr, csr_answer}
use Rattle.csr32.proofs.CsrLaws.{valid}
use Rattle.dense_block_columns.proofs.BandLaws.{band_in, blocks_most}
use Rattle.dense_block.proofs.WidthLaws.{width_six}

-- ---- sums

sum-from : (a : ℕ) (l : List ℕ) → foldl ◌+◌ a l ≡ a + sum_of l
sum-from a [] = omega arith
sum-from a (b ∷ l) = sum-from (a + b) l ∙ omega (arith, sum-from (0 + b) l)

sum-append : (l r : List ℕ) → sum_of (l ++ r) ≡ sum_of l + sum_of r
sum-append l r = foldl-append ◌+◌ 0 l r ∙ sum-from (sum_of l) r

-- ---- the blocks of one block row: the first k are counted

module _ (w ncols rows : ℕ) (cs : List ℕ) where
  pub record Slotting (k slots : ℕ) : Type 0 where
    pub within : k ≤ length cs
    pub few : slots ≤ 36 * k
    pub is : slots ≡ sum_of (map (λ c. rows * inside w ncols c) (take k cs))

  pub slotting_none : Slotting 0 0
  slotting_none = record { within = zero-le; few = zero-le; is = refl }

  module _ (s : DenseBlockSize) (ew : w ≡ width_of s) (k slots : ℕ) (inv : Slotting k slots) where
    pub slotting_done : length cs ≤ k → slots ≡ sum_of (map (λ c. rows * inside (width_of s) ncols c) cs)
    slotting_done h = inv.is ∙ ap₂ (λ (u : ℕ) (l : List ℕ). sum_of (map (λ c. rows * inside u ncols c) l)) ew (take_all k cs h)

    -- c is the next block column
    module _ (h : k < length cs) (c : ℕ) (ec : c ≡ get_or cs k 0) where
      pub slotting_inside : every (λ c. ltb c (blocks_for (width_of s) ncols)) cs ≡ true → w * c < ncols
      slotting_inside e =
          let l : c < blocks_for (width_of s) ncols =
          subst (λ (x : ℕ). x < blocks_for (width_of s) ncols) (sym ec) (ltb-true (get_or cs k 0) (blocks_for (width_of s) ncols) (every-get_or (λ c. ltb c (blocks_for (width_of s) ncols)) cs k 0 e h)) in
          subst (λ (x : ℕ). x * c < ncols) (sym ew) (band_in s ncols c l)

      module _ (x : ℕ) (ex : x ≡ min w (ncols - w * c)) (six : rows ≤ 6) where
        pub slotting_small : rows * x ≤ 36
        slotting_small =
            let y : x ≤ 6 = omega (arith, width_six s) in
            mul-le-mul six y

        pub slotting_more : Slotting (k + 1) (slots + rows * x)
        slotting_more =
            let f : ℕ → ℕ = λ c. rows * inside w ncols c in
            let y : rows * x ≡ f (get_or cs k 0) = ap (λ (i : ℕ). rows * i) (ex ∙ ap (λ (d : ℕ). min w (ncols - w * d)) ec) in
            record {
              within = omega arith;
              few = omega (arith, slotting_small, inv.few);
              is =
                  ap₂ (λ (a b : ℕ). a + b) inv.is y ∙ sym (
                  ap (λ (n : ℕ). sum_of (map f (take n cs))) (add-one k) ∙ ap (λ (l : List ℕ). sum_of (map f l)) (take-suc cs k 0 h) ∙ ap sum_of (map-append f (take k cs) (get_or cs k 0 ∷ []))
                  ∙ sum-append (map f (take k cs)) (f (get_or cs k 0) ∷ []) ∙ ap (λ (b : ℕ). sum_of (map f (take k cs)) + b) (zero-add (f (get_or cs k 0)))
                  );
            }

-- ---- all blocks: those of the first R block rows are counted

sum_most : (f : ℕ → ℕ) (l : List ℕ) → ((c : ℕ) → f c ≤ 36) → sum_of (map f l) ≤ 36 * length l
sum_most f [] h = zero-le
sum_most f (c ∷ l) h = omega (arith, sum-from (0 + f c) (map f l), h c, sum_most f l h)

module _ (m : Csr) (s : DenseBlockSize) where
  pub record Counting (R slots : ℕ) : Type 0 where
    pub within : R ≤ blocks_for (width_of s) m.rows
    pub few : slots ≤ 36 * length (joined (row_blocks m (width_of s)) R)
    pub is : slots ≡ sum_of (joined (row_slots m (width_of s)) R)

  pub counting_none : Counting 0 0
  unfolding joined
  counting_none = record { within = zero-le; few = zero-le; is = refl }

  module _ (ok : csr_answer m ≡ accepted) (R slots : ℕ) (inv : Counting R slots) where
    pub counting_done : (x : ℕ) → x ≡ blocks_for (width_of s) m.rows → x ≤ R → slots ≡ valid_slots m (width_of s)
    unfolding valid_slots
    counting_done x e h = let q : R ≡ blocks_for (width_of s) m.rows = omega (arith, inv.within) in inv.is ∙ ap (λ (k : ℕ). sum_of (joined (row_slots m (width_of s)) k)) q

    -- the block row's block columns are cs; x of its rows, at width v, lie inside the frame, and t of its places
    module _ (h : R < blocks_for (width_of s) m.rows) (v : ℕ) (ev : v ≡ width_of s) where
      module _ (cs : List ℕ) (ec : cs ≡ row_blocks m (width_of s) R) where
        next_long : length (joined (row_blocks m (width_of s)) (R + 1)) ≡ length (joined (row_blocks m (width_of s)) R) + length cs
        next_long = ap (λ (k : ℕ). length (joined (row_blocks m (width_of s)) k)) (add-one R) ∙ length-joined-suc (row_blocks m (width_of s)) R ∙ ap (λ (l : List ℕ). length (joined (row_blocks m (width_of s)) R) + length l) (sym ec)

        all-few : length (joined (row_blocks m (width_of s)) (R + 1)) ≤ 2 ^ 24
        all-few = omega (arith, blocks_most (valid m ok) s (R + 1) (omega arith), (valid m ok).entries_in)

        -- what `row_slots` requires of them
        pub counting_asks : (length cs ≤ 2 ^ 24) × (every (λ c. ltb c (blocks_for (width_of s) m.cols)) cs ≡ true)
        unfolding row_blocks
        counting_asks =
            (omega (arith, next_long, all-few), ap (every (λ c. ltb c (blocks_for (width_of s) m.cols))) ec ∙ every-below (λ c. ltb c (blocks_for (width_of s) m.cols)) (block_has m (width_of s) R) (blocks_for (width_of s) m.cols) (λ c l e. lt-ltb c (blocks_for (width_of s) m.cols) l))

        module _ (x t : ℕ) (ex : x ≡ min v (m.rows - v * R)) (et : t ≡ sum_of (map (λ c. x * inside (width_of s) m.cols c) cs)) where
          row_most : t ≤ 36 * length cs
          row_most = omega (arith, sum_most (λ c. x * inside (width_of s) m.cols c) cs (λ c. place_few c))
            where
              place_few : (c : ℕ) → x * inside (width_of s) m.cols c ≤ 36
              place_few c =
                  let a : x ≤ 6 = omega (arith, width_six s) in
                  let b : inside (width_of s) m.cols c ≤ 6 = omega (arith, width_six s) in
                  mul-le-mul a b

          pub counting_fits : slots + t < 2 ^ 64
          counting_fits = omega (arith, row_most, inv.few, next_long, all-few)

          pub counting_more : Counting (R + 1) (slots + t)
          unfolding joined row_slots
          counting_more = record {
            within = omega arith;
            few = omega (arith, row_most, inv.few, next_long);
            is =
                ap₂ (λ (a b : ℕ). a + b) inv.is (et ∙ ap₂ (λ (i : ℕ) (l : List ℕ). sum_of (map (λ c. i * inside (width_of s) m.cols c) l)) (ex ∙ ap (λ (u : ℕ). min u (m.rows - u * R)) ev) ec)
                ∙ sym (ap (λ (k : ℕ). sum_of (joined (row_slots m (width_of s)) k)) (add-one R) ∙ sum-append (joined (row_slots m (width_of s)) R) (row_slots m (width_of s) R));
          }
