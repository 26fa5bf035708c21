-- The values of one block row, a row of the plot list after the other: by place, and as its blocks. Assumes nothing.
use mathlib.Core.Bool.{Bool, true, false, cond, ◌||◌, or-true, true≢false}
use mathlib.Core.List.{List, [], ◌∷◌, ◌++◌, zip, append_assoc, append-nil}
use mathlib.Core.Path.{◌≡◌, refl, sym, ap, ap₂, ◌∙◌, subst}
use Prim.Native.Nat.{ℕ, zero, suc, ◌+◌, ◌-◌, ◌*◌, ◌/◌, ◌%◌, ◌^◌, ◌≤◌, ◌<◌, min, zero-le}
use native.Mathlib.Nat.{mod-lt, mul_comm, mul_assoc, mul-lt-mul_of_pos_left, mul-zero, div-add-mod, div-lt_iff_lt-mul, mul-add-mod_self_left}
use native.Mathlib.Decide.{dec_lt, ℕ_discrete}
use native.Mathlib.Omega.{arith}
use lib.Dec.{eqb, ltb}
use lib.ListN.{length, get_or, replicate}
use lib.Ieee.{Float, nan}
use borrow.Author.Tests.{eq-eqb, ne_eqb, eqb-true, ltb-true, lt-ltb, le-ltb}
use Rattle.hybit_core.specs.Answer.{accepted}
use Rattle.hybit_core.specs.Floats.{zero64}
use Rattle.hybit_core.proofs.BoolLaws.{same_test}
use Rattle.lent.specs.Lists.{part, joined, each, only, every, some, spread}
use Rattle.lent.proofs.ListLaws.{each_cong, each_is, each_same, get_or-each, length-each, every_by, every-at, every-listed, some_left, some_by, joined_at}
use Rattle.word.specs.Bits.{below, count}
use Rattle.word.proofs.BelowLaws.{below_cong}
use Rattle.word.proofs.BitLaws.{within_in, count_cong}
use Rattle.mask.specs.Mask.{bit_at, mask_words}
use Rattle.mask.specs.Calls.{listed}
use Rattle.mask.proofs.MaskLaws.{bit_of_words}
use Rattle.levels.specs.Ranks.{Ranks}
use Rattle.csr32.specs.Csr.{Csr, Entry, csr_answer, entries, merged, of_column}
use Rattle.csr32.proofs.CsrLaws.{valid, row_sides, row_columns}
use Rattle.dense_block.specs.Blocks.{width_of, blocks_for, inside, band, block_has, row_blocks, place_value, block_of}
use Rattle.dense_block.specs.declared.DenseBlockSize.{DenseBlockSize}
use Rattle.dense_block.specs.declared.DenseBlockSize.TheVariants.{B3, B6}
use Rattle.dense_block_build.specs.Making.{add_values, in_row}
use Rattle.dense_block_build.proofs.FlatLaws.{even_length, even_at}
use Rattle.dense_block_build.proofs.RowLaws.{row_length, row_at_lem, value_at}
use Rattle.dense_block_build.proofs.NoteLaws.{listed_below}

-- ---- lists over the elements of a list

pub joined-first : {A : Type 0} (f : ℕ → List A) (n : ℕ) → joined f (suc n) ≡ f 0 ++ joined (λ k. f (suc k)) n
unfolding joined
joined-first f zero = sym (append-nil (f 0))
joined-first {A} f (suc n) = ap (λ (l : List A). l ++ f (suc n)) (joined-first f n) ∙ append_assoc (f 0) (joined (λ k. f (suc k)) n) (f (suc n))

pub spread-places : {A B : Type 0} (f : A → List B) (l : List A) (d : A) → spread f l ≡ joined (λ k. f (get_or l k d)) (length l)
unfolding spread joined
spread-places f [] d = refl
spread-places {A} {B} f (a ∷ l) d = ap (λ (t : List B). f a ++ t) (spread-places f l d) ∙ sym (joined-first (λ k. f (get_or (a ∷ l) k d)) (length l))

some-front : {A : Type 0} (p : A → Bool) (l r : List A) → some p l ≡ true → some p (l ++ r) ≡ true
unfolding some
some-front p [] r e = absurd (true≢false (sym e))
some-front p (a ∷ l) r e = go (p a) e (some-front p l r)
  where
    go : (t : Bool) → (t || some p l) ≡ true → (some p l ≡ true → some p (l ++ r) ≡ true) → (t || some p (l ++ r)) ≡ true
    go true x f = refl
    go false x f = f x

some_behind : {A : Type 0} (p : A → Bool) (l r : List A) → some p r ≡ true → some p (l ++ r) ≡ true
unfolding some
some_behind p [] r e = e
some_behind p (a ∷ l) r e = ap (λ (t : Bool). p a || t) (some_behind p l r e) ∙ or-true (p a)

pub some-joined : {A : Type 0} (p : A → Bool) (f : ℕ → List A) (i n : ℕ) → i < n → some p (f i) ≡ true → some p (joined f n) ≡ true
some-joined p f i n h e =
    let s = joined_at f i n h in
    ap (some p) s.1 ∙ some-front p (joined f i ++ f i) s.0 (some_behind p (joined f i) (f i) e)

-- ---- the blocks of a block row, by place

module _ (m : Csr) (w R : ℕ) (cs : List ℕ) (pos : 0 < w) where
  square : 0 < w * w
  square = omega (arith, mul-lt-mul_of_pos_left pos pos, mul-zero w)

  -- the row inside the block and the column of place q
  abbrev row_at : ℕ → ℕ
  row_at q = q % (w * w) / w

  abbrev col_at : ℕ → ℕ
  col_at q = w * get_or cs (q / (w * w)) 0 + q % w

  row_small : (q : ℕ) → row_at q < w
  row_small q = (div-lt_iff_lt-mul {k = w} {x = q % (w * w)} {y = w} pos).1 (mod-lt q square)

  line_even : (C i : ℕ) → length (each (λ j. place_value m (w * R + i) (w * C + j)) w) ≡ w
  line_even C i = length-each (λ j. place_value m (w * R + i) (w * C + j)) w

  block_even : (C : ℕ) → length (block_of m w R C) ≡ w * w
  unfolding block_of
  block_even C = even_length (λ i. each (λ j. place_value m (w * R + i) (w * C + j)) w) w (line_even C) w

  block_at : (C x : ℕ) → x < w * w → get_or (block_of m w R C) x nan ≡ place_value m (w * R + x / w) (w * C + x % w)
  unfolding block_of
  block_at C x h =
      even_at (λ i. each (λ j. place_value m (w * R + i) (w * C + j)) w) w (line_even C) w x nan pos h
      ∙ get_or-each (λ j. place_value m (w * R + x / w) (w * C + j)) w (x % w) nan (mod-lt x pos)

  twice : (q : ℕ) → q % (w * w) % w ≡ q % w
  twice q =
      sym (ap (λ (k : ℕ). k % w) (sym (div-add-mod q (w * w)) ∙ ap (λ (k : ℕ). k + q % (w * w)) (mul_assoc w w (q / (w * w))))
      ∙ mul-add-mod_self_left w (w * (q / (w * w))) (q % (w * w)))

  pub spread-length : length (spread (block_of m w R) cs) ≡ length cs * (w * w)
  spread-length =
      ap length (spread-places (block_of m w R) cs 0) ∙ even_length (λ k. block_of m w R (get_or cs k 0)) (w * w) (λ k. block_even (get_or cs k 0)) (length cs) ∙ mul_comm (w * w) (length cs)

  spread_at : (q : ℕ) → q < length cs * (w * w) → get_or (spread (block_of m w R) cs) q nan ≡ place_value m (w * R + row_at q) (col_at q)
  spread_at q h =
      ap (λ (l : List Float). get_or l q nan) (spread-places (block_of m w R) cs 0)
      ∙ even_at (λ k. block_of m w R (get_or cs k 0)) (w * w) (λ k. block_even (get_or cs k 0)) (length cs) q nan square h
      ∙ block_at (get_or cs (q / (w * w)) 0) (q % (w * w)) (mod-lt q square)
      ∙ ap (λ (j : ℕ). place_value m (w * R + row_at q) (w * get_or cs (q / (w * w)) 0 + j)) (twice q)

  -- ---- the first k rows are added

  abbrev value_in : ℕ → Bool → Float
  value_in q t = cond t (merged (entries m (w * R + row_at q)) (col_at q)) zero64

  pub record Banding (k : ℕ) (out : List Float) : Type 0 where
    pub within : k ≤ inside w m.rows R
    pub is : out ≡ each (λ q. value_in q (ltb (row_at q) k)) (length cs * (w * w))

  pub banding_none : (out : List Float) → out ≡ replicate (length cs * (w * w)) zero64 → Banding 0 out
  banding_none out e = record {
    within = zero-le;
    is =
        e ∙ sym (each_same zero64 (length cs * (w * w)))
        ∙ each_cong (λ q. zero64) (λ q. value_in q (ltb (row_at q) 0)) (length cs * (w * w)) (λ q h. sym (ap (value_in q) (le-ltb (row_at q) 0 zero-le)));
  }

  module _ (k : ℕ) (out : List Float) (inv : Banding k out) where
    pub banding_long : length out ≡ length cs * (w * w)
    banding_long = ap length inv.is ∙ length-each (λ q. value_in q (ltb (row_at q) k)) (length cs * (w * w))

    was : (q : ℕ) → q < length cs * (w * w) → get_or out q nan ≡ value_in q (ltb (row_at q) k)
    was q h = ap (λ (l : List Float). get_or l q nan) inv.is ∙ get_or-each (λ q. value_in q (ltb (row_at q) k)) (length cs * (w * w)) q nan h

    pub banding_more : (es : List Entry) (new : List Float) → k < inside w m.rows R → es ≡ entries m (w * R + k) → new ≡ in_row w k cs es out → Banding (k + 1) new
    unfolding merged add_values
    banding_more es new h ee e = record {
      within = omega arith;
      is = each_is nan (λ q. value_in q (ltb (row_at q) (k + 1))) (length cs * (w * w)) new (ap length e ∙ row_length w k cs es out) (λ q l. ap (λ (t : List Float). get_or t q nan) e ∙ row_at_lem w k cs es out q l ∙ go q l (ℕ_discrete (row_at q) k));
    }
      where
        go : (q : ℕ) → q < length cs * (w * w) → Dec (row_at q ≡ k) → value_at w k cs es out q (eqb (row_at q) k) ≡ value_in q (ltb (row_at q) (k + 1))
        go q l (yes x) =
            ap (value_at w k cs es out q) (eq-eqb (row_at q) k x)
            ∙ ap₂ (λ (s : Float) (fs : List Entry). add_values s (only (of_column (col_at q)) fs)) (was q l ∙ ap (value_in q) (le-ltb (row_at q) k (omega arith))) (ee ∙ ap (λ (i : ℕ). entries m (w * R + i)) (sym x))
            ∙ sym (ap (value_in q) (lt-ltb (row_at q) (k + 1) (omega arith)))
        go q l (no x) =
            ap (value_at w k cs es out q) (ne_eqb (row_at q) k x) ∙ was q l
            ∙ ap (value_in q) (same_test (ltb (row_at q) k) (ltb (row_at q) (k + 1)) (λ t. lt-ltb (row_at q) (k + 1) (omega (arith, ltb-true (row_at q) k t))) (λ t. lt-ltb (row_at q) k (below_k (ltb-true (row_at q) (k + 1) t) (dec_lt (row_at q) k))))
          where
            below_k : row_at q < k + 1 → Dec (row_at q < k) → row_at q < k
            below_k a (yes b) = b
            below_k a (no b) = absurd (x (omega arith))

    pub banding_done : inside w m.rows R ≤ k → w * R < m.rows → out ≡ spread (block_of m w R) cs
    unfolding place_value
    banding_done h r =
        inv.is ∙ sym (each_is nan (λ q. value_in q (ltb (row_at q) k)) (length cs * (w * w)) (spread (block_of m w R) cs) spread-length
        (λ q l. spread_at q l ∙ ap (value_in q) (same_test (ltb (w * R + row_at q) m.rows) (ltb (row_at q) k)
        (λ t. lt-ltb (row_at q) k (omega (arith, ltb-true (w * R + row_at q) m.rows t, row_small q)))
        (λ t. lt-ltb (w * R + row_at q) m.rows (omega (arith, ltb-true (row_at q) k t, inv.within))))))

-- ---- what adding one row of the plot list asks

pub ranks_same : (p q : ℕ → Bool) (n : ℕ) (bits starts : List ℕ) → ((c : ℕ) → c < n → p c ≡ q c) → Ranks p n bits starts → Ranks q n bits starts
ranks_same p q n bits starts h r = record {
  bits_room = r.bits_room;
  starts_room = r.starts_room;
  rank_is = λ c l e. r.rank_is c l (h c l ∙ e) ∙ count_cong c p q (λ d b. h d (omega arith));
}

block_low : (s : DenseBlockSize) (c n : ℕ) → c < n → c / width_of s < blocks_for (width_of s) n
block_low B3 c n h = omega arith
block_low B6 c n h = omega arith

-- the block columns of columns inside the frame
pub blocks_low : (s : DenseBlockSize) (n : ℕ) (cs : List ℕ) → every (λ c. ltb c n) cs ≡ true → every (λ c. ltb (c / width_of s) (blocks_for (width_of s) n)) cs ≡ true
blocks_low s n cs h = every_by (λ c. ltb c n) (λ c. ltb c n) (λ c. ltb (c / width_of s) (blocks_for (width_of s) n)) cs (λ c x y. lt-ltb (c / width_of s) (blocks_for (width_of s) n) (block_low s c n (ltb-true c n x))) h h

module _ (m : Csr) (s : DenseBlockSize) (R : ℕ) (ok : csr_answer m ≡ accepted) where
  -- row k of the block row is row r of the plot list, where k is below the width as the code holds it
  pub band-below : (v x k : ℕ) → v ≡ width_of s → x ≡ min v (m.rows - v * R) → k < x → k < inside (width_of s) m.rows R
  band-below v x k e q h = subst (λ (n : ℕ). k < n) (q ∙ ap (λ (u : ℕ). min u (m.rows - u * R)) e) h

  pub band_end : (v x k : ℕ) → v ≡ width_of s → x ≡ min v (m.rows - v * R) → x ≤ k → inside (width_of s) m.rows R ≤ k
  band_end v x k e q h = subst (λ (n : ℕ). n ≤ k) (q ∙ ap (λ (u : ℕ). min u (m.rows - u * R)) e) h

  module _ (v k : ℕ) (e : v ≡ width_of s) (h : k < inside (width_of s) m.rows R) where
    band_row : v * R + k < m.rows
    band_row = omega (arith, ap (λ (u : ℕ). u * R) e)

    pub band-few : v * R + k + 1 ≤ 2 ^ 20
    band-few = omega (arith, band_row, (valid m ok).rows_in)

    -- cs and vs are the columns and values of the row's entries
    module _ (cs : List ℕ) (vs : List Float) (ec : cs ≡ part m.ptr m.col (v * R + k)) (ev : vs ≡ part m.ptr m.val (v * R + k)) where
      pub band-entries : zip cs vs ≡ entries m (width_of s * R + k)
      unfolding entries
      band-entries = ap₂ (λ (a : List ℕ) (b : List Float). zip a b) ec ev ∙ ap (λ (u : ℕ). entries m (u * R + k)) e

      -- the bits are the block row's block columns
      module _ (bits : List ℕ) (is : bits ≡ mask_words (listed (row_blocks m (width_of s) R)) (blocks_for (width_of s) m.cols)) where
        abbrev n : ℕ
        n = blocks_for (width_of s) m.cols

        bit_is : (c : ℕ) → c < n → bit_at bits c ≡ listed (row_blocks m (width_of s) R) c
        bit_is c l = ap (λ (ws : List ℕ). bit_at ws c) is ∙ bit_of_words (listed (row_blocks m (width_of s) R)) n c ∙ within_in n (listed (row_blocks m (width_of s) R)) c l

        has_block : (c : ℕ) → c < n → listed (row_blocks m (width_of s) R) c ≡ block_has m (width_of s) R c
        unfolding row_blocks
        has_block c l = listed_below (block_has m (width_of s) R) n c l

        band_columns : below (bit_at bits) n ≡ row_blocks m (width_of s) R
        unfolding row_blocks
        band_columns = below_cong (bit_at bits) (block_has m (width_of s) R) n (λ c l. bit_is c l ∙ has_block c l)

        lent : (length vs ≡ length cs) × (every (λ c. ltb c m.cols) cs ≡ true)
        lent = rw (ec, ev) (sym (row_sides (valid m ok) (v * R + k)), row_columns (valid m ok) (v * R + k))

        in_block_lem : (c : ℕ) → some (λ d. eqb d c) cs ≡ true → block_has m (width_of s) R (c / width_of s) ≡ true
        unfolding block_has band
        in_block_lem c x =
            some-joined (λ (y : Entry). eqb (y.0 / width_of s) (c / width_of s)) (λ i. entries m (width_of s * R + i)) k (inside (width_of s) m.rows R) h
            (ap (some (λ (y : Entry). eqb (y.0 / width_of s) (c / width_of s))) (sym band-entries)
            ∙ some_left (λ d. eqb (d / width_of s) (c / width_of s)) cs vs (sym lent.0)
            ∙ some_by (λ d. eqb d c) (λ d. eqb (d / width_of s) (c / width_of s)) cs (λ d t. eq-eqb (d / width_of s) (c / width_of s) (ap (λ (y : ℕ). y / width_of s) (eqb-true d c t))) x)

        noted : every (λ c. bit_at bits (c / width_of s)) cs ≡ true
        noted =
            every-listed (λ c. bit_at bits (c / width_of s)) cs
            (λ c x. let l : c / width_of s < n = block_low s c m.cols (ltb-true c m.cols (every-at (λ c. ltb c m.cols) cs c lent.1 x)) in bit_is (c / width_of s) l ∙ has_block (c / width_of s) l ∙ in_block_lem c x)

        -- what `add_row` requires
        pub band_asks : (starts : List ℕ) (out : List Float) → Ranks (listed (row_blocks m (width_of s) R)) n bits starts → length out ≡ length (row_blocks m (width_of s) R) * (width_of s * width_of s)
            → (k < width_of s) × ((every (λ c. bit_at bits (c / width_of s)) cs ≡ true) × (Ranks (bit_at bits) n bits starts × (length out ≡ count (bit_at bits) n * (width_of s * width_of s))))
        band_asks starts out ranks long =
            (omega arith, (noted, (ranks_same (listed (row_blocks m (width_of s) R)) (bit_at bits) n bits starts (λ c l. sym (bit_is c l)) ranks, long ∙ ap (λ (l : List ℕ). length l * (width_of s * width_of s)) (sym band_columns))))

        -- the row is added
        pub band-added : (out new : List Float) → new ≡ in_row (width_of s) k (below (bit_at bits) n) (zip cs vs) out → new ≡ in_row (width_of s) k (row_blocks m (width_of s) R) (zip cs vs) out
        band-added out new q = q ∙ ap (λ (l : List ℕ). in_row (width_of s) k l (zip cs vs) out) band_columns
