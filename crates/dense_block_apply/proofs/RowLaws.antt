-- Sums over the blocks of a block row on the way: those of the rows of a full block row, and that of a row below them. Assumes nothing.
use mathlib.Core.Bool.{true}
use mathlib.Core.List.{List, [], ◌∷◌, foldl, foldl-append}
use mathlib.Core.Path.{◌≡◌, refl, sym, ap, ap₂, subst, ◌∙◌}
use Prim.Native.Nat.{ℕ, min, ◌+◌, ◌-◌, ◌*◌, ◌/◌, ◌%◌, ◌≤◌, ◌<◌}
use native.Mathlib.Nat.{le_refl, add-zero}
use native.Mathlib.Numerals.{add-one}
use native.Mathlib.Omega.{arith}
use lib.ListN.{get_or}
use lib.Ieee.{Float, nan, binary64, add}
use borrow.Author.Tests.{le-leb, lt-leb}
use Rattle.hybit_core.specs.Floats.{zero64}
use Rattle.lent.specs.Lists.{each}
use Rattle.lent.proofs.ListLaws.{get_or-each, each_cong}
use Rattle.word.specs.Bits.{between}
use Rattle.word.proofs.BelowLaws.{between_split, between_none, between_cons}
use Rattle.dense_block.specs.Blocks.{Blocks, inside}
use Rattle.dense_block_apply.specs.Product.{products, term_by_term, as_one, FullBlock, fast_end, block_terms, add_block, added_blocks, block_sum}
use Rattle.dense_block_apply.proofs.BlockLaws.{Ready, Row, full_row, row_is, LastRow, row_over, row_under, last_over, last_under, last_short}
use Rattle.dense_block_apply.proofs.FullLaws.{Fast, fast_is, TailPlace, tail_place, full_block}

-- ---- the places from a up to p

places-none : (a : ℕ) → between (λ q. true) a a ≡ []
places-none a = between_none (λ q. true) a a (λ i l u. absurd (omega arith))

places-one : (p : ℕ) → between (λ q. true) p (p + 1) ≡ p ∷ []
places-one p = between_cons (λ q. true) p (p + 1) (omega arith) ∙ ap (λ (k : ℕ). p ∷ between (λ q. true) k (p + 1)) (sym (add-one p)) ∙ ap (λ (l : List ℕ). p ∷ l) (places-none (p + 1))

module _ (b : Blocks) (x : List Float) where
  -- ---- row r's number s after the blocks from a place on

  added_none : (r : ℕ) (s : Float) (a : ℕ) → added_blocks b x r s a a ≡ s
  unfolding added_blocks
  added_none r s a = ap (foldl (add_block b x r) s) (places-none a)

  added-one : (r : ℕ) (s : Float) (p : ℕ) → added_blocks b x r s p (p + 1) ≡ add_block b x r s p
  unfolding added_blocks
  added-one r s p = ap (foldl (add_block b x r) s) (places-one p)

  added_split : (r : ℕ) (s : Float) (a p e : ℕ) → a ≤ p → p ≤ e → added_blocks b x r s a e ≡ added_blocks b x r (added_blocks b x r s a p) p e
  unfolding added_blocks
  added_split r s a p e h l = ap (foldl (add_block b x r) s) (between_split (λ q. true) a p e h l) ∙ foldl-append (add_block b x r) s (between (λ q. true) a p) (between (λ q. true) p e)

  added_more : (r : ℕ) (s : Float) (a p : ℕ) → a ≤ p → added_blocks b x r s a (p + 1) ≡ add_block b x r (added_blocks b x r s a p) p
  added_more r s a p h = added_split r s a p (p + 1) h (omega arith) ∙ added-one r (added_blocks b x r s a p) p

  added-all : (r R a e : ℕ) → r / b.width ≡ R → a ≡ get_or b.ptr R 0 → e ≡ get_or b.ptr (R + 1) 0 → added_blocks b x r zero64 a e ≡ block_sum b x r
  unfolding block_sum
  added-all r R a e q h l =
      ap₂ (added_blocks b x r zero64) h l ∙ ap (λ (k : ℕ). added_blocks b x r zero64 (get_or b.ptr k 0) (get_or b.ptr (k + 1) 0)) (sym q)

  -- ---- the terms of one block more

  -- v, c and n as the code has them: the block's first value, its first column, and how many of its columns lie inside
  terms_are : (i p v c n : ℕ) → v ≡ p * (b.width * b.width) → c ≡ b.width * get_or b.col p 0 → n ≡ inside b.width b.cols (get_or b.col p 0) → block_terms b x i p ≡ products b.vals x (v + b.width * i) c n
  unfolding block_terms
  terms_are i p v c n e f g = rw (e, f, g)

  -- ---- the rows of full block row R, that of i from the number s i on: the blocks from place `from` up to p, all of them full, are added

  pub record Sums (R : ℕ) (s : ℕ → Float) (from to fast p : ℕ) (sums : List Float) : Type 0 where
    pub row : Row b x R from to
    pub full : b.width * R + b.width ≤ b.rows
    pub ends : Fast b from to fast
    pub after : from ≤ p
    pub within : p ≤ fast
    pub is : sums ≡ each (λ i. added_blocks b x (b.width * R + i) (s i) from p) b.width

  pub sums_none : (R : ℕ) (s : ℕ → Float) (from to fast p : ℕ) (sums : List Float) → Row b x R from to → b.width * R + b.width ≤ b.rows → Fast b from to fast → p ≡ from → sums ≡ each s b.width → Sums R s from to fast p sums
  sums_none R s from to fast p sums r h f q e = rw q (record {
    row = r;
    full = h;
    ends = f;
    after = le_refl from;
    within = f.after;
    is = e ∙ each_cong s (λ i. added_blocks b x (b.width * R + i) (s i) from from) b.width (λ i l. sym (added_none (b.width * R + i) (s i) from));
  })

  module _ (R : ℕ) (s : ℕ → Float) (from to fast p : ℕ) (sums : List Float) (inv : Sums R s from to fast p sums) where
    pub sums_in : p ≤ to
    sums_in = omega (arith, inv.within, inv.ends.within)

    -- all of the full blocks are added
    pub sums_all : fast ≤ p → Sums R s from to fast fast sums
    sums_all h = let e : p ≡ fast = omega (arith, inv.within) in subst (λ (q : ℕ). Sums R s from to fast q sums) e inv

    -- g is what the blocks from p up to q make of the number of row i
    sums_more : (q : ℕ) (g : ℕ → Float → Float) → p ≤ q → ((i : ℕ) (t : Float) → i < b.width → added_blocks b x (b.width * R + i) t p q ≡ g i t)
        → each (λ i. g i (get_or sums i nan)) b.width ≡ each (λ i. added_blocks b x (b.width * R + i) (s i) from q) b.width
    sums_more q g l h = each_cong (λ i. g i (get_or sums i nan)) (λ i. added_blocks b x (b.width * R + i) (s i) from q) b.width one
      where
        one : (i : ℕ) → i < b.width → g i (get_or sums i nan) ≡ added_blocks b x (b.width * R + i) (s i) from q
        one i k =
            ap (g i) (ap (λ (t : List Float). get_or t i nan) inv.is ∙ get_or-each (λ j. added_blocks b x (b.width * R + j) (s j) from p) b.width i nan k)
            ∙ sym (added_split (b.width * R + i) (s i) from p q inv.after l ∙ h i (added_blocks b x (b.width * R + i) (s i) from p) k)

    sums_to : (q : ℕ) → q ≡ to → each (λ i. added_blocks b x (b.width * R + i) (s i) from q) b.width ≡ each (λ i. added_blocks b x (b.width * R + i) (s i) from (get_or b.ptr (R + 1) 0)) b.width
    sums_to q e = ap (λ (n : ℕ). each (λ i. added_blocks b x (b.width * R + i) (s i) from n) b.width) (e ∙ inv.row.ends)

    -- v and c as the code has them: the place of the block's first value and its first column
    module _ (v c : ℕ) (ev : v ≡ p * (b.width * b.width)) (ec : c ≡ b.width * get_or b.col p 0) (new : List Float) where
      pub sums_full : p < fast → new ≡ each (λ i. add binary64 (get_or sums i nan) (as_one (products b.vals x (v + b.width * i) c b.width))) b.width → Sums R s from to fast (p + 1) new
      unfolding add_block
      sums_full l e = record {
        row = inv.row;
        full = inv.full;
        ends = inv.ends;
        after = omega (arith, inv.after);
        within = omega arith;
        is = e ∙ sums_more (p + 1) (λ i t. add binary64 t (as_one (products b.vals x (v + b.width * i) c b.width))) (omega arith) one;
      }
        where
          inside-all : b.width * get_or b.col p 0 + b.width ≤ b.cols
          inside-all = inv.ends.full p inv.after l

          one : (i : ℕ) (t : Float) → i < b.width → added_blocks b x (b.width * R + i) t p (p + 1) ≡ add binary64 t (as_one (products b.vals x (v + b.width * i) c b.width))
          one i t k =
              let w = inv.row.ready.width in
              added-one (b.width * R + i) t p
              ∙ rw (row_over w R i k, row_under w R i k, le-leb (b.width * R + b.width) b.rows inv.full, le-leb (b.width * get_or b.col p 0 + b.width) b.cols inside-all)
              (ap (λ (ts : List Float). add binary64 t (as_one ts)) (terms_are i p v c b.width ev ec (omega (arith, inside-all))))

      -- the last block is a column tail, n columns wide
      pub sums_tail : fast ≤ p → (p ≡ to → ⊥) → (n : ℕ) → n ≡ b.cols - c → new ≡ each (λ i. term_by_term (get_or sums i nan) (products b.vals x (v + b.width * i) c n)) b.width
          → new ≡ each (λ i. added_blocks b x (b.width * R + i) (s i) from (get_or b.ptr (R + 1) 0)) b.width
      unfolding add_block
      sums_tail l u n en e = e ∙ sums_more (p + 1) (λ i t. term_by_term t (products b.vals x (v + b.width * i) c n)) (omega arith) one ∙ sums_to (p + 1) q.last
        where
          q : TailPlace b to p
          q = tail_place inv.ends p inv.within l u

          one : (i : ℕ) (t : Float) → i < b.width → added_blocks b x (b.width * R + i) t p (p + 1) ≡ term_by_term t (products b.vals x (v + b.width * i) c n)
          one i t k =
              let w = inv.row.ready.width in
              added-one (b.width * R + i) t p
              ∙ rw (row_over w R i k, row_under w R i k, le-leb (b.width * R + b.width) b.rows inv.full, lt-leb (b.width * get_or b.col p 0 + b.width) b.cols q.tail)
              (ap (term_by_term t) (terms_are i p v c n ev ec (omega (arith, q.tail))))

    -- the blocks that are left, added by a callee
    sums_rest : (new : List Float) → new ≡ each (λ i. added_blocks b x (b.width * R + i) (get_or sums i nan) p (get_or b.ptr (R + 1) 0)) b.width
        → new ≡ each (λ i. added_blocks b x (b.width * R + i) (s i) from (get_or b.ptr (R + 1) 0)) b.width
    sums_rest new e = e ∙ sums_more (get_or b.ptr (R + 1) 0) (λ i t. added_blocks b x (b.width * R + i) t p (get_or b.ptr (R + 1) 0)) (rw inv.row.ends at sums_in) (λ i t k. refl)

  -- the whole row
  sums_row : (R from to fast p : ℕ) (sums new : List Float) → Sums R (λ i. zero64) from to fast p sums → from ≡ get_or b.ptr R 0
      → new ≡ each (λ i. added_blocks b x (b.width * R + i) (get_or sums i nan) p (get_or b.ptr (R + 1) 0)) b.width
      → new ≡ each (λ i. block_sum b x (b.width * R + i)) b.width
  sums_row R from to fast p sums new inv h e =
      sums_rest R (λ i. zero64) from to fast p sums inv new e
      ∙ each_cong (λ i. added_blocks b x (b.width * R + i) zero64 from (get_or b.ptr (R + 1) 0)) (λ i. block_sum b x (b.width * R + i)) b.width
      (λ i k. added-all (b.width * R + i) R from (get_or b.ptr (R + 1) 0) (row_over inv.row.ready.width R i k) h refl)

  -- ---- a full block row R beside another one: the first i of its blocks are added, of n that are full in both; a is where it starts

  pub record Beside (R a n i : ℕ) (sums : List Float) : Type 0 where
    pub to : ℕ
    pub fast : ℕ
    pub starts : a ≡ get_or b.ptr R 0
    pub reach : a + n ≤ fast
    pub so_far : Sums R (λ k. zero64) a to fast (a + i) sums

  -- count is how many full blocks the row starts with
  pub beside_none : (R a n count : ℕ) (sums : List Float) → Ready b x → b.width * R + b.width ≤ b.rows → a ≡ get_or b.ptr R 0
      → get_or b.ptr R 0 + count ≡ fast_end b.width b.cols b.col (get_or b.ptr R 0) (get_or b.ptr (R + 1) 0)
      → n ≤ count → sums ≡ each (λ k. zero64) b.width → Beside R a n 0 sums
  beside_none R a n count sums k h p f l e =
      let to : ℕ = get_or b.ptr (R + 1) 0 in
      let r : Row b x R a to = row_is k R a to (full_row k R h) p refl in
      let g : a + count ≡ fast_end b.width b.cols b.col a to = rw p f in
      record {
        to = to;
        fast = a + count;
        starts = p;
        reach = omega arith;
        so_far = sums_none R (λ k. zero64) a to (a + count) (a + 0) sums r h (fast_is r h (a + count) g) (add-zero a) e;
      }

  module _ (R a n i : ℕ) (sums : List Float) (inv : Beside R a n i sums) where
    pub beside_block : i < n → FullBlock b.width b.col b.vals x (a + i)
    beside_block h = full_block inv.so_far.row inv.so_far.ends (a + i) inv.so_far.after (omega (arith, inv.reach))

    -- v is the place of the block's first value as the code has it
    pub beside_more : (v : ℕ) (new : List Float) → i < n → v ≡ (a + i) * (b.width * b.width)
        → new ≡ each (λ j. add binary64 (get_or sums j nan) (as_one (products b.vals x (v + b.width * j) (b.width * get_or b.col (a + i) 0) b.width))) b.width → Beside R a n (i + 1) new
    beside_more v new h ev e =
        let next : a + i + 1 ≡ a + (i + 1) = omega arith in
        record {
          to = inv.to;
          fast = inv.fast;
          starts = inv.starts;
          reach = inv.reach;
          so_far = subst (λ (p : ℕ). Sums R (λ k. zero64) a inv.to inv.fast p new) next
              (sums_full R (λ k. zero64) a inv.to inv.fast (a + i) sums inv.so_far v (b.width * get_or b.col (a + i) 0) ev refl new (omega (arith, inv.reach)) e);
        }

    -- all n are added
    pub beside_all : i ≤ n → n ≤ i → Beside R a n n sums
    beside_all h l = let e : i ≡ n = omega arith in subst (λ (q : ℕ). Beside R a n q sums) e inv

    -- a callee adds the blocks that are left
    pub beside_row : (new : List Float) → new ≡ each (λ j. added_blocks b x (b.width * R + j) (get_or sums j nan) (a + i) (get_or b.ptr (R + 1) 0)) b.width → new ≡ each (λ j. block_sum b x (b.width * R + j)) b.width
    beside_row new e = sums_row R a inv.to inv.fast (a + i) sums new inv.so_far inv.starts e

  -- ---- a row r below the full block rows: the blocks up to place p are added

  pub record Sum (r last from to p : ℕ) (s : Float) : Type 0 where
    pub of : LastRow b x r last
    pub row : Row b x last from to
    pub starts : from ≡ get_or b.ptr last 0
    pub after : from ≤ p
    pub within : p ≤ to
    pub is : s ≡ added_blocks b x r zero64 from p

  pub sum-none : (r last from to : ℕ) → LastRow b x r last → from ≡ get_or b.ptr last 0 → to ≡ get_or b.ptr (last + 1) 0 → Sum r last from to from zero64
  sum-none r last from to k p q =
      let row : Row b x last from to = row_is k.ready last from to k.pointers p q in
      record { of = k; row = row; starts = p; after = le_refl from; within = row.order; is = sym (added_none r zero64 from) }

  module _ (r last from to p : ℕ) (s : Float) (inv : Sum r last from to p s) where
    over : r / b.width ≡ last
    over = last_over inv.of.ready.width b.rows r (rw inv.of.is at inv.of.below) inv.of.inside ∙ sym inv.of.is

    under : r % b.width ≡ r - b.width * last
    under = rw inv.of.is (last_under inv.of.ready.width b.rows r (rw inv.of.is at inv.of.below) inv.of.inside)

    -- v is the place of the row's first value in the block, c the block's first column, n how many of its columns lie inside
    block_alone : (v c n : ℕ) (t : Float) → v ≡ p * (b.width * b.width) + b.width * (r - b.width * last) → c ≡ b.width * get_or b.col p 0 → n ≡ min b.width (b.cols - c) → add_block b x r t p ≡ add binary64 t (term_by_term zero64 (products b.vals x v c n))
    unfolding add_block
    block_alone v c n t ev ec en =
        let short : b.rows < b.width * last + b.width = rw inv.of.is (last_short inv.of.ready.width b.rows) in
        rw (over, under, lt-leb (b.width * last + b.width) b.rows short, ev)
        (ap (λ (ts : List Float). add binary64 t (term_by_term zero64 ts)) (terms_are (r - b.width * last) p (p * (b.width * b.width)) c n refl ec (en ∙ ap (λ (k : ℕ). min b.width (b.cols - k)) ec)))

    pub sum_more : (v c n : ℕ) (t : Float) → v ≡ p * (b.width * b.width) + b.width * (r - b.width * last) → c ≡ b.width * get_or b.col p 0 → n ≡ min b.width (b.cols - c) → p < to → t ≡ term_by_term zero64 (products b.vals x v c n) → Sum r last from to (p + 1) (add binary64 s t)
    sum_more v c n t ev ec en l et = record {
      of = inv.of;
      row = inv.row;
      starts = inv.starts;
      after = omega (arith, inv.after);
      within = omega arith;
      is = ap₂ (add binary64) inv.is et ∙ sym (added_more r zero64 from p inv.after ∙ block_alone v c n (added_blocks b x r zero64 from p) ev ec en);
    }

    pub sum_done : to ≤ p → s ≡ block_sum b x r
    sum_done h =
        let end : p ≡ to = omega (arith, inv.within) in
        inv.is ∙ ap (added_blocks b x r zero64 from) end ∙ added-all r last from to over inv.starts inv.row.ends
