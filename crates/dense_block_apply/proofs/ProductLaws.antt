-- The product of accepted blocks on the way: the full block rows in two halves, then row after row. Assumes nothing.
use mathlib.Core.Bool.{Bool, true, false}
use mathlib.Core.List.{List, [], ◌∷◌, ◌++◌}
use mathlib.Core.Path.{◌≡◌, refl, sym, ap, ap₂, subst, ◌∙◌}
use Prim.Native.Nat.{ℕ, min, ◌+◌, ◌-◌, ◌*◌, ◌/◌, ◌≤◌, ◌<◌}
use native.Mathlib.Nat.{le_refl, add-zero, mul-zero, mul-div-le}
use native.Mathlib.Numerals.{add-one}
use native.Mathlib.Omega.{arith}
use lib.Dec.{eqb, ltb}
use lib.ListN.{length, get_or, take, drop, set, get_or-append, length-append, length-set, length-take, length-drop}
use lib.Seq.{take_all, take-suc-set, get_or-take, get_or-drop, get_or-append-add, length-take-le}
use lib.Ieee.{Float, nan}
use borrow.Author.Tests.{eqb-true, eqb-false, ltb-true, ltb-false}
use Rattle.std.specs.Int.{div_ceil}
use Rattle.hybit_core.specs.Answer.{accepted}
use Rattle.lent.specs.Lists.{joined, each}
use Rattle.lent.proofs.ListLaws.{get_or-each, length-each, each_is}
use Rattle.csr32.proofs.SumLaws.{Known, known_new, known_kept}
use Rattle.dense_block.specs.Blocks.{width_of, Blocks, as_blocks}
use Rattle.dense_block.specs.declared.DenseBlockSize.{DenseBlockSize}
use Rattle.dense_block_apply.specs.Product.{Width, three, six, block_sum, blocks_product, apply_blocks_answer}
use Rattle.dense_block_apply.proofs.BlockLaws.{y_long}

module _ (b : Blocks) (x : List Float) where
  -- the first r rows are written
  pub record Done (r : ℕ) (y : List Float) : Type 0 where
    pub long : length y ≡ b.rows
    pub inside : r ≤ b.rows
    pub is : take r y ≡ each (block_sum b x) r

  -- the full block rows are written: w is the width and l their number, as the code has them
  full_rows : (w l : ℕ) → w ≡ b.width → l ≡ b.rows / b.width → w * l ≡ b.width * (b.rows / b.width)
  full_rows w l p q = ap₂ (λ (i j : ℕ). i * j) p q

  pub full_inside : (w l : ℕ) → w ≡ b.width → l ≡ b.rows / b.width → w * l ≤ b.rows
  full_inside w l p q = rw (full_rows w l p q) (mul-div-le b.rows b.width)

  pub full_after : (w l : ℕ) → w ≡ b.width → l ≡ b.rows / b.width → b.width * (b.rows / b.width) ≤ w * l
  full_after w l p q = rw (full_rows w l p q) (le_refl (b.width * (b.rows / b.width)))

  pub done_full : (y : List Float) → length y ≡ b.rows → take (b.width * (b.rows / b.width)) y ≡ each (block_sum b x) (b.width * (b.rows / b.width)) → Done (b.width * (b.rows / b.width)) y
  done_full y e h = record { long = e; inside = mul-div-le b.rows b.width; is = h }

  each_more : (r : ℕ) → each (block_sum b x) (r + 1) ≡ each (block_sum b x) r ++ (block_sum b x r ∷ [])
  unfolding each joined
  each_more r = ap (each (block_sum b x)) (add-one r)

  module _ (r : ℕ) (y : List Float) (inv : Done r y) where
    pub done_more : (v : Float) → r < b.rows → v ≡ block_sum b x r → Done (r + 1) (set y r v)
    done_more v h e = record {
      long = length-set y r v ∙ inv.long;
      inside = omega arith;
      is =
          ap (λ (k : ℕ). take k (set y r v)) (add-one r) ∙ take-suc-set y r v (omega (arith, inv.long))
          ∙ (λ i. inv.is i ++ (e i ∷ [])) ∙ sym (each_more r);
    }

    pub done_all : b.rows ≤ r → y ≡ blocks_product b x
    unfolding blocks_product
    done_all h =
        let e : r ≡ b.rows = omega (arith, inv.inside) in
        sym (take_all r y (omega (arith, inv.long))) ∙ inv.is ∙ ap (each (block_sum b x)) e

-- ---- n numbers written from place `at` on are f's, and what was known of y stays known

pub record Wrote (f : ℕ → Float) (at n : ℕ) (y z : List Float) : Type 0 where
  pub long : length z ≡ length y
  pub kept : (k : ℕ) → Known f y k → Known f z k
  pub new : (k : ℕ) → at ≤ k → k < at + n → Known f z k

-- as the code writes them, the n numbers of sums in the place of those of y
pub wrote_rows : (f : ℕ → Float) (at n : ℕ) (y sums z : List Float) → at + n ≤ length y → sums ≡ each (λ j. f (at + j)) n → z ≡ take at y ++ sums ++ drop (at + n) y → Wrote f at n y z
wrote_rows f at n y sums z h e q = record {
  long = size;
  kept = λ k w. go k w (ltb k at) refl (ltb k (at + n)) refl;
  new = λ k l u. record { is = λ b. ap (λ (t : List Float). get_or t k nan) q ∙ within k l u };
}
  where
    front_long : length (take at y) ≡ at
    front_long = length-take-le at y (omega arith)

    sums_long : length sums ≡ n
    sums_long = ap length e ∙ length-each (λ j. f (at + j)) n

    both_long : length (take at y ++ sums) ≡ at + n
    both_long = length-append (take at y) sums ∙ ap₂ (λ (i j : ℕ). i + j) front_long sums_long

    size : length z ≡ length y
    size = ap length q ∙ length-append (take at y ++ sums) (drop (at + n) y) ∙ omega (arith, both_long, length-drop (at + n) y)

    before : (k : ℕ) → k < at → get_or (take at y ++ sums ++ drop (at + n) y) k nan ≡ get_or y k nan
    before k l =
        get_or-append (take at y ++ sums) (drop (at + n) y) nan k (omega (arith, both_long))
        ∙ get_or-append (take at y) sums nan k (omega (arith, front_long)) ∙ get_or-take at y k nan l

    within : (k : ℕ) → at ≤ k → k < at + n → get_or (take at y ++ sums ++ drop (at + n) y) k nan ≡ f k
    within k l u =
        let place : k ≡ length (take at y) + (k - at) = omega (arith, front_long) in
        let back : at + (k - at) ≡ k = omega arith in
        get_or-append (take at y ++ sums) (drop (at + n) y) nan k (omega (arith, both_long))
        ∙ ap (λ (i : ℕ). get_or (take at y ++ sums) i nan) place ∙ get_or-append-add (take at y) sums (k - at) nan
        ∙ ap (λ (t : List Float). get_or t (k - at) nan) e ∙ get_or-each (λ j. f (at + j)) n (k - at) nan (omega arith) ∙ ap f back

    after : (k : ℕ) → at + n ≤ k → get_or (take at y ++ sums ++ drop (at + n) y) k nan ≡ get_or y k nan
    after k l =
        let place : k ≡ length (take at y ++ sums) + (k - (at + n)) = omega (arith, both_long) in
        let back : at + n + (k - (at + n)) ≡ k = omega arith in
        ap (λ (i : ℕ). get_or (take at y ++ sums ++ drop (at + n) y) i nan) place
        ∙ get_or-append-add (take at y ++ sums) (drop (at + n) y) (k - (at + n)) nan ∙ get_or-drop (at + n) y (k - (at + n)) nan ∙ ap (λ (i : ℕ). get_or y i nan) back

    go : (k : ℕ) → Known f y k → (s : Bool) → ltb k at ≡ s → (t : Bool) → ltb k (at + n) ≡ t → Known f z k
    go k w true p t r = record { is = λ b. ap (λ (l : List Float). get_or l k nan) q ∙ before k (ltb-true k at p) ∙ w.is (omega (arith, size)) }
    go k w false p true r = record { is = λ b. ap (λ (l : List Float). get_or l k nan) q ∙ within k (ltb-false k at p) (ltb-true k (at + n) r) }
    go k w false p false r = record { is = λ b. ap (λ (l : List Float). get_or l k nan) q ∙ after k (ltb-false k (at + n) r) ∙ w.is (omega (arith, size)) }

-- the numbers written one after another
module _ (f : ℕ → Float) (at : ℕ) (y : List Float) where
  wrote_none : Wrote f at 0 y y
  wrote_none = record { long = refl; kept = λ k h. h; new = λ k l u. absurd (omega arith) }

  -- p is the next place
  wrote_more : (n p : ℕ) (z : List Float) (v : Float) → Wrote f at n y z → p ≡ at + n → v ≡ f p → Wrote f at (n + 1) y (set z p v)
  wrote_more n p z v w e g = record {
    long = length-set z p v ∙ w.long;
    kept = λ k h. known_kept f z p v g k (w.kept k h);
    new = λ k l u. go k l u (eqb k p) refl;
  }
    where
      go : (k : ℕ) → at ≤ k → k < at + (n + 1) → (t : Bool) → eqb k p ≡ t → Known f (set z p v) k
      go k l u true q = known_new f z p v g k (λ h. sym (eqb-true k p q))
      go k l u false q = known_kept f z p v g k (w.new k l (omega (arith, eqb-false k p q)))

  module _ (sums z : List Float) where
    taken : (n : ℕ) → sums ≡ each (λ j. f (at + j)) n → (i : ℕ) → i < n → get_or sums i nan ≡ f (at + i)
    taken n e i h = ap (λ (t : List Float). get_or t i nan) e ∙ get_or-each (λ j. f (at + j)) n i nan h

    first_taken : (n : ℕ) → sums ≡ each (λ j. f (at + j)) n → 0 < n → get_or sums 0 nan ≡ f at
    first_taken n e h = taken n e 0 h ∙ ap f (add-zero at)

    wrote_three : sums ≡ each (λ j. f (at + j)) 3 → z ≡ set (set (set y at (get_or sums 0 nan)) (at + 1) (get_or sums 1 nan)) (at + 2) (get_or sums 2 nan) → Wrote f at 3 y z
    wrote_three e q =
        let g = taken 3 e in
        let a = wrote_more 0 at _ _ wrote_none (sym (add-zero at)) (first_taken 3 e (omega arith)) in
        let b = wrote_more 1 (at + 1) _ _ a refl (g 1 (omega arith)) in
        rw q (wrote_more 2 (at + 2) _ _ b refl (g 2 (omega arith)))

    wrote_six : sums ≡ each (λ j. f (at + j)) 6
        → z ≡ set (set (set (set (set (set y at (get_or sums 0 nan)) (at + 1) (get_or sums 1 nan)) (at + 2) (get_or sums 2 nan)) (at + 3) (get_or sums 3 nan)) (at + 4) (get_or sums 4 nan)) (at + 5) (get_or sums 5 nan)
        → Wrote f at 6 y z
    wrote_six e q =
        let g = taken 6 e in
        let a = wrote_more 0 at _ _ wrote_none (sym (add-zero at)) (first_taken 6 e (omega arith)) in
        let b = wrote_more 1 (at + 1) _ _ a refl (g 1 (omega arith)) in
        let c = wrote_more 2 (at + 2) _ _ b refl (g 2 (omega arith)) in
        let d = wrote_more 3 (at + 3) _ _ c refl (g 3 (omega arith)) in
        let h = wrote_more 4 (at + 4) _ _ d refl (g 4 (omega arith)) in
        rw q (wrote_more 5 (at + 5) _ _ h refl (g 5 (omega arith)))

-- ---- the first `top` places in two halves, the second from place q on: the first n of each are known

pub record Halves (f : ℕ → Float) (top q n : ℕ) (y : List Float) : Type 0 where
  pub first : (k : ℕ) → k < n → Known f y k
  pub second : (k : ℕ) → k < n → k + q < top → Known f y (k + q)

module _ (f : ℕ → Float) (top q : ℕ) where
  halves_none : (y : List Float) → Halves f top q 0 y
  halves_none y = record { first = λ k h. absurd (omega arith); second = λ k h t. absurd (omega arith) }

  module _ (n : ℕ) (y : List Float) (inv : Halves f top q n y) where
    -- w places more of each half, those of the second from place o on, which is theirs where they exist
    halves_more : (w o m : ℕ) (z u : List Float) → Wrote f n w y z → Wrote f o w z u → (n + q < top → o ≡ n + q) → m ≡ n + w → Halves f top q m u
    halves_more w o m z u a b there e = record { first = λ k h. one k (omega arith) (ltb k n) refl; second = λ k h t. two k (omega arith) t (ltb k n) refl }
      where
        one : (k : ℕ) → k < n + w → (t : Bool) → ltb k n ≡ t → Known f u k
        one k h true p = b.kept k (a.kept k (inv.first k (ltb-true k n p)))
        one k h false p = b.kept k (a.new k (ltb-false k n p) h)

        two : (k : ℕ) → k < n + w → k + q < top → (t : Bool) → ltb k n ≡ t → Known f u (k + q)
        two k h l true p = b.kept (k + q) (a.kept (k + q) (inv.second k (ltb-true k n p) l))
        two k h l false p =
            let after : n ≤ k = ltb-false k n p in
            let at : o ≡ n + q = there (omega arith) in
            b.new (k + q) (omega arith) (omega arith)

    halves_done : q ≤ n → top ≤ 2 * q → top ≤ length y → take top y ≡ each f top
    halves_done h l long = each_is nan f top (take top y) (simp length-take (omega arith)) (λ k u. get_or-take top y k nan u ∙ (known k u (ltb k q) refl).is (omega arith))
      where
        known : (k : ℕ) → k < top → (t : Bool) → ltb k q ≡ t → Known f y k
        known k u true p = inv.first k (omega (arith, ltb-true k q p))
        known k u false p =
            let after : q ≤ k = ltb-false k q p in
            let back : k - q + q ≡ k = omega arith in
            subst (λ (i : ℕ). Known f y i) back (inv.second (k - q) (omega arith) (omega arith))

-- ---- the block rows `row`, in the first half of the full ones, and `other`, in the second

pub record Apart (w n half row other : ℕ) : Type 0 where
  pub early : w * row ≤ n
  pub late : w * other ≤ n
  pub first : w * row + w ≤ n
  pub second : w * other + w ≤ n
  pub there : w * row + w * half < w * (n / w) → w * other ≡ w * row + w * half

-- half as the code has it
pub half_is : (m : ℕ) → div_ceil m 2 ≡ (m + 1) / 2
half_is m = omega arith

pub apart : {w : ℕ} → Width w → (n half row other : ℕ) → half ≡ div_ceil (n / w) 2 → row < half → other ≡ min (row + half) (n / w - 1) → Apart w n ((n / w + 1) / 2) row other
apart three n half row other q h e = record { early = omega arith; late = omega arith; first = omega arith; second = omega arith; there = λ l. omega arith }
apart six n half row other q h e = record { early = omega arith; late = omega arith; first = omega arith; second = omega arith; there = λ l. omega arith }

half_reaches : {w : ℕ} → Width w → (n : ℕ) → w * (n / w) ≤ 2 * (w * ((n / w + 1) / 2))
half_reaches three n = omega arith
half_reaches six n = omega arith

half_order : {w : ℕ} → Width w → (half row : ℕ) → half ≤ row → w * half ≤ w * row
half_order three half row h = omega arith
half_order six half row h = omega arith

step_more : {w : ℕ} → Width w → (row : ℕ) → w * (row + 1) ≡ w * row + w
step_more three row = omega arith
step_more six row = omega arith

module _ (b : Blocks) (x : List Float) where
  -- the first `row` block rows of each half are written
  pub record Written (row : ℕ) (y : List Float) : Type 0 where
    pub long : length y ≡ b.rows
    pub halves : Halves (block_sum b x) (b.width * (b.rows / b.width)) (b.width * ((b.rows / b.width + 1) / 2)) (b.width * row) y

  pub wrote3 : (R : ℕ) (y sums z : List Float) → sums ≡ each (λ j. block_sum b x (3 * R + j)) 3
      → z ≡ set (set (set y (3 * R) (get_or sums 0 nan)) (3 * R + 1) (get_or sums 1 nan)) (3 * R + 2) (get_or sums 2 nan) → Wrote (block_sum b x) (3 * R) 3 y z
  wrote3 R y sums z = wrote_three (block_sum b x) (3 * R) y sums z

  pub wrote6 : (R : ℕ) (y sums z : List Float) → sums ≡ each (λ j. block_sum b x (6 * R + j)) 6
      → z ≡ set (set (set (set (set (set y (6 * R) (get_or sums 0 nan)) (6 * R + 1) (get_or sums 1 nan)) (6 * R + 2) (get_or sums 2 nan)) (6 * R + 3) (get_or sums 3 nan)) (6 * R + 4) (get_or sums 4 nan)) (6 * R + 5) (get_or sums 5 nan)
      → Wrote (block_sum b x) (6 * R) 6 y z
  wrote6 R y sums z = wrote_six (block_sum b x) (6 * R) y sums z

  pub written_none : Width b.width → (y : List Float) → length y ≡ b.rows → Written 0 y
  written_none w y e = record { long = e; halves = subst (λ (n : ℕ). Halves (block_sum b x) (b.width * (b.rows / b.width)) (b.width * ((b.rows / b.width + 1) / 2)) n y) (sym (mul-zero b.width)) (halves_none (block_sum b x) (b.width * (b.rows / b.width)) (b.width * ((b.rows / b.width + 1) / 2)) y) }

  module _ (w : Width b.width) (row : ℕ) (y : List Float) (inv : Written row y) where
    pub written_more : (other : ℕ) (z u : List Float) → Apart b.width b.rows ((b.rows / b.width + 1) / 2) row other
        → Wrote (block_sum b x) (b.width * row) b.width y z → Wrote (block_sum b x) (b.width * other) b.width z u → Written (row + 1) u
    written_more other z u a one two = record {
      long = two.long ∙ one.long ∙ inv.long;
      halves =
          halves_more (block_sum b x) (b.width * (b.rows / b.width)) (b.width * ((b.rows / b.width + 1) / 2)) (b.width * row) y inv.halves b.width (b.width * other) (b.width * (row + 1)) z u one two a.there (step_more w row);
    }

    -- y has each place that the rows have, and so has z, which is y with some written
    pub room : (m : ℕ) → m ≤ b.rows → m ≤ length y
    room m h = rw inv.long h

    pub room_still : (at n : ℕ) (z : List Float) → Wrote (block_sum b x) at n y z → (m : ℕ) → m ≤ b.rows → m ≤ length z
    room_still at n z one m h = rw one.long (room m h)

    -- as the call for the rows below asks it
    pub written_answer : (ny : ℕ) → apply_blocks_answer b x ny ≡ accepted → apply_blocks_answer b x (length y) ≡ accepted
    written_answer ny a = ap (apply_blocks_answer b x) (inv.long ∙ sym (y_long b x ny a)) ∙ a

    pub written_front : (half : ℕ) → half ≡ div_ceil (b.rows / b.width) 2 → half ≤ row → take (b.width * (b.rows / b.width)) y ≡ each (block_sum b x) (b.width * (b.rows / b.width))
    written_front half q h =
        halves_done (block_sum b x) (b.width * (b.rows / b.width)) (b.width * ((b.rows / b.width + 1) / 2)) (b.width * row) y inv.halves
        (half_order w ((b.rows / b.width + 1) / 2) row (omega arith)) (half_reaches w b.rows) (rw inv.long (mul-div-le b.rows b.width))

-- ---- what is said of a variant's width, said of the size that is at it

module _ (s v : DenseBlockSize) (n m : ℕ) (ps cs : List ℕ) (vs x : List Float) (e : s ≡ v) where
  pub answer_at : (ny : ℕ) → apply_blocks_answer (as_blocks n m (width_of s) ps cs vs) x ny ≡ accepted → apply_blocks_answer (as_blocks n m (width_of v) ps cs vs) x ny ≡ accepted
  answer_at ny a = sym (ap (λ (t : DenseBlockSize). apply_blocks_answer (as_blocks n m (width_of t) ps cs vs) x ny) e) ∙ a

  pub product_at_lem : (y : List Float) → y ≡ blocks_product (as_blocks n m (width_of v) ps cs vs) x → y ≡ blocks_product (as_blocks n m (width_of s) ps cs vs) x
  product_at_lem y q = q ∙ sym (ap (λ (t : DenseBlockSize). blocks_product (as_blocks n m (width_of t) ps cs vs) x) e)
