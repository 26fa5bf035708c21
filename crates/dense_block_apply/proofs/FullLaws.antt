-- Where the full blocks of a block row end: block columns rise in a row, so that each block but the last lies inside the frame.
-- Assumes nothing.
use mathlib.Core.Bool.{Bool, true, false, cond, ◌&&◌}
use mathlib.Core.List.{List, [], ◌∷◌}
use mathlib.Core.Path.{◌≡◌, refl, ap, ap₂, ◌∙◌}
use Prim.Native.Nat.{ℕ, zero, suc, ◌+◌, ◌-◌, ◌*◌, ◌^◌, ◌≤◌, ◌<◌}
use native.Mathlib.Nat.{not-suc-le-zero}
use native.Mathlib.Decide.{dec_lt}
use native.Mathlib.Omega.{arith}
use lib.Dec.{leb, ltb}
use lib.ListN.{length, get_or, take}
use lib.Seq.{get_or-take, get_or-drop}
use lib.Ieee.{Float}
use mir.Syntax.{w64}
use mir.Val.{Fits}
use borrow.Author.Tests.{leb-true, ltb-true, ltb-false}
use Rattle.hybit_core.proofs.BoolLaws.{and_left, and_right, is_below, is_not_below}
use Rattle.lent.specs.Lists.{climbs, part}
use Rattle.word.proofs.BitLaws.{every-below-at}
use Rattle.csr32.proofs.FrameLaws.{part_length}
use Rattle.dense_block.specs.Blocks.{Blocks, blocks_for, rows_climb}
use Rattle.dense_block_apply.specs.Product.{Width, three, six, FullBlock, fast_end}
use Rattle.dense_block_apply.proofs.BlockLaws.{row_full, place_small, Row, full_row, place}

-- ---- rising lists

climbs-next : (a : ℕ) (l : List ℕ) (k : ℕ) → climbs a l ≡ true → suc k < length l → get_or l k 0 < get_or l (suc k) 0
unfolding climbs
climbs-next a [] k e h = absurd (not-suc-le-zero h)
climbs-next a (b ∷ []) k e h = absurd (omega arith)
climbs-next a (b ∷ c ∷ l) zero e h = leb-true (suc b) c (and_left (ltb b c) (climbs (suc c) l) (and_right (leb a b) (ltb b c && climbs (suc c) l) e))
climbs-next a (b ∷ c ∷ l) (suc k) e h = climbs-next (suc b) (c ∷ l) k (and_right (leb a b) (ltb b c && climbs (suc c) l) e) (omega arith)

part_at : (ps cs : List ℕ) (R k : ℕ) → get_or ps R 0 + k < get_or ps (R + 1) 0 → get_or (part ps cs R) k 0 ≡ get_or cs (get_or ps R 0 + k) 0
unfolding part
part_at ps cs R k h = get_or-drop (get_or ps R 0) (take (get_or ps (R + 1) 0) cs) k 0 ∙ get_or-take (get_or ps (R + 1) 0) cs (get_or ps R 0 + k) 0 h

-- ---- a block before another one of its row

full_by : {w : ℕ} → Width w → (C D n : ℕ) → C < D → w * D < n → w * C + w ≤ n
full_by three C D n h l = omega arith
full_by six C D n h l = omega arith

module _ {b : Blocks} {x : List Float} {R from to : ℕ} (r : Row b x R from to) (h : b.width * R + b.width ≤ b.rows) where
  column_next : (p : ℕ) → from ≤ p → p + 1 < to → get_or b.col p 0 < get_or b.col (p + 1) 0
  unfolding rows_climb
  column_next p l u =
      let a : ℕ = get_or b.ptr R 0 in
      let k : ℕ = p - a in
      let climb : climbs 0 (part b.ptr b.col R) ≡ true =
      every-below-at (λ R. climbs 0 (part b.ptr b.col R)) (λ R. true) (blocks_for b.width b.rows) R r.ready.climb (row_full r.ready.width R b.rows h) refl in
      let long = part_length b.ptr b.col R (full_row r.ready R h) in
      let here : a + k ≡ p = omega (arith, r.starts) in
      let next : a + suc k ≡ p + 1 = omega (arith, r.starts) in
      let first : get_or (part b.ptr b.col R) k 0 ≡ get_or b.col p 0 = part_at b.ptr b.col R k (omega (arith, r.ends)) ∙ ap (λ (q : ℕ). get_or b.col q 0) here in
      let second : get_or (part b.ptr b.col R) (suc k) 0 ≡ get_or b.col (p + 1) 0 = part_at b.ptr b.col R (suc k) (omega (arith, r.ends)) ∙ ap (λ (q : ℕ). get_or b.col q 0) next in
      omega (arith, climbs-next 0 (part b.ptr b.col R) k climb (omega (arith, r.ends, r.starts)))

  full_before : (p : ℕ) → from ≤ p → p + 1 < to → b.width * get_or b.col p 0 + b.width ≤ b.cols
  full_before p l u =
      full_by r.ready.width (get_or b.col p 0) (get_or b.col (p + 1) 0) b.cols (column_next p l u) (place r.ready (p + 1) (get_or b.col (p + 1) 0) (omega (arith, r.inside)) refl).column

-- ---- the blocks up to `fast` are full, and the one after them, if there is one, is the last and a tail

pub record Fast (b : Blocks) (from to fast : ℕ) : Type 0 where
  pub after : from ≤ fast
  pub within : fast ≤ to
  pub full : (p : ℕ) → from ≤ p → p < fast → b.width * get_or b.col p 0 + b.width ≤ b.cols
  pub last : fast < to → fast + 1 ≡ to
  pub tail : fast < to → b.cols < b.width * get_or b.col fast 0 + b.width

-- the code's number at each of its returns
module _ (from to : ℕ) where
  abbrev ends : Bool → Bool → ℕ
  ends s t = cond (s && t) (to - 1) to

  pub end_none : (t : Bool) → to ≤ from → to ≡ cond (ltb from to && t) (to - 1) to
  end_none t l = ap (λ (s : Bool). ends s t) (is_not_below from to l)

  -- C is the last block column as the code has it, D as the contract does
  module _ (w n C D : ℕ) (e : C ≡ D) (l : from < to) where
    pub end_tail : n < w * C + w → to - 1 ≡ cond (ltb from to && ltb n (w * D + w)) (to - 1) to
    end_tail h = ap₂ ends (is_below from to l) (is_below n (w * D + w) (rw e at h))

    pub end_full : w * C + w ≤ n → to ≡ cond (ltb from to && ltb n (w * D + w)) (to - 1) to
    end_full h = ap₂ ends (is_below from to l) (is_not_below n (w * D + w) (rw e at h))

-- that number is no place before the first
end_after : (w n : ℕ) (cs : List ℕ) (from to : ℕ) → from ≤ to → from ≤ fast_end w n cs from to
end_after w n cs from to h = go (ltb from to) (ltb n (w * get_or cs (to - 1) 0 + w)) refl
  where
    go : (s t : Bool) → ltb from to ≡ s → from ≤ cond (s && t) (to - 1) to
    go true true e = let l : from < to = ltb-true from to e in omega arith
    go true false e = h
    go false t e = h

-- a, e and fast as the code has them
module _ (w n : ℕ) (cs : List ℕ) (from to a e fast : ℕ) (p : a ≡ from) (q : e ≡ to) (h : from ≤ to) (f : fast ≡ fast_end w n cs a e) where
  whole : fast ≡ fast_end w n cs from to
  whole = f ∙ ap₂ (fast_end w n cs) p q

  pub count-after : a ≤ fast
  count-after = rw (whole, p) (end_after w n cs from to h)

  pub count_is : from + (fast - a) ≡ fast_end w n cs from to
  count_is = let l = count-after in let k : from + (fast - a) ≡ fast = omega arith in k ∙ whole

-- what that number says
pub fast_is : {b : Blocks} {x : List Float} {R from to : ℕ} → Row b x R from to → b.width * R + b.width ≤ b.rows → (fast : ℕ)
    → fast ≡ fast_end b.width b.cols b.col from to → Fast b from to fast
fast_is {b} {x} {R} {from} {to} r h fast = go (ltb from to) (ltb b.cols (final + b.width)) refl refl
  where
    final : ℕ
    final = b.width * get_or b.col (to - 1) 0

    go : (s t : Bool) → ltb from to ≡ s → ltb b.cols (final + b.width) ≡ t → fast ≡ cond (s && t) (to - 1) to → Fast b from to fast
    go true true p q e =
        let l : from < to = ltb-true from to p in
        record {
          after = omega arith;
          within = omega arith;
          full = λ k i u. full_before r h k i (omega arith);
          last = λ u. omega arith;
          tail = λ u. rw e (ltb-true b.cols (final + b.width) q);
        }
    go true false p q e = record { after = omega (arith, r.order); within = omega arith; full = λ k i u. one k i u (dec_lt (k + 1) to); last = λ u. absurd (omega arith); tail = λ u. absurd (omega arith) }
      where
        one : (k : ℕ) → from ≤ k → k < fast → Dec (k + 1 < to) → b.width * get_or b.col k 0 + b.width ≤ b.cols
        one k i u (yes m) = full_before r h k i m
        one k i u (no m) = let z : k ≡ to - 1 = omega arith in rw z (ltb-false b.cols (final + b.width) q)
    go false t p q e =
        let l : to ≤ from = ltb-false from to p in
        record { after = omega (arith, r.order); within = omega arith; full = λ k i u. absurd (omega arith); last = λ u. absurd (omega arith); tail = λ u. absurd (omega arith) }

-- the place after the full blocks, where it is not the row's end
pub record TailPlace (b : Blocks) (to p : ℕ) : Type 0 where
  pub last : p + 1 ≡ to
  pub tail : b.cols < b.width * get_or b.col p 0 + b.width

pub tail_place : {b : Blocks} {from to fast : ℕ} → Fast b from to fast → (p : ℕ) → p ≤ fast → fast ≤ p → (p ≡ to → ⊥) → TailPlace b to p
tail_place {b} {from} {to} {fast} f p l h u =
    let e : p ≡ fast = omega arith in
    let i : fast < to = omega (arith, f.within) in
    record { last = omega (arith, f.last i); tail = rw e (f.tail i) }

-- ---- a block as the code reads it

-- C is its block column, v the place of its first value and n the number of its columns inside
pub record TailBlock (b : Blocks) (x : List Float) (p C : ℕ) : Type 0 where
  pub column_fits : Fits w64 (b.width * C)
  pub inside : b.width * C ≤ b.cols
  pub value_fits : (v : ℕ) → v ≡ p * (b.width * b.width) → Fits w64 v
  pub asked : (v n : ℕ) → v ≡ p * (b.width * b.width) → n ≡ b.cols - b.width * C
      → ((v + b.width * b.width ≤ length b.vals) × (n ≤ b.width)) × ((b.width * C + n ≤ length x) × ((v ≤ 2 ^ 39) × (b.width * C ≤ 2 ^ 39)))

module _ {b : Blocks} {x : List Float} {R from to fast : ℕ} (r : Row b x R from to) (f : Fast b from to fast) (p : ℕ) where
  pub full_block : from ≤ p → p < fast → FullBlock b.width b.col b.vals x p
  full_block l h =
      let here : p < length b.col = omega (arith, f.within, r.inside) in
      let q = place r.ready p (get_or b.col p 0) here refl in
      record { here = here; small = q.small; values = q.values; column = rw r.ready.x_long (f.full p l h); few = rw r.ready.x_long r.ready.cols_in }

  pub tail_block : (C : ℕ) → C ≡ get_or b.col p 0 → p ≤ fast → fast ≤ p → (p ≡ to → ⊥) → TailBlock b x p C
  tail_block C e l h u =
      let q = place r.ready p C (omega (arith, f.within, r.inside)) e in
      let column : b.width * C < b.cols = q.column in
      let values : p * (b.width * b.width) + b.width * b.width ≤ length b.vals = q.values in
      let small : p * (b.width * b.width) ≤ 2 ^ 39 = place_small r.ready.width p q.small in
      let tail : b.cols < b.width * C + b.width = rw e (tail_place f p l h u).tail in
      let few : b.cols ≤ 2 ^ 20 = r.ready.cols_in in
      let long : length x ≡ b.cols = r.ready.x_long in
      record {
        column_fits = omega arith;
        inside = omega arith;
        value_fits = λ v ev. omega arith;
        asked = λ v n ev en. ((omega arith, omega arith), (omega arith, (omega arith, omega arith)));
      }
