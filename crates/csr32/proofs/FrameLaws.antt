-- Laws of pointers into a list: what the rule says, a list by its rows, and the pointers of a list made row after row. Assumes nothing.
use mathlib.Core.Bool.{Bool, true, ◌&&◌}
use mathlib.Core.List.{List, [], ◌∷◌, ◌++◌}
use mathlib.Core.Path.{◌≡◌, refl, sym, ap, ◌∙◌}
use Prim.Native.Nat.{ℕ, zero, suc, ◌+◌, ◌≤◌, ◌<◌}
use native.Mathlib.Nat.{le_refl, not-suc-le-zero}
use native.Mathlib.Numerals.{add-one}
use native.Mathlib.Decide.{le_ind}
use native.Mathlib.Omega.{arith}
use lib.Dec.{leb, eqb}
use lib.ListN.{length, get_or, take, take-append-drop, length-take, length-drop}
use lib.Seq.{slice, take-take, take-length, length-take-le}
use borrow.Author.Tests.{le-leb, leb-true, eq-eqb, eqb-true}
use Rattle.hybit_core.proofs.BoolLaws.{and_left, and_right, and_both}
use Rattle.lent.specs.Lists.{joined, starts, part, rises}
use Rattle.lent.proofs.ListLaws.{get_or-starts, length-starts, length-joined-suc, part_empty}
use Rattle.std.proofs.lemmas.List.{get_or_past}
use Rattle.std.proofs.Math.Nat.{min-eq_left}
use Rattle.csr32.specs.Csr.{framed, framed_lists}

-- ---- lists that don't fall

rises_by : (a : ℕ) (l : List ℕ) → (0 < length l → a ≤ get_or l 0 0) → ((k : ℕ) → suc k < length l → get_or l k 0 ≤ get_or l (suc k) 0) → rises a l ≡ true
unfolding rises
rises_by a [] h g = refl
rises_by a (b ∷ l) h g = and_both (leb a b) (rises b l) (le-leb a b (h (omega arith))) (rises_by b l (λ z. g 0 (omega arith)) (λ k z. g (suc k) (omega arith)))

rises-at : (a : ℕ) (l : List ℕ) (k : ℕ) → rises a l ≡ true → suc k < length l → get_or l k 0 ≤ get_or l (suc k) 0
unfolding rises
rises-at a [] k e h = absurd (not-suc-le-zero h)
rises-at a (b ∷ []) k e h = absurd (omega arith)
rises-at a (b ∷ c ∷ l) zero e h = leb-true b c (and_left (leb b c) (rises c l) (and_right (leb a b) (leb b c && rises c l) e))
rises-at a (b ∷ c ∷ l) (suc k) e h = rises-at b (c ∷ l) k (and_right (leb a b) (leb b c && rises c l) e) (omega arith)

-- ---- what the rule says of the pointers

pub record Framed (rows : ℕ) (ptr : List ℕ) (n : ℕ) : Type 0 where
  pub long : length ptr ≡ suc rows
  pub zeroth : get_or ptr 0 0 ≡ 0
  pub last : get_or ptr rows 0 ≡ n
  pub rising : (i j : ℕ) → i ≤ j → j ≤ rows → get_or ptr i 0 ≤ get_or ptr j 0

pub framed_facts : (rows : ℕ) (ptr : List ℕ) (n : ℕ) → framed rows ptr n ≡ true → Framed rows ptr n
unfolding framed
framed_facts rows ptr n e =
    let f1 : Bool = eqb (length ptr) (suc rows) in
    let f2 : Bool = eqb (get_or ptr 0 0) 0 in
    let f3 : Bool = eqb (get_or ptr rows 0) n in
    let g : (f1 && f2 && f3) ≡ true = and_left (f1 && f2 && f3) (rises 0 ptr) e in
    let long : length ptr ≡ suc rows = eqb-true (length ptr) (suc rows) (and_left f1 f2 (and_left (f1 && f2) f3 g)) in
    let up : rises 0 ptr ≡ true = and_right (f1 && f2 && f3) (rises 0 ptr) e in
    record {
      long = long;
      zeroth = eqb-true (get_or ptr 0 0) 0 (and_right f1 f2 (and_left (f1 && f2) f3 g));
      last = eqb-true (get_or ptr rows 0) n (and_right (f1 && f2) f3 g);
      rising = λ i j h k. le_ind (λ (n : ℕ). n ≤ rows → get_or ptr i 0 ≤ get_or ptr n 0) (λ g. le_refl (get_or ptr i 0)) (λ n l f g. omega (arith, f (omega arith), rises-at 0 ptr n up (omega (arith, long)))) j h k;
    }

-- row r can be read: its two pointers are there, in order, and within the n places
pub record RowIn (ptr : List ℕ) (n r : ℕ) : Type 0 where
  pub here : r < length ptr
  pub next : r + 1 < length ptr
  pub order : get_or ptr r 0 ≤ get_or ptr (r + 1) 0
  pub inside : get_or ptr (r + 1) 0 ≤ n

pub row_in : (rows : ℕ) (ptr : List ℕ) (n r : ℕ) → Framed rows ptr n → r < rows → RowIn ptr n r
row_in rows ptr n r f h =
    let step : get_or ptr r 0 ≤ get_or ptr (r + 1) 0 = f.rising r (r + 1) (omega arith) (omega arith) in
    let rest : get_or ptr (r + 1) 0 ≤ get_or ptr rows 0 = f.rising (r + 1) rows (omega arith) (le_refl rows) in
    record { here = omega (arith, f.long); next = omega (arith, f.long); order = step; inside = omega (arith, rest, f.last) }

-- two lists side by side
module _ (rows : ℕ) (ptr : List ℕ) (a b : ℕ) (e : framed_lists rows ptr a b ≡ true) where
  pub lists_sides : a ≡ b
  unfolding framed_lists
  lists_sides = eqb-true a b (and_left (eqb a b) (framed rows ptr b) e)

  pub lists_frame : Framed rows ptr b
  unfolding framed_lists
  lists_frame = framed_facts rows ptr b (and_right (eqb a b) (framed rows ptr b) e)

  pub row_right : (r : ℕ) → r < rows → RowIn ptr b r
  row_right r h = row_in rows ptr b r lists_frame h

  pub row_left : (r : ℕ) → r < rows → RowIn ptr a r
  row_left r h = let x : RowIn ptr b r = row_right r h in record { here = x.here; next = x.next; order = x.order; inside = omega (arith, x.inside, lists_sides) }

-- past the last row there is nothing
pub part_after : {A : Type 0} (rows : ℕ) (ptr : List ℕ) (l : List A) (n r : ℕ) → Framed rows ptr n → rows ≤ r → [] ≡ part ptr l r
part_after rows ptr l n r f h =
    part_empty ptr l r 0 0 (sym (get_or_past ptr (r + 1) 0 (omega (arith, f.long)))) (sym (min-eq_left (omega arith))) (get_or ptr r 0) refl (omega arith)

-- ---- a list by its rows

module _ {A : Type 0} (rows : ℕ) (ptr : List ℕ) (l : List A) (f : Framed rows ptr (length l)) where
  parts_upto : (k : ℕ) → k ≤ rows → joined (part ptr l) k ≡ take (get_or ptr k 0) l
  unfolding joined part
  parts_upto zero h = sym (ap (λ (n : ℕ). take n l) f.zeroth)
  parts_upto (suc k) h =
      let a : ℕ = get_or ptr k 0 in
      let b : ℕ = get_or ptr (k + 1) 0 in
      let e : b ≡ get_or ptr (suc k) 0 = ap (λ (n : ℕ). get_or ptr n 0) (add-one k) in
      let s : a ≤ get_or ptr (suc k) 0 = f.rising k (suc k) (omega arith) h in
      let ab : a ≤ b = omega arith in
      ap (λ (t : List A). t ++ slice a b l) (parts_upto k (omega arith) ∙ sym (take-take a b l ab)) ∙ take-append-drop a (take b l) ∙ ap (λ (n : ℕ). take n l) e

  -- its rows, one after another, are the list
  pub parts_all : joined (part ptr l) rows ≡ l
  parts_all = parts_upto rows (le_refl rows) ∙ ap (λ (n : ℕ). take n l) f.last ∙ take-length l

  -- a pointer is the length of the rows before it
  pub parts-length : (k : ℕ) → k ≤ rows → length (joined (part ptr l) k) ≡ get_or ptr k 0
  parts-length k h = ap length (parts_upto k h) ∙ length-take-le (get_or ptr k 0) l (omega (arith, f.rising k rows h (le_refl rows), f.last))

-- lists of one length have rows of one length
pub part_lengths : {A B : Type 0} (ptr : List ℕ) (l : List A) (m : List B) (r : ℕ) → length l ≡ length m → length (part ptr l r) ≡ length (part ptr m r)
unfolding part
part_lengths ptr l m r e =
    let a : ℕ = get_or ptr r 0 in
    let b : ℕ = get_or ptr (r + 1) 0 in
    omega (arith, length-drop a (take b l), length-drop a (take b m), length-take b l, length-take b m)

-- a row is as long as its two pointers say
pub part_length : {A : Type 0} (ptr : List ℕ) (l : List A) (r : ℕ) → RowIn ptr (length l) r → get_or ptr r 0 + length (part ptr l r) ≡ get_or ptr (r + 1) 0
unfolding part
part_length ptr l r h =
    let a : ℕ = get_or ptr r 0 in
    let b : ℕ = get_or ptr (r + 1) 0 in
    omega (arith, length-drop a (take b l), length-take b l, h.order, h.inside)

-- ---- the pointers of a list made row after row keep the rule

pub framed-starts : {A : Type 0} (f : ℕ → List A) (n m : ℕ) → m ≡ length (joined f n) → framed n (starts f n) m ≡ true
unfolding framed joined
framed-starts f n m q =
    let l : length (starts f n) ≡ suc n = length-starts f n in
    and_both (eqb (length (starts f n)) (suc n) && eqb (get_or (starts f n) 0 0) 0 && eqb (get_or (starts f n) n 0) m) (rises 0 (starts f n))
    (and_both (eqb (length (starts f n)) (suc n) && eqb (get_or (starts f n) 0 0) 0) (eqb (get_or (starts f n) n 0) m)
    (and_both (eqb (length (starts f n)) (suc n)) (eqb (get_or (starts f n) 0 0) 0) (eq-eqb (length (starts f n)) (suc n) l) (eq-eqb (get_or (starts f n) 0 0) 0 (get_or-starts f n 0 (omega arith))))
    (eq-eqb (get_or (starts f n) n 0) m (get_or-starts f n n (le_refl n) ∙ sym q)))
    (rises_by 0 (starts f n) (λ z. omega arith)
    (λ k z. omega (arith, get_or-starts f n k (omega arith), get_or-starts f n (suc k) (omega arith), length-joined-suc f k)))
