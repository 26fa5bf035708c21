-- Laws of row products made side by side: a sum on the way, and a y on the way that is written in three thirds. Assumes nothing.
use mathlib.Core.Bool.{Bool, true, false}
use mathlib.Core.List.{List, [], ◌∷◌, zip, zip_with}
use mathlib.Core.Path.{◌≡◌, refl, sym, ap, ap₂, subst, ◌∙◌}
use Prim.Native.Nat.{ℕ, suc, ◌+◌, ◌-◌, ◌*◌, ◌≤◌, ◌<◌}
use native.Mathlib.Numerals.{add-one}
use native.Mathlib.Omega.{arith}
use lib.Dec.{eqb, ltb}
use lib.ListN.{length, get_or, set, length-set}
use lib.Seq.{slice-cons, slice_empty, get_or-set_same, get_or-set_other}
use lib.Ieee.{Float, nan, binary64, add, mul}
use borrow.Author.Tests.{eqb-true, eqb-false, ltb-true, ltb-false}
use Rattle.hybit_core.specs.Floats.{zero64}
use Rattle.lent.specs.Lists.{each, part}
use Rattle.lent.proofs.ListLaws.{each_is}
use Rattle.csr32.specs.Csr.{Csr, Entry, entries, at, row_product}
use Rattle.csr32.specs.Sums.{between, added_to, product_at, Sides, Places}
use Rattle.csr32.proofs.FrameLaws.{RowIn}
use Rattle.csr32.proofs.CsrLaws.{Valid, row_of}

-- ---- a sum on the way: s, with the entries from place p up to `to` still to be added, is `start` with all of the part

-- c is the column as the code reads it
pub product_is : (cs : List ℕ) (vs x : List Float) (p c : ℕ) → c ≡ get_or cs p 0 → mul binary64 (get_or vs p nan) (at x c) ≡ product_at cs vs x p
unfolding product_at
product_is cs vs x p c e = rw e

pub record Adding (cs : List ℕ) (vs x : List Float) (from to : ℕ) (start : Float) (p : ℕ) (s : Float) : Type 0 where
  pub is : added_to s (between cs vs p to) x ≡ added_to start (between cs vs from to) x

between_more : (cs : List ℕ) (vs : List Float) (p to : ℕ) → length vs ≡ length cs → p < to → to ≤ length cs → between cs vs p to ≡ (get_or cs p 0, get_or vs p nan) ∷ between cs vs (suc p) to
unfolding between zip zip_with
between_more cs vs p to e h k =
    let l : to ≤ length vs = omega arith in
    ap₂ (λ (a : List ℕ) (b : List Float). zip a b) (slice-cons p to cs 0 h k) (slice-cons p to vs nan h l)

between_none : (cs : List ℕ) (vs : List Float) (p : ℕ) → between cs vs p p ≡ []
unfolding between zip zip_with
between_none cs vs p = ap₂ (λ (a : List ℕ) (b : List Float). zip a b) (slice_empty p cs) (slice_empty p vs)

module _ (cs : List ℕ) (vs x : List Float) (from to : ℕ) (start : Float) where
  pub adding_none : (p : ℕ) → p ≡ from → Adding cs vs x from to start p start
  adding_none p e = record { is = ap (λ (k : ℕ). added_to start (between cs vs k to) x) e }

  module _ (p : ℕ) (s : Float) (inv : Adding cs vs x from to start p s) where
    -- t is the product that the code adds, q the next place
    pub adding_more : (t : Float) (q : ℕ) → t ≡ product_at cs vs x p → length vs ≡ length cs → p < to → to ≤ length cs → q ≡ p + 1 → Adding cs vs x from to start q (add binary64 s t)
    unfolding added_to product_at
    adding_more t q e same h k n =
        let next : q ≡ suc p = n ∙ add-one p in
        record { is = rw (e, next) (sym (ap (λ (l : List Entry). added_to s l x) (between_more cs vs p to same h k)) ∙ inv.is) }

    pub adding_done : p ≤ to → to ≤ p → s ≡ added_to start (between cs vs from to) x
    unfolding added_to
    adding_done h k =
        let end : p ≡ to = omega arith in
        sym (ap (λ (l : List Entry). added_to s l x) (ap (λ (n : ℕ). between cs vs n to) end ∙ between_none cs vs to)) ∙ inv.is

    -- what is left of the part, added by a callee
    pub adding_rest : (r : Float) → r ≡ added_to s (between cs vs p to) x → r ≡ added_to start (between cs vs from to) x
    adding_rest r e = e ∙ inv.is

-- ---- a row as a part of the lists

pub places_of : {m : Csr} → Valid m → (r a b : ℕ) → r < m.rows → a ≡ get_or m.ptr r 0 → b ≡ get_or m.ptr (r + 1) 0 → Places (length m.col) a b
places_of {m} v r a b h p q =
    let i : RowIn m.ptr (length m.col) r = row_of v h in
    record { order = omega (arith, i.order); inside = omega (arith, i.inside) }

pub sides_of : {m : Csr} → Valid m → (x : List Float) → length x ≡ m.cols → Sides m.col m.val x
sides_of v x e = record { same = sym v.sides; columns = rw e v.columns }

pub row_sum : (m : Csr) (x : List Float) (r a b : ℕ) (s : Float) → a ≡ get_or m.ptr r 0 → b ≡ get_or m.ptr (r + 1) 0 → s ≡ added_to zero64 (between m.col m.val a b) x → s ≡ row_product (entries m r) x
unfolding added_to between row_product entries part
row_sum m x r a b s p q e = e ∙ ap₂ (λ (i j : ℕ). added_to zero64 (between m.col m.val i j) x) p q

-- ---- a list that is written in parts: place k of it is f's, if there is such a place

pub record Known (f : ℕ → Float) (y : List Float) (k : ℕ) : Type 0 where
  pub is : k < length y → get_or y k nan ≡ f k

module _ (f : ℕ → Float) (y : List Float) (r : ℕ) (v : Float) (e : v ≡ f r) where
  pub known_new : (k : ℕ) → (k < length y → r ≡ k) → Known f (set y r v) k
  known_new k h = record {
    is = λ l.
        let l' : k < length y = omega (arith, length-set y r v) in
        let same : r ≡ k = h l' in
        let l'' : r < length y = omega arith in
        ap (λ (n : ℕ). get_or (set y r v) n nan) (sym same) ∙ get_or-set_same y r v nan l'' ∙ e ∙ ap f same;
  }

  pub known_kept : (k : ℕ) → Known f y k → Known f (set y r v) k
  known_kept k h = go (eqb k r) refl
    where
      go : (t : Bool) → eqb k r ≡ t → Known f (set y r v) k
      go true q = known_new k (λ l. sym (eqb-true k r q))
      go false q = record { is = λ l. let l' : k < length y = omega (arith, length-set y r v) in get_or-set_other y r k v nan (eqb-false k r q) ∙ h.is l' }

up_to_next : (P : ℕ → Type 0) (n : ℕ) → ((k : ℕ) → k < n → P k) → P n → (k : ℕ) → k < n + 1 → P k
up_to_next P n before here k h = go (eqb k n) refl
  where
    go : (t : Bool) → eqb k n ≡ t → P k
    go true e = subst P (sym (eqb-true k n e)) here
    go false e = before k (omega (arith, eqb-false k n e))

-- the first n places of each third
pub record Thirds (f : ℕ → Float) (q n : ℕ) (y : List Float) : Type 0 where
  pub first : (k : ℕ) → k < n → Known f y k
  pub second : (k : ℕ) → k < n → Known f y (k + q)
  pub third : (k : ℕ) → k < n → Known f y (k + 2 * q)

module _ (f : ℕ → Float) (q : ℕ) where
  pub thirds_none : (y : List Float) → Thirds f q 0 y
  thirds_none y = record { first = λ k h. absurd (omega arith); second = λ k h. absurd (omega arith); third = λ k h. absurd (omega arith) }

  -- one place more of each third: the stores at n, b and c, each of f's own; b and c are the places in their thirds where those exist
  pub thirds_more : (n : ℕ) (y : List Float) → Thirds f q n y → (b c : ℕ) (s t u : Float) → s ≡ f n → t ≡ f b → u ≡ f c
      → (n + q < length y → b ≡ n + q) → (n + 2 * q < length y → c ≡ n + 2 * q)
      → Thirds f q (n + 1) (set (set (set y n s) b t) c u)
  thirds_more n y inv b c s t u es et eu hb hc =
      let y1 : List Float = set y n s in
      let y2 : List Float = set y1 b t in
      let y3 : List Float = set y2 c u in
      let l1 : length y1 ≡ length y = length-set y n s in
      let l2 : length y2 ≡ length y = length-set y1 b t ∙ l1 in
      let last : (k : ℕ) → Known f y2 k → Known f y3 k = λ k h. known_kept f y2 c u eu k h in
      let late : (k : ℕ) → Known f y1 k → Known f y3 k = λ k h. last k (known_kept f y1 b t et k h) in
      let all : (k : ℕ) → Known f y k → Known f y3 k = λ k h. late k (known_kept f y n s es k h) in
      record {
        first = up_to_next (λ k. Known f y3 k) n (λ k h. all k (inv.first k h)) (late n (known_new f y n s es n (λ l. refl)));
        second = up_to_next (λ k. Known f y3 (k + q)) n (λ k h. all (k + q) (inv.second k h)) (last (n + q) (known_new f y1 b t et (n + q) (λ l. hb (omega arith))));
        third = up_to_next (λ k. Known f y3 (k + 2 * q)) n (λ k h. all (k + 2 * q) (inv.third k h)) (known_new f y2 c u eu (n + 2 * q) (λ l. hc (omega arith)));
      }

  pub thirds_done : (n : ℕ) (y : List Float) → Thirds f q n y → q ≤ n → (rows : ℕ) → length y ≡ rows → rows ≤ 3 * q → y ≡ each f rows
  thirds_done n y inv h rows e w = each_is nan f rows y e (λ k l. (by k (omega arith) (ltb k q) refl (ltb k (2 * q)) refl).is (omega arith))
    where
      by : (k : ℕ) → k < 3 * q → (t : Bool) → ltb k q ≡ t → (u : Bool) → ltb k (2 * q) ≡ u → Known f y k
      by k l true et u eu = inv.first k (omega (arith, ltb-true k q et))
      by k l false et true eu = let g : k - q + q ≡ k = omega (arith, ltb-false k q et) in subst (λ (i : ℕ). Known f y i) g (inv.second (k - q) (omega (arith, ltb-true k (2 * q) eu, ltb-false k q et)))
      by k l false et false eu = let g : k - 2 * q + 2 * q ≡ k = omega (arith, ltb-false k (2 * q) eu) in subst (λ (i : ℕ). Known f y i) g (inv.third (k - 2 * q) (omega (arith, ltb-false k (2 * q) eu)))
