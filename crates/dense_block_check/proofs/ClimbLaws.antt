-- What the scans find: the block columns of a row rise and lie below a limit, and those of every row do. Assumes nothing.
use mathlib.Core.Bool.{Bool, true, false, not, ◌&&◌, and-true, and_assoc}
use mathlib.Core.List.{List, [], ◌∷◌}
use mathlib.Core.Path.{◌≡◌, refl, sym, ap, ap₂, ◌∙◌}
use Prim.Native.Nat.{ℕ, suc, ◌+◌, ◌-◌, ◌≤◌, ◌<◌}
use native.Mathlib.Nat.{sub-zero}
use native.Mathlib.Numerals.{add-one}
use native.Mathlib.Omega.{arith}
use lib.Dec.{ltb}
use lib.ListN.{length, get_or, take, drop, drop_of_length-le}
use lib.Seq.{drop-cons, take_all}
use borrow.Author.Tests.{le-leb, lt-ltb, ltb-true}
use Rattle.hybit_core.proofs.BoolLaws.{and_left, and_right, and_both, same_test, flag_on, flag_off}
use Rattle.lent.specs.Lists.{every, climbs, part}
use Rattle.lent.proofs.ListLaws.{part_lent, every-part, every-joined}
use Rattle.word.specs.Bits.{from, below}
use Rattle.word.proofs.BitLaws.{every-below, every-below-at}
use Rattle.csr32.specs.Csr.{framed}
use Rattle.csr32.proofs.FrameLaws.{Framed, framed_facts, parts_all}
use Rattle.dense_block.specs.Blocks.{Blocks, blocks_for, rows_climb}

-- ---- one row: the block columns from place i on are still to be tested

-- the columns rise, and each is below m
abbrev pub columns_keep : ℕ → List ℕ → Bool
columns_keep m cs = climbs 0 cs && every (λ c. ltb c m) cs

-- the same of a and the columns after it
unfoldable pub rest : ℕ → ℕ → List ℕ → Bool
rest m a cs = climbs (suc a) cs && every (λ c. ltb c m) (a ∷ cs)

-- of rising columns the last decides
rest_last : (m a : ℕ) → rest m a [] ≡ ltb a m
unfolding rest climbs every
rest_last m a = and-true (ltb a m)

rest_more : (m a b : ℕ) (cs : List ℕ) → rest m a (b ∷ cs) ≡ (ltb a b && rest m b cs)
unfolding rest climbs every
rest_more m a b cs = same_test (rest m a (b ∷ cs)) (ltb a b && rest m b cs) down up
  where
    in_b : Bool
    in_b = every (λ c. ltb c m) (b ∷ cs)

    down : rest m a (b ∷ cs) ≡ true → (ltb a b && rest m b cs) ≡ true
    down e =
        let rise : (ltb a b && climbs (suc b) cs) ≡ true = and_left (ltb a b && climbs (suc b) cs) (ltb a m && in_b) e in
        and_both (ltb a b) (rest m b cs) (and_left (ltb a b) (climbs (suc b) cs) rise)
        (and_both (climbs (suc b) cs) in_b (and_right (ltb a b) (climbs (suc b) cs) rise) (and_right (ltb a m) in_b (and_right (ltb a b && climbs (suc b) cs) (ltb a m && in_b) e)))

    up : (ltb a b && rest m b cs) ≡ true → rest m a (b ∷ cs) ≡ true
    up e =
        let r : rest m b cs ≡ true = and_right (ltb a b) (rest m b cs) e in
        let l : ltb a b ≡ true = and_left (ltb a b) (rest m b cs) e in
        let i : in_b ≡ true = and_right (climbs (suc b) cs) in_b r in
        let h : b < m = ltb-true b m (and_left (ltb b m) (every (λ c. ltb c m) cs) i) in
        and_both (ltb a b && climbs (suc b) cs) (ltb a m && in_b) (and_both (ltb a b) (climbs (suc b) cs) l (and_left (climbs (suc b) cs) in_b r))
        (and_both (ltb a m) in_b (lt-ltb a m (omega (arith, ltb-true a b l))) i)

pub keeps-none : (m : ℕ) (cs : List ℕ) → length cs ≡ 0 → true ≡ columns_keep m cs
unfolding climbs every
keeps-none m [] e = refl
keeps-none m (a ∷ cs) e = absurd (omega arith)

-- of the columns ds after the first one those from place i on are still to be tested, and a is the column before them
pub record Keeping (m : ℕ) (cs ds : List ℕ) (holds : Bool) (a i : ℕ) : Type 0 where
  pub is : columns_keep m cs ≡ (holds && rest m a (drop i ds))

pub keeping_first : (m : ℕ) (cs : List ℕ) → (length cs ≡ 0 → ⊥) → Keeping m cs cs true (get_or cs 0 0) 1
unfolding rest climbs
keeping_first m [] h = absurd (h refl)
keeping_first m (a ∷ cs) h = record { is = ap (λ (t : Bool). t && climbs (suc a) cs && every (λ c. ltb c m) (a ∷ cs)) (le-leb 0 a (omega arith)) }

pub keeping_one : (m : ℕ) (cs : List ℕ) → (length cs ≡ 0 → ⊥) → Keeping m cs (take (length cs - 1) (drop 1 cs)) true (get_or cs 0 0) 0
unfolding rest climbs
keeping_one m [] h = absurd (h refl)
keeping_one m (a ∷ cs) h =
    let all : take (suc (length cs) - 1) cs ≡ cs = take_all (suc (length cs) - 1) cs (omega arith) in
    record {
      is =
          (keeping_first m (a ∷ cs) h).is ∙ ap (λ (ds : List ℕ). rest m a ds) (sym all);
    }

module _ (m : ℕ) (cs ds : List ℕ) (holds : Bool) (a i : ℕ) (inv : Keeping m cs ds holds a i) where
  pub keeping_more : (r : Bool) → i < length ds → r ≡ (holds && ltb a (get_or ds i 0)) → Keeping m cs ds r (get_or ds i 0) (i + 1)
  keeping_more r l e =
      let b : ℕ = get_or ds i 0 in
      record {
        is =
            inv.is
            ∙ ap (λ (s : List ℕ). holds && rest m a s) (drop-cons ds i 0 l)
            ∙ ap (λ (t : Bool). holds && t) (rest_more m a b (drop (suc i) ds))
            ∙ sym (and_assoc holds (ltb a b) (rest m b (drop (suc i) ds)))
            ∙ ap₂ (λ (t : Bool) (j : ℕ). t && rest m b (drop j ds)) (sym e) (sym (add-one i));
      }

  pub keeping_done : (r : Bool) → length ds ≤ i → r ≡ (holds && ltb a m) → r ≡ columns_keep m cs
  keeping_done r h e = e ∙ sym (inv.is ∙ ap (λ (s : List ℕ). holds && rest m a s) (drop_of_length-le ds h) ∙ ap (λ (t : Bool). holds && t) (rest_last m a))

-- ---- all rows: of n rows, those from row R on are still to be tested

-- row R keeps the rule
abbrev pub row_keeps : ℕ → List ℕ → List ℕ → ℕ → Bool
row_keeps m ps cs R = columns_keep m (part ps cs R)

pub record Rows (m : ℕ) (ps cs : List ℕ) (n R : ℕ) : Type 0 where
  pub frame : Framed n ps (length cs)
  pub is : every (row_keeps m ps cs) (below (λ R. true) n) ≡ every (row_keeps m ps cs) (from (λ R. true) R (n - R))

module _ (m : ℕ) (ps cs : List ℕ) (n : ℕ) where
  abbrev after : ℕ → Bool
  after R = every (row_keeps m ps cs) (from (λ R. true) R (n - R))

  abbrev whole : Bool
  whole = every (row_keeps m ps cs) (below (λ R. true) n)

  -- k is the number of block rows
  pub rows_none : (k : ℕ) → framed k ps (length cs) ≡ true → n ≡ k → Rows m ps cs n 0
  unfolding below
  rows_none k f e = record { frame = rw e (framed_facts k ps (length cs) f); is = ap (λ (d : ℕ). every (row_keeps m ps cs) (from (λ R. true) 0 d)) (sym (sub-zero n)) }

  -- t is the flag of row R, as the code lends it from a up to z
  module _ (R a z : ℕ) (t : Bool) (inv : Rows m ps cs n R) (l : R < n) (p : a ≡ get_or ps R 0) (q : z ≡ get_or ps (R + 1) 0) (g : t ≡ columns_keep m (take (z - a) (drop a cs))) where
    told : t ≡ row_keeps m ps cs R
    told = g ∙ ap (columns_keep m) (part_lent ps cs R a z p q)

    step : whole ≡ (row_keeps m ps cs R && after (R + 1))
    unfolding from every
    step =
        inv.is ∙ ap (λ (d : ℕ). every (row_keeps m ps cs) (from (λ R. true) R d)) one
        ∙ ap (λ (k : ℕ). row_keeps m ps cs R && every (row_keeps m ps cs) (from (λ R. true) k (n - (R + 1)))) (sym (add-one R))
      where
        one : n - R ≡ suc (n - (R + 1))
        one = omega arith

    pub rows_more : not t ≡ false → Rows m ps cs n (R + 1)
    rows_more h = record { frame = inv.frame; is = step ∙ ap (λ (u : Bool). u && after (R + 1)) (sym (flag_on (row_keeps m ps cs R) t told h)) }

    pub rows_fail : not t ≡ true → false ≡ every (row_keeps m ps cs) (below (λ R. true) n)
    rows_fail h = sym (step ∙ ap (λ (u : Bool). u && after (R + 1)) (sym (flag_off (row_keeps m ps cs R) t told h)))

  pub rows_done : (R : ℕ) → Rows m ps cs n R → n ≤ R → true ≡ every (row_keeps m ps cs) (below (λ R. true) n)
  unfolding from every
  rows_done R inv h = let z : n - R ≡ 0 = omega arith in sym (inv.is ∙ ap (λ (d : ℕ). every (row_keeps m ps cs) (from (λ R. true) R d)) z)

  -- ---- the rows are the whole list

  abbrev climb : ℕ → Bool
  climb R = climbs 0 (part ps cs R)

  abbrev inside : ℕ → Bool
  inside c = ltb c m

  rows_whole : Framed n ps (length cs) → every (row_keeps m ps cs) (below (λ R. true) n) ≡ (every inside cs && every climb (below (λ R. true) n))
  rows_whole f = same_test (every (row_keeps m ps cs) (below (λ R. true) n)) (every inside cs && every climb (below (λ R. true) n)) down up
    where
      down : every (row_keeps m ps cs) (below (λ R. true) n) ≡ true → (every inside cs && every climb (below (λ R. true) n)) ≡ true
      down e =
          let at : (R : ℕ) → R < n → row_keeps m ps cs R ≡ true = λ R l. every-below-at (row_keeps m ps cs) (λ R. true) n R e l refl in
          and_both (every inside cs) (every climb (below (λ R. true) n))
          (ap (every inside) (sym (parts_all n ps cs f)) ∙ every-joined inside (part ps cs) n (λ R l. and_right (climb R) (every inside (part ps cs R)) (at R l)))
          (every-below climb (λ R. true) n (λ R l u. and_left (climb R) (every inside (part ps cs R)) (at R l)))

      up : (every inside cs && every climb (below (λ R. true) n)) ≡ true → every (row_keeps m ps cs) (below (λ R. true) n) ≡ true
      up e =
          let i : every inside cs ≡ true = and_left (every inside cs) (every climb (below (λ R. true) n)) e in
          let k : every climb (below (λ R. true) n) ≡ true = and_right (every inside cs) (every climb (below (λ R. true) n)) e in
          every-below (row_keeps m ps cs) (λ R. true) n (λ R l u. and_both (climb R) (every inside (part ps cs R)) (every-below-at climb (λ R. true) n R k l refl) (every-part inside ps cs R i))

-- n and m are the numbers of block rows and block columns, as the code has them
pub rows_told : (b : Blocks) (n m R : ℕ) (t : Bool) → n ≡ blocks_for b.width b.rows → m ≡ blocks_for b.width b.cols → Rows m b.ptr b.col n R → t ≡ every (row_keeps m b.ptr b.col) (below (λ R. true) n)
    → t ≡ (every (λ C. ltb C (blocks_for b.width b.cols)) b.col && rows_climb b)
unfolding rows_climb
rows_told b n m R t en em inv q =
    q ∙ rows_whole m b.ptr b.col n inv.frame
    ∙ ap₂ (λ (j k : ℕ). every (λ C. ltb C j) b.col && every (λ R. climbs 0 (part b.ptr b.col R)) (below (λ R. true) k)) em en
