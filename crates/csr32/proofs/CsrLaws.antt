-- Laws of plot lists: what an accepted one is, as its callers read it, and its rows. Assumes nothing.
use Rattle.std.specs.Prelude.{Result, Ok}
use Rattle.hybit_core.specs.declared.HybitError.{HybitError}
use mathlib.Core.Bool.{Bool, true, false, ◌&&◌}
use mathlib.Core.List.{List, zip}
use mathlib.Core.Path.{◌≡◌, refl, sym, ap, ◌∙◌}
use Prim.Native.Nat.{ℕ, suc, ◌+◌, ◌-◌, ◌^◌, ◌≤◌, ◌<◌}
use native.Mathlib.Omega.{arith}
use lib.Dec.{eqb, ltb}
use lib.ListN.{length, get_or, take, drop}
use lib.Ieee.{Float}
use borrow.Author.Tests.{leb-true, ltb-true, eqb-true, eq-eqb, ne_eqb}
use Rattle.hybit_core.specs.Answer.{Answer, accepted, demand, length_is, ◌and_then◌}
use Rattle.hybit_core.specs.Domain.{few, many, sizes_fit}
use Rattle.hybit_core.specs.Floats.{finite}
use Rattle.hybit_core.specs.Table.{told}
use Rattle.hybit_core.proofs.BoolLaws.{and_left, and_right}
use Rattle.hybit_core.proofs.AnswerLaws.{demand_accepted, then_first, then_second, length_accepted, accepted_by}
use Rattle.lent.specs.Lists.{every, some, rises, part}
use Rattle.lent.proofs.ListLaws.{every-get_or, every-part, every-left, some_left, some-every, part_lent}
use Rattle.csr32.specs.Csr.{Csr, Entry, framed, framed_lists, csr_sizes, csr_rules, csr_answer, entries, present, apply_answer}
use Rattle.csr32.proofs.FrameLaws.{Framed, framed_facts, RowIn, row_in, part_lengths}

-- ---- the rule of the pointers, at each return of the code that tests it

pub framed-not : (rows : ℕ) (ptr : List ℕ) (n : ℕ) → (Framed rows ptr n → ⊥) → false ≡ framed rows ptr n
framed-not rows ptr n h = go (framed rows ptr n) refl
  where
    go : (t : Bool) → framed rows ptr n ≡ t → false ≡ t
    go true e = absurd (h (framed_facts rows ptr n e))
    go false e = refl

pub framed-rest : (rows : ℕ) (ptr : List ℕ) (n : ℕ) (t : Bool) → length ptr ≡ suc rows → get_or ptr 0 0 ≡ 0 → get_or ptr rows 0 ≡ n → t ≡ rises 0 ptr → t ≡ framed rows ptr n
unfolding framed
framed-rest rows ptr n t a b c e = e ∙ rw (eq-eqb (length ptr) (suc rows) a, eq-eqb (get_or ptr 0 0) 0 b, eq-eqb (get_or ptr rows 0) n c)

pub lists_not : (rows : ℕ) (ptr : List ℕ) (a b : ℕ) → (a ≡ b → ⊥) → false ≡ framed_lists rows ptr a b
unfolding framed_lists
lists_not rows ptr a b h = rw (ne_eqb a b h)

pub lists_rest : (rows : ℕ) (ptr : List ℕ) (a b : ℕ) (t : Bool) → a ≡ b → t ≡ framed rows ptr b → t ≡ framed_lists rows ptr a b
unfolding framed_lists
lists_rest rows ptr a b t h e = e ∙ rw (eq-eqb a b h)

-- ---- what an accepted one is

pub record Valid (m : Csr) : Type 0 where
  pub rows_in : m.rows ≤ 2 ^ 20
  pub cols_in : m.cols ≤ 2 ^ 20
  pub entries_in : length m.col ≤ 2 ^ 24
  pub sides : length m.col ≡ length m.val
  pub frame : Framed m.rows m.ptr (length m.val)
  pub columns : every (λ c. ltb c m.cols) m.col ≡ true
  pub values : every finite m.val ≡ true

pub valid : (m : Csr) → csr_answer m ≡ accepted → Valid m
unfolding csr_answer csr_rules sizes_fit framed_lists
valid m e =
    let a : ℕ = length m.col in
    let b : ℕ = length m.val in
    let f : Bool = framed_lists m.rows m.ptr a b in
    let g : Bool = every (λ c. ltb c m.cols) m.col in
    let h : Bool = every finite m.val in
    let rest : Answer = demand g 3 and_then demand h 4 in
    let size : csr_sizes m ≡ true = demand_accepted (csr_sizes m) 1 (then_first (demand (csr_sizes m) 1) (csr_rules m) e) in
    let rules : csr_rules m ≡ accepted = then_second (demand (csr_sizes m) 1) (csr_rules m) e in
    let lists : (eqb a b && framed m.rows m.ptr b) ≡ true = demand_accepted f 2 (then_first (demand f 2) rest rules) in
    let others : rest ≡ accepted = then_second (demand f 2) rest rules in
    let three : (few m.rows && few m.cols && many a) ≡ true = and_left (few m.rows && few m.cols && many a) (many b) size in
    let two : (few m.rows && few m.cols) ≡ true = and_left (few m.rows && few m.cols) (many a) three in
    record {
      rows_in = leb-true m.rows (2 ^ 20) (and_left (few m.rows) (few m.cols) two);
      cols_in = leb-true m.cols (2 ^ 20) (and_right (few m.rows) (few m.cols) two);
      entries_in = leb-true a (2 ^ 24) (and_right (few m.rows && few m.cols) (many a) three);
      sides = eqb-true a b (and_left (eqb a b) (framed m.rows m.ptr b) lists);
      frame = framed_facts m.rows m.ptr b (and_right (eqb a b) (framed m.rows m.ptr b) lists);
      columns = demand_accepted g 3 (then_first (demand g 3) (demand h 4) others);
      values = demand_accepted h 4 (then_second (demand g 3) (demand h 4) others);
    }

-- as a caller of `check` has it
pub checked : (m : Csr) (v : Result Unit HybitError) → told v ≡ csr_answer m → v ≡ Ok tt → Valid m
checked m v h k = valid m (accepted_by (csr_answer m) v h k)

-- an accepted call of `apply`
pub apply_accepted : (m : Csr) (x : List Float) (ny : ℕ) → apply_answer m x ny ≡ accepted → (csr_answer m ≡ accepted) × ((length x ≡ m.cols) × (ny ≡ m.rows))
unfolding apply_answer
apply_accepted m x ny e =
    let a : Answer = length_is m.cols (length x) in
    let b : Answer = length_is m.rows ny in
    let rest : a and_then b ≡ accepted = then_second (csr_answer m) (a and_then b) e in
    let long : length x ≡ m.cols = length_accepted m.cols (length x) (then_first a b rest) in
    (then_first (csr_answer m) (a and_then b) e, (long, length_accepted m.rows ny (then_second a b rest)))

-- ---- its rows

module _ {m : Csr} (v : Valid m) where
  pub pointers_few : length m.ptr ≤ 2 ^ 20 + 1
  pointers_few = omega (arith, v.rows_in, v.frame.long)

  pub row_of_values : {r : ℕ} → r < m.rows → RowIn m.ptr (length m.val) r
  row_of_values {r} h = row_in m.rows m.ptr (length m.val) r v.frame h

  pub row_of : {r : ℕ} → r < m.rows → RowIn m.ptr (length m.col) r
  row_of {r} h =
      let i = row_of_values {r = r} h in
      record { here = i.here; next = i.next; order = i.order; inside = omega (arith, i.inside, v.sides) }

  pub row_columns : (r : ℕ) → every (λ c. ltb c m.cols) (part m.ptr m.col r) ≡ true
  row_columns r = every-part (λ c. ltb c m.cols) m.ptr m.col r v.columns

  pub row_values_lem : (r : ℕ) → every finite (part m.ptr m.val r) ≡ true
  row_values_lem r = every-part finite m.ptr m.val r v.values

  pub row_sides : (r : ℕ) → length (part m.ptr m.col r) ≡ length (part m.ptr m.val r)
  row_sides r = part_lengths m.ptr m.col m.val r v.sides

  -- the same of a row that is cut by its two pointers
  pub cut_columns : (r : ℕ) → every (λ c. ltb c m.cols) (take (get_or m.ptr (r + 1) 0 - get_or m.ptr r 0) (drop (get_or m.ptr r 0) m.col)) ≡ true
  cut_columns r = ap (every (λ c. ltb c m.cols)) (part_lent m.ptr m.col r (get_or m.ptr r 0) (get_or m.ptr (r + 1) 0) refl refl) ∙ row_columns r

  pub cut_sides : (r : ℕ) → length (take (get_or m.ptr (r + 1) 0 - get_or m.ptr r 0) (drop (get_or m.ptr r 0) m.val)) ≡ length (take (get_or m.ptr (r + 1) 0 - get_or m.ptr r 0) (drop (get_or m.ptr r 0) m.col))
  cut_sides r =
      ap length (part_lent m.ptr m.val r (get_or m.ptr r 0) (get_or m.ptr (r + 1) 0) refl refl)
      ∙ sym (row_sides r)
      ∙ sym (ap length (part_lent m.ptr m.col r (get_or m.ptr r 0) (get_or m.ptr (r + 1) 0) refl refl))

  pub entries_columns : (r : ℕ) → every (λ (e : Entry). ltb e.0 m.cols) (entries m r) ≡ true
  unfolding entries
  entries_columns r = every-left (λ c. ltb c m.cols) (part m.ptr m.col r) (part m.ptr m.val r) (row_columns r)

-- ---- which columns a row has

pub present_columns : (cs : List ℕ) (vs : List Float) (c : ℕ) → length cs ≡ length vs → present (zip cs vs) c ≡ some (λ d. eqb d c) cs
unfolding present
present_columns cs vs c h = some_left (λ d. eqb d c) cs vs h

module _ {m : Csr} (v : Valid m) (r c : ℕ) where
  pub present_row : present (entries m r) c ≡ some (λ d. eqb d c) (part m.ptr m.col r)
  unfolding entries
  present_row = present_columns (part m.ptr m.col r) (part m.ptr m.val r) c (row_sides v r)

  pub present-inside : present (entries m r) c ≡ true → c < m.cols
  present-inside e =
      let w = some-every (λ d. eqb d c) (λ d. ltb d m.cols) (part m.ptr m.col r) (sym present_row ∙ e) (row_columns v r) in
      omega (arith, eqb-true w.0 c w.1, ltb-true w.0 m.cols w.2)

-- column c, as the code reads it, of columns that all lie below n
pub column_below : (n : ℕ) (cs : List ℕ) (p c : ℕ) → every (λ d. ltb d n) cs ≡ true → p < length cs → c ≡ get_or cs p 0 → c < n
column_below n cs p c e h r = omega (arith, ltb-true (get_or cs p 0) n (every-get_or (λ d. ltb d n) cs p 0 e h))
