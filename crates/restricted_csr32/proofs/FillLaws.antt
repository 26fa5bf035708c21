-- The rows of a restricted list, one after another: what an accepted call says, and what the code holds row after row. Assumes nothing.
use mathlib.Core.Bool.{Bool, true, ◌&&◌}
use mathlib.Core.List.{List, map, map-append, zip}
use mathlib.Core.Path.{◌≡◌, refl, sym, ap, ap₂, subst, ◌∙◌}
use Prim.Native.Nat.{ℕ, suc, ◌+◌, ◌%◌, ◌^◌, ◌≤◌, ◌<◌}
use native.Mathlib.Numerals.{add-one}
use native.Mathlib.Omega.{arith}
use lib.Dec.{leb}
use lib.ListN.{length, set, length-map, length-set}
use lib.Ieee.{Float}
use borrow.Author.Tests.{leb-true}
use Rattle.hybit_core.specs.Answer.{Answer, accepted, demand, length_is, ◌and_then◌}
use Rattle.hybit_core.specs.Domain.{few}
use Rattle.hybit_core.proofs.BoolLaws.{and_left, and_right}
use Rattle.hybit_core.proofs.AnswerLaws.{demand_accepted, then_first, then_second, length_accepted}
use Rattle.lent.specs.Lists.{joined, each, starts, part, only}
use Rattle.lent.specs.Lent.{Appended}
use Rattle.lent.proofs.ListLaws.{joined_lengths, length-joined-suc, length-joined-le, length-only, only-joined, each-suc, joined-suc}
use Rattle.lent.proofs.LentLaws.{appended_none, appended_join, appended_snoc}
use Rattle.mask.specs.Mask.{Mask, active, mask_rules}
use Rattle.mask.proofs.MaskLaws as masks
use Rattle.csr32.specs.Csr.{Csr, Entry, csr_sizes, csr_rules, csr_answer, entries}
use Rattle.csr32.specs.Made.{entries_in, csr_of, CsrRoom, fits_csr}
use Rattle.csr32.proofs.FrameLaws.{parts_all}
use Rattle.csr32.proofs.CsrLaws.{Valid, valid, row_sides}
use Rattle.csr32.proofs.MadeLaws.{made_pointers, made_columns, made_values}
use Rattle.restricted.specs.Restricted.{restricted, restrict_answer}
use Rattle.restricted.proofs.KeepLaws.{length-kept}

-- row r of the result
abbrev pub kept_row : Csr → Mask → ℕ → List Entry
kept_row m a r = entries_in (active a) (entries m r)

-- ---- how many entries are kept: the active ones among all columns, since the rows are all of them

module _ (m : Csr) (a : Mask) where
  pub kept_values : length (restricted m a).val ≡ length (joined (kept_row m a) m.rows)
  unfolding restricted
  kept_values = made_values m.rows m.cols (kept_row m a)

  pub kept-count : Valid m → length (joined (kept_row m a) m.rows) ≡ length (only (active a) m.col)
  unfolding entries
  kept-count v =
      joined_lengths (kept_row m a) (λ r. only (active a) (part m.ptr m.col r)) m.rows (λ r. length-kept (active a) (part m.ptr m.col r) (part m.ptr m.val r) (row_sides v r))
      ∙ ap length (sym (only-joined (active a) (part m.ptr m.col) m.rows))
      ∙ ap (λ (l : List ℕ). length (only (active a) l)) (parts_all m.rows m.ptr m.col (rw v.sides v.frame))

  pub kept_few : Valid m → length (joined (kept_row m a) m.rows) ≤ 2 ^ 24
  kept_few v = omega (arith, kept-count v, length-only (active a) m.col, v.entries_in)

-- ---- what an accepted call says

pub record Restrictable (m : Csr) (a : Mask) (room : CsrRoom) : Type 0 where
  pub list : Valid m
  pub mask : masks.Valid a.size a.bits
  pub size : a.size ≡ m.cols
  pub pointers : suc m.rows ≤ room.ptr
  pub columns : length (joined (kept_row m a) m.rows) ≤ room.col
  pub values : length (joined (kept_row m a) m.rows) ≤ room.val

pub restrict_list : (m : Csr) (a : Mask) (room : CsrRoom) → restrict_answer m a room ≡ accepted → csr_answer m ≡ accepted
unfolding restrict_answer csr_answer
restrict_list m a room e =
    let rest : Answer = demand (mask_rules a) 5 and_then length_is m.cols a.size and_then demand (fits_csr (restricted m a) room) 13 in
    let a1 : Answer = demand (few a.size && csr_sizes m) 1 in
    let sizes : (few a.size && csr_sizes m) ≡ true = demand_accepted (few a.size && csr_sizes m) 1 (then_first a1 (csr_rules m and_then rest) e) in
    ap₂ (λ (s : Bool) (t : Answer). demand s 1 and_then t) (and_right (few a.size) (csr_sizes m) sizes) (then_first (csr_rules m) rest (then_second a1 (csr_rules m and_then rest) e))

pub restrict_facts : (m : Csr) (a : Mask) (room : CsrRoom) → restrict_answer m a room ≡ accepted → Restrictable m a room
unfolding restrict_answer restricted fits_csr csr_answer
restrict_facts m a room e =
    let a1 : Answer = demand (few a.size && csr_sizes m) 1 in
    let a5 : Answer = demand (mask_rules a) 5 in
    let a6 : Answer = length_is m.cols a.size in
    let a13 : Answer = demand (fits_csr (restricted m a) room) 13 in
    let sizes : (few a.size && csr_sizes m) ≡ true = demand_accepted (few a.size && csr_sizes m) 1 (then_first a1 (csr_rules m and_then a5 and_then a6 and_then a13) e) in
    let e2 : csr_rules m and_then a5 and_then a6 and_then a13 ≡ accepted = then_second a1 (csr_rules m and_then a5 and_then a6 and_then a13) e in
    let e5 : a5 and_then a6 and_then a13 ≡ accepted = then_second (csr_rules m) (a5 and_then a6 and_then a13) e2 in
    let e6 : a6 and_then a13 ≡ accepted = then_second a5 (a6 and_then a13) e5 in
    let p : Bool = leb (length (restricted m a).ptr) room.ptr in
    let c : Bool = leb (length (restricted m a).col) room.col in
    let v : Bool = leb (length (restricted m a).val) room.val in
    let fits : (p && c && v) ≡ true = demand_accepted (fits_csr (restricted m a) room) 13 (then_second a6 a13 e6) in
    record {
      list = valid m (restrict_list m a room e);
      mask = masks.rules_valid a.size a.bits (leb-true a.size (2 ^ 20) (and_left (few a.size) (csr_sizes m) sizes)) (demand_accepted (mask_rules a) 5 (then_first a5 (a6 and_then a13) e5));
      size = length_accepted m.cols a.size (then_first a6 a13 e6);
      pointers = omega (arith, made_pointers m.rows m.cols (kept_row m a), leb-true (length (restricted m a).ptr) room.ptr (and_left p c (and_left (p && c) v fits)));
      columns = omega (arith, made_columns m.rows m.cols (kept_row m a), leb-true (length (restricted m a).col) room.col (and_right p c (and_left (p && c) v fits)));
      values = omega (arith, made_values m.rows m.cols (kept_row m a), leb-true (length (restricted m a).val) room.val (and_right (p && c) v fits));
    }

-- ---- the first r rows are written

pub record Filling (row : ℕ → List Entry) (op oc : List ℕ) (ov : List Float) (r at : ℕ) (np nc : List ℕ) (nv : List Float) : Type 0 where
  pub pointers : Appended (each (λ k. length (joined row k)) r) 0 r op np
  pub columns : Appended (map (λ (e : Entry). e.0) (joined row r)) 0 at oc nc
  pub values : Appended (map (λ (e : Entry). e.1) (joined row r)) 0 at ov nv
  pub long_pointers : length np ≡ length op
  pub long_columns : length nc ≡ length oc
  pub long_values : length nv ≡ length ov

pub filling_none : (row : ℕ → List Entry) (op oc : List ℕ) (ov : List Float) → Filling row op oc ov 0 0 op oc ov
unfolding joined each
filling_none row op oc ov = record {
  pointers = appended_none 0 op;
  columns = appended_none 0 oc;
  values = appended_none 0 ov;
  long_pointers = refl;
  long_columns = refl;
  long_values = refl;
}

module _ (m : Csr) (a : Mask) (op oc : List ℕ) (ov : List Float) (r at : ℕ) (np nc : List ℕ) (nv : List Float) (inv : Filling (kept_row m a) op oc ov r at np nc nv) (room : CsrRoom) (ok : Restrictable m a room) where
  pub filling_at : at ≡ length (joined (kept_row m a) r)
  filling_at = omega (arith, inv.columns.next, length-map (joined (kept_row m a) r) (λ (e : Entry). e.0))

  pub filling_few : r ≤ m.rows → at ≤ 2 ^ 24
  filling_few h = omega (arith, filling_at, length-joined-le (kept_row m a) r m.rows h, kept_few m a ok.list)

  -- one pointer more: p, as the code stores it
  module _ (h : r ≤ m.rows) (p : ℕ) (e : p ≡ at % 2 ^ 32) where
    next_pointer : r < length op → Appended (each (λ k. length (joined (kept_row m a) k)) (r + 1)) 0 (r + 1) op (set np r p)
    next_pointer l =
        let q : p ≡ length (joined (kept_row m a) r) = omega (arith, filling_few h, filling_at) in
        rw (each-suc (λ k. length (joined (kept_row m a) k)) r, ← q) (appended_snoc _ 0 r op np p inv.pointers (omega (arith, inv.long_pointers)))

  -- a row, as its columns and values are lent, has places
  module _ (h : r < m.rows) (cs : List ℕ) (vs : List Float) (ec : cs ≡ part m.ptr m.col r) (ev : vs ≡ part m.ptr m.val r) where
    lent : entries_in (active a) (zip cs vs) ≡ kept_row m a r
    unfolding entries
    lent = ap₂ (λ (c : List ℕ) (v : List Float). entries_in (active a) (zip c v)) ec ev

    next : at + length (kept_row m a r) ≤ length (joined (kept_row m a) m.rows)
    next = omega (arith, filling_at, length-joined-suc (kept_row m a) r, length-joined-le (kept_row m a) (suc r) m.rows (omega arith))

    pub filling_column : room.col ≡ length oc → at + length (entries_in (active a) (zip cs vs)) ≤ length nc
    filling_column s = rw lent (omega (arith, next, ok.columns, inv.long_columns))

    pub filling_value : room.val ≡ length ov → at + length (entries_in (active a) (zip cs vs)) ≤ length nv
    filling_value s = rw lent (omega (arith, next, ok.values, inv.long_values))

    -- a row more: p and the row's entries are written
    pub filling_more : (p : ℕ) → p ≡ at % 2 ^ 32 → room.ptr ≡ length op → (at' : ℕ) (nc' : List ℕ) (nv' : List Float)
        → Appended (map (λ (e : Entry). e.0) (entries_in (active a) (zip cs vs))) at at' nc nc'
        → Appended (map (λ (e : Entry). e.1) (entries_in (active a) (zip cs vs))) at at' nv nv'
        → length nc' ≡ length nc → length nv' ≡ length nv → Filling (kept_row m a) op oc ov (r + 1) at' (set np r p) nc' nv'
    filling_more p e s at' nc' nv' kc kv lc lv = record {
      pointers = next_pointer (omega arith) p e (omega (arith, ok.pointers));
      columns = rw (joined-suc (kept_row m a) r, map-append) (appended_join _ _ 0 at at' oc nc nc' inv.columns (rw lent at kc));
      values = rw (joined-suc (kept_row m a) r, map-append) (appended_join _ _ 0 at at' ov nv nv' inv.values (rw lent at kv));
      long_pointers = length-set np r p ∙ inv.long_pointers;
      long_columns = lc ∙ inv.long_columns;
      long_values = lv ∙ inv.long_values;
    }

  -- all rows are written, and p, the last pointer
  module _ (h : r ≤ m.rows) (g : m.rows ≤ r) where
    last : r ≡ m.rows
    last = omega arith

    pub done_count : at ≡ length (restricted m a).val
    done_count = filling_at ∙ ap (λ (k : ℕ). length (joined (kept_row m a) k)) last ∙ sym (kept_values m a)

    pub done_pointers : (p : ℕ) → p ≡ at % 2 ^ 32 → room.ptr ≡ length op → Appended (restricted m a).ptr 0 (m.rows + 1) op (set np m.rows p)
    unfolding restricted csr_of starts
    done_pointers p e s =
        rw (← add-one m.rows) (subst (λ (k : ℕ). Appended (each (λ i. length (joined (kept_row m a) i)) (k + 1)) 0 (k + 1) op (set np k p)) last (next_pointer h p e (omega (arith, ok.pointers))))

    pub done_columns : Appended (restricted m a).col 0 at oc nc
    unfolding restricted csr_of
    done_columns = subst (λ (k : ℕ). Appended (map (λ (e : Entry). e.0) (joined (kept_row m a) k)) 0 at oc nc) last inv.columns

    pub done_values : Appended (restricted m a).val 0 at ov nv
    unfolding restricted csr_of
    done_values = subst (λ (k : ℕ). Appended (map (λ (e : Entry). e.1) (joined (kept_row m a) k)) 0 at ov nv) last inv.values
