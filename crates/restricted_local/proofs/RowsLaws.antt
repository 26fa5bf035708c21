-- The rows of a local list, written one after the other. Assumes nothing.
use mathlib.Core.Bool.{true}
use mathlib.Core.List.{List, [], ◌∷◌, ◌++◌, map, map-map, map-append, zip}
use mathlib.Core.Path.{◌≡◌, refl, sym, ap, ap₂, ◌∙◌}
use Prim.Native.Nat.{ℕ, suc, ◌+◌, ◌%◌, ◌^◌, ◌≤◌, ◌<◌}
use native.Mathlib.Nat.{mod-eq_of_lt}
use native.Mathlib.Numerals.{add-one}
use native.Mathlib.Omega.{arith}
use lib.ListN.{length, get_or, set, length-map, length-set}
use lib.Ieee.{Float}
use Rattle.lent.specs.Lists.{joined, each, starts, part}
use Rattle.lent.specs.Lent.{Appended}
use Rattle.lent.proofs.ListLaws.{length-joined-le, length-joined-suc}
use Rattle.lent.proofs.LentLaws.{appended_none, appended_join, appended_snoc}
use Rattle.word.specs.Bits.{count}
use Rattle.word.proofs.BelowLaws.{length-below-le, selects}
use Rattle.mask.specs.Mask.{Mask, active}
use Rattle.csr32.specs.Csr.{Csr, Entry, entries}
use Rattle.csr32.specs.Made.{entries_in, as_csr_room, fits_csr, csr_of}
use Rattle.csr32.proofs.CsrLaws.{valid}
use Rattle.restricted.specs.Local.{region_members, renumbered, local_list}
use Rattle.restricted_local.specs.Region.{Region}
use Rattle.restricted_local.proofs.CountLaws.{local_row, local_values, local_few, fits_facts}

-- ---- the entries of a row, with their new numbers

module _ (a : Mask) (es : List Entry) (from to : ℕ) where
  pub kept_columns : (old out : List ℕ) → Appended (map (λ (e : Entry). count (active a) e.0) es) from to old out → Appended (map (λ (e : Entry). e.0) (map (renumbered a) es)) from to old out
  unfolding renumbered
  kept_columns old out h = rw (map-map (λ (e : Entry). e.0) (renumbered a) es) h

  pub kept_values : (old out : List Float) → Appended (map (λ (e : Entry). e.1) es) from to old out → Appended (map (λ (e : Entry). e.1) (map (renumbered a) es)) from to old out
  unfolding renumbered
  kept_values old out h = rw (map-map (λ (e : Entry). e.1) (renumbered a) es) h

-- ---- the rows: those of the first i members are written

pub record Rowing (m : Csr) (a : Mask) (op oc : List ℕ) (ov : List Float) (i at : ℕ) (np nc : List ℕ) (nv : List Float) : Type 0 where
  pub inside : i ≤ length (region_members a)
  pub same_pointers : length np ≡ length op
  pub same_columns : length nc ≡ length oc
  pub same_values : length nv ≡ length ov
  pub pointers : Appended (each (λ r. length (joined (local_row m a) r)) i) 0 i op np
  pub columns : Appended (map (λ (e : Entry). e.0) (joined (local_row m a) i)) 0 at oc nc
  pub values : Appended (map (λ (e : Entry). e.1) (joined (local_row m a) i)) 0 at ov nv

pub members-few : {m : Csr} {a : Mask} → Region m a → (rows : List ℕ) → rows ≡ region_members a → length rows ≤ 2 ^ 20
unfolding region_members
members-few {m} {a} reg rows q = omega (arith, ap length q, length-below-le (active a) a.size, reg.size_is, (valid m reg.list_accepted).rows_in)

-- the i-th member is a row of the list
pub member_row : {m : Csr} {a : Mask} → Region m a → (rows : List ℕ) (i row : ℕ) → rows ≡ region_members a → i < length rows → row ≡ get_or rows i 0 → row < m.rows
unfolding region_members
member_row {m} {a} reg rows i row q h e =
    let here : get_or rows i 0 ≡ get_or (region_members a) i 0 = ap (λ (l : List ℕ). get_or l i 0) q in
    let long : length rows ≡ length (region_members a) = ap length q in
    omega (arith, here, (selects (active a) a.size i (omega (arith, long))).bound, reg.size_is)

module _ (m : Csr) (a : Mask) (op oc : List ℕ) (ov : List Float) where
  pub rowing_none : Rowing m a op oc ov 0 0 op oc ov
  unfolding each joined
  rowing_none = record {
    inside = omega arith;
    same_pointers = refl;
    same_columns = refl;
    same_values = refl;
    pointers = appended_none 0 op;
    columns = appended_none 0 oc;
    values = appended_none 0 ov;
  }

  module _ (reg : Region m a) (fits : fits_csr (local_list m a) (as_csr_room (length op) (length oc) (length ov)) ≡ true) (i at : ℕ) (np nc : List ℕ) (nv : List Float) (inv : Rowing m a op oc ov i at np nc nv) where
    total : ℕ
    total = length (joined (local_row m a) (length (region_members a)))

    so_far : at ≡ length (joined (local_row m a) i)
    so_far = omega (arith, inv.columns.next, length-map (joined (local_row m a) i) (λ (e : Entry). e.0))

    at-few : at ≤ 2 ^ 24
    at-few = omega (arith, so_far, length-joined-le (local_row m a) i (length (region_members a)) inv.inside, local_few m a (valid m reg.list_accepted) reg.size_is)

    pub rowing_pointer : i < length np
    rowing_pointer = omega (arith, inv.inside, inv.same_pointers, (fits_facts m a (as_csr_room (length op) (length oc) (length ov)) fits).pointers_in)

    -- one pointer more
    point : (v : ℕ) → v ≡ at % 2 ^ 32 → Appended (each (λ r. length (joined (local_row m a) r)) (i + 1)) 0 (i + 1) op (set np i v)
    unfolding each joined
    point v q =
        let is : v ≡ length (joined (local_row m a) i) = q ∙ mod-eq_of_lt (omega (arith, at-few)) ∙ so_far in
        let more : each (λ r. length (joined (local_row m a) r)) (i + 1) ≡ each (λ r. length (joined (local_row m a) r)) i ++ (v ∷ []) =
        ap (each (λ r. length (joined (local_row m a) r))) (add-one i) ∙ ap (λ (n : ℕ). each (λ r. length (joined (local_row m a) r)) i ++ (n ∷ [])) (sym is) in
        rw more (appended_snoc (each (λ r. length (joined (local_row m a) r)) i) 0 i op np v inv.pointers rowing_pointer)

    module _ (rows : List ℕ) (row : ℕ) (cs : List ℕ) (vs : List Float) (rq : rows ≡ region_members a) (h : i < length rows) (er : row ≡ get_or rows i 0) (ec : cs ≡ part m.ptr m.col row) (ev : vs ≡ part m.ptr m.val row) where
      lent_is : map (renumbered a) (entries_in (active a) (zip cs vs)) ≡ local_row m a i
      unfolding entries
      lent_is =
          let here : row ≡ get_or (region_members a) i 0 = er ∙ ap (λ (l : List ℕ). get_or l i 0) rq in
          ap₂ (λ (c : List ℕ) (v : List Float). map (renumbered a) (entries_in (active a) (zip c v))) ec ev ∙ ap (λ (k : ℕ). map (renumbered a) (entries_in (active a) (entries m k))) here

      within : i < length (region_members a)
      within = omega (arith, ap length rq)

      fit : at + length (entries_in (active a) (zip cs vs)) ≤ total
      unfolding total
      fit = omega (arith, so_far, ap length lent_is, length-map (entries_in (active a) (zip cs vs)) (renumbered a), length-joined-suc (local_row m a) i, length-joined-le (local_row m a) (suc i) (length (region_members a)) within)

      pub rowing_columns : at + length (entries_in (active a) (zip cs vs)) ≤ length nc
      unfolding total
      rowing_columns = omega (arith, fit, inv.same_columns, local_values m a, (fits_facts m a (as_csr_room (length op) (length oc) (length ov)) fits).columns_in)

      pub rowing_values : at + length (entries_in (active a) (zip cs vs)) ≤ length nv
      unfolding total
      rowing_values = omega (arith, fit, inv.same_values, local_values m a, (fits_facts m a (as_csr_room (length op) (length oc) (length ov)) fits).values_in)

      joined_more : joined (local_row m a) (i + 1) ≡ joined (local_row m a) i ++ map (renumbered a) (entries_in (active a) (zip cs vs))
      unfolding joined
      joined_more = ap (joined (local_row m a)) (add-one i) ∙ ap (λ (l : List Entry). joined (local_row m a) i ++ l) (sym lent_is)

      pub rowing_more : (v : ℕ) → v ≡ at % 2 ^ 32 → (to : ℕ) (lc : List ℕ) (lv : List Float) → length lc ≡ length nc → length lv ≡ length nv
          → Appended (map (λ (e : Entry). e.0) (map (renumbered a) (entries_in (active a) (zip cs vs)))) at to nc lc
          → Appended (map (λ (e : Entry). e.1) (map (renumbered a) (entries_in (active a) (zip cs vs)))) at to nv lv
          → Rowing m a op oc ov (i + 1) to (set np i v) lc lv
      rowing_more v q to lc lv sc sv ac av =
          let new : List Entry = map (renumbered a) (entries_in (active a) (zip cs vs)) in
          let old : List Entry = joined (local_row m a) i in
          record {
            inside = omega (arith, within);
            same_pointers = length-set np i v ∙ inv.same_pointers;
            same_columns = sc ∙ inv.same_columns;
            same_values = sv ∙ inv.same_values;
            pointers = point v q;
            columns = rw (joined_more, map-append) (appended_join (map (λ (e : Entry). e.0) old) (map (λ (e : Entry). e.0) new) 0 at to oc nc lc inv.columns ac);
            values = rw (joined_more, map-append) (appended_join (map (λ (e : Entry). e.1) old) (map (λ (e : Entry). e.1) new) 0 at to ov nv lv inv.values av);
          }

    -- the last pointer, and all is written
    pub rowing_done : (rows : List ℕ) (v : ℕ) → rows ≡ region_members a → length rows ≤ i → v ≡ at % 2 ^ 32
        → Appended (local_list m a).ptr 0 (length rows + 1) op (set np (length rows) v) × (Appended (local_list m a).col 0 at oc nc × Appended (local_list m a).val 0 at ov nv)
    unfolding local_list csr_of starts
    rowing_done rows v rq h q =
        let k : length rows ≡ length (region_members a) = ap length rq in
        let e : i ≡ length (region_members a) = omega (arith, inv.inside) in
        let here : length rows ≡ i = omega arith in
        let end : i + 1 ≡ suc (length (region_members a)) = omega arith in
        let ptr : Appended (each (λ r. length (joined (local_row m a) r)) (i + 1)) 0 (length rows + 1) op (set np (length rows) v) = rw here (point v q) in
        (rw end at ptr, (rw e at inv.columns, rw e at inv.values))
