-- The numbers of a region: counted row by row, what they are of the local list, and that a count of entries stays below 2^24.
-- Assumes nothing.
use mathlib.Core.Bool.{Bool, true, false, not, ◌&&◌}
use mathlib.Core.List.{List, [], ◌∷◌, ◌++◌, append-nil, append_assoc, map}
use mathlib.Core.Path.{◌≡◌, refl, sym, ap, ◌∙◌}
use Prim.Native.Nat.{ℕ, zero, suc, ◌+◌, ◌-◌, ◌*◌, ◌^◌, ◌≤◌, ◌<◌}
use native.Mathlib.Omega.{arith}
use lib.Dec.{leb, ltb}
use lib.ListN.{length, get_or, length-append, length-map}
use lib.Ieee.{Float}
use borrow.Author.Tests.{leb-true}
use Rattle.hybit_core.proofs.BoolLaws.{and_left, and_right, and_first, and_second, and-next, flag_on, flag_off, is_within, is_above}
use Rattle.lent.specs.Lists.{cons_if, every, joined, only, part, spread}
use Rattle.lent.proofs.ListLaws.{joined_lengths, joined-le, length-only, length-joined-suc, spread-append}
use Rattle.lent.proofs.PartLaws.{length-zip}
use Rattle.word.specs.Bits.{below}
use Rattle.word.proofs.BelowLaws.{below_snoc, below-zero}
use Rattle.mask.specs.Mask.{Mask, active}
use Rattle.csr32.specs.Csr.{Csr, Entry, entries}
use Rattle.csr32.specs.Made.{entries_in, CsrRoom, fits_csr}
use Rattle.csr32.proofs.FrameLaws.{part_length, parts_all}
use Rattle.csr32.proofs.CsrLaws.{Valid, valid, row_of, row_sides, row_columns}
use Rattle.csr32.proofs.MadeLaws.{made_columns, made_values, made_pointers, room_fits}
use Rattle.restricted.specs.Local.{region_members, renumbered, local_list, region_entries, fits_local, region_of}
use Rattle.restricted.specs.declared.LocalRegion.{LocalRegion}
use Rattle.restricted.proofs.KeepLaws.{length-kept}
use Rattle.restricted_local.specs.Region.{Region}
use Rattle.restricted_local.proofs.RegionLaws.{below_in, below_out}

-- the entries of row r in the region's columns, and those of the i-th member with their new numbers
abbrev pub kept_row : Csr → Mask → ℕ → List Entry
kept_row m a r = entries_in (active a) (entries m r)

abbrev pub local_row : Csr → Mask → ℕ → List Entry
local_row m a i = map (renumbered a) (kept_row m a (get_or (region_members a) i 0))

-- ---- parts for the members, and parts for all rows

module _ {B : Type 0} where
  joined-cons : (g : ℕ → List B) (n : ℕ) → joined g (suc n) ≡ g 0 ++ joined (λ k. g (suc k)) n
  unfolding joined
  joined-cons g zero = sym (append-nil (g 0))
  joined-cons g (suc n) = ap (λ (t : List B). t ++ g (suc n)) (joined-cons g n) ∙ append_assoc (g 0) (joined (λ k. g (suc k)) n) (g (suc n))

  pub joined-members : (f : ℕ → List B) (l : List ℕ) → joined (λ i. f (get_or l i 0)) (length l) ≡ spread f l
  unfolding joined spread
  joined-members f [] = refl
  joined-members f (x ∷ l) = joined-cons (λ i. f (get_or (x ∷ l) i 0)) (length l) ∙ ap (λ (t : List B). f x ++ t) (joined-members f l)

  module _ (f : ℕ → List B) (p : ℕ → Bool) where
    spread-one : (l : List ℕ) (r : ℕ) → length (spread f (l ++ (r ∷ []))) ≡ length (spread f l) + length (f r)
    unfolding spread
    spread-one l r = ap length (spread-append f l (r ∷ [])) ∙ length-append (spread f l) (f r ++ []) ∙ ap (λ (t : List B). length (spread f l) + length t) (append-nil (f r))

    pub spread_in : (r : ℕ) → true ≡ p r → length (spread f (below p (r + 1))) ≡ length (spread f (below p r)) + length (f r)
    spread_in r e = ap (λ (l : List ℕ). length (spread f l)) (below_in p r e) ∙ spread-one (below p r) r

    pub spread-le : (r : ℕ) → length (spread f (below p r)) ≤ length (joined f r)
    unfolding spread
    spread-le zero = rw (below-zero p) (omega arith)
    spread-le (suc r) = go (p r) (ap (λ (l : List ℕ). length (spread f l)) (below_snoc p r)) (spread-le r)
      where
        go : (t : Bool) → length (spread f (below p (suc r))) ≡ length (spread f (below p r ++ cons_if t r [])) → length (spread f (below p r)) ≤ length (joined f r) → length (spread f (below p (suc r))) ≤ length (joined f (suc r))
        go true e h = omega (arith, spread-one (below p r) r, length-joined-suc f r)
        go false e h = omega (arith, ap (λ (l : List ℕ). length (spread f l)) (append-nil (below p r)), length-joined-suc f r)

-- ---- a row, whose columns are lent as cs

module _ {m : Csr} (v : Valid m) (r : ℕ) (cs : List ℕ) (ec : cs ≡ part m.ptr m.col r) where
  pub row_length : length (entries m r) ≡ length cs
  unfolding entries
  row_length = length-zip (part m.ptr m.col r) (part m.ptr m.val r) (sym (row_sides v r)) ∙ ap length (sym ec)

  pub row_kept_lem : (t : ℕ → Bool) → length (only t cs) ≡ length (entries_in t (entries m r))
  unfolding entries
  row_kept_lem t = ap (λ (l : List ℕ). length (only t l)) ec ∙ sym (length-kept t (part m.ptr m.col r) (part m.ptr m.val r) (row_sides v r))

  pub row_few : r < m.rows → length cs ≤ 2 ^ 24
  row_few h = omega (arith, ap length ec, part_length m.ptr m.col r (row_of v h), (row_of v h).inside, v.entries_in)

-- a row: from s, its pointer, up to e, the next one
module _ {m : Csr} (v : Valid m) (r s e : ℕ) (h : r < m.rows) (es : s ≡ get_or m.ptr r 0) (ee : e ≡ get_or m.ptr (r + 1) 0) where
  pub row_between : length (entries m r) ≡ e - s
  row_between = row_length v r (part m.ptr m.col r) refl ∙ omega (arith, part_length m.ptr m.col r (row_of v h))

  pub between_few : e - s ≤ 2 ^ 24
  between_few = omega (arith, (row_of v h).inside, v.entries_in)

-- as the code has it of a region
module _ {m : Csr} {a : Mask} (reg : Region m a) where
  pub rows_few : m.rows ≤ 2 ^ 20
  rows_few = (valid m reg.list_accepted).rows_in

  module _ (r : ℕ) (cs : List ℕ) (ec : cs ≡ part m.ptr m.col r) where
    pub part-few : r < m.rows → length cs ≤ 2 ^ 24
    part-few h = row_few (valid m reg.list_accepted) r cs ec h

    pub count-few : r < m.rows → (k : ℕ) → k ≡ length (only (active a) cs) → k ≤ 2 ^ 24
    count-few h k q = omega (arith, part-few h, length-only (active a) cs)

    pub columns_lent : (vs : List Float) → vs ≡ part m.ptr m.val r → (length vs ≡ length cs) × (every (λ c. ltb c a.size) cs ≡ true)
    columns_lent vs ev =
        let v : Valid m = valid m reg.list_accepted in
        let size : a.size ≡ m.cols = reg.size_is ∙ reg.square in
        (ap length ev ∙ sym (row_sides v r) ∙ ap length (sym ec), rw (ec, size) (row_columns v r))

-- ---- the numbers of the first r rows

pub record Counting (m : Csr) (a : Mask) (r nodes kept source : ℕ) : Type 0 where
  pub inside : r ≤ m.rows
  pub nodes_are : nodes ≡ length (below (active a) r)
  pub kept_are : kept ≡ length (spread (kept_row m a) (below (active a) r))
  pub source_are : source ≡ length (spread (entries m) (below (active a) r))
  pub kept_few : kept ≤ r * 2 ^ 24
  pub source_few : source ≤ r * 2 ^ 24

module _ (m : Csr) (a : Mask) where
  pub counting_none : Counting m a 0 0 0 0
  unfolding spread
  counting_none = record {
    inside = omega arith;
    nodes_are = rw (below-zero (active a));
    kept_are = rw (below-zero (active a));
    source_are = rw (below-zero (active a));
    kept_few = omega arith;
    source_few = omega arith;
  }

  module _ (r nodes kept source : ℕ) (inv : Counting m a r nodes kept source) where
    pub counting_more : (v : Valid m) (cs : List ℕ) (k : ℕ) → r < m.rows → true ≡ active a r → cs ≡ part m.ptr m.col r → k ≡ length (only (active a) cs) → Counting m a (r + 1) (nodes + 1) (kept + k) (source + length cs)
    counting_more v cs k h t ec ek =
        let some : k ≡ length (kept_row m a r) = ek ∙ row_kept_lem v r cs ec (active a) in
        let all : length (entries m r) ≡ length cs = row_length v r cs ec in
        let less : k ≤ length cs = omega (arith, some, all, length-only (λ (e : Entry). active a e.0) (entries m r)) in
        record {
          inside = omega arith;
          nodes_are = omega (arith, inv.nodes_are, ap length (below_in (active a) r t), length-append (below (active a) r) (r ∷ []));
          kept_are = omega (arith, inv.kept_are, some, spread_in (kept_row m a) (active a) r t);
          source_are = omega (arith, inv.source_are, all, spread_in (entries m) (active a) r t);
          kept_few = omega (arith, inv.kept_few, row_few v r cs ec h);
          source_few = omega (arith, inv.source_few, row_few v r cs ec h);
        }

    pub counting_other : r < m.rows → false ≡ active a r → Counting m a (r + 1) nodes kept source
    counting_other h t = record {
      inside = omega arith;
      nodes_are = rw (below_out (active a) r t) inv.nodes_are;
      kept_are = rw (below_out (active a) r t) inv.kept_are;
      source_are = rw (below_out (active a) r t) inv.source_are;
      kept_few = omega (arith, inv.kept_few);
      source_few = omega (arith, inv.source_few);
    }

-- ---- the local list

module _ (m : Csr) (a : Mask) where
  pub local_rows : length (joined (local_row m a) (length (region_members a))) ≡ length (spread (kept_row m a) (region_members a))
  local_rows =
      joined_lengths (local_row m a) (λ i. kept_row m a (get_or (region_members a) i 0)) (length (region_members a)) (λ i. length-map (kept_row m a (get_or (region_members a) i 0)) (renumbered a))
      ∙ ap length (joined-members (kept_row m a) (region_members a))

  pub local_values : length (local_list m a).val ≡ length (joined (local_row m a) (length (region_members a)))
  unfolding local_list
  local_values = made_values (length (region_members a)) (length (region_members a)) (local_row m a)

  pub local_columns : length (local_list m a).col ≡ length (joined (local_row m a) (length (region_members a)))
  unfolding local_list
  local_columns = made_columns (length (region_members a)) (length (region_members a)) (local_row m a)

  pub local_pointers : length (local_list m a).ptr ≡ suc (length (region_members a))
  unfolding local_list
  local_pointers = made_pointers (length (region_members a)) (length (region_members a)) (local_row m a)

  pub local_few : Valid m → a.size ≡ m.rows → length (joined (local_row m a) (length (region_members a))) ≤ 2 ^ 24
  unfolding region_members entries
  local_few v same =
      let kept : ℕ = length (joined (kept_row m a) a.size) in
      let first : kept ≤ length (joined (entries m) a.size) = joined-le (kept_row m a) (entries m) a.size (λ r h. length-only (λ (e : Entry). active a e.0) (entries m r)) in
      let rows : length (joined (entries m) a.size) ≡ length (joined (part m.ptr m.col) a.size) =
      joined_lengths (entries m) (part m.ptr m.col) a.size (λ r. length-zip (part m.ptr m.col r) (part m.ptr m.val r) (sym (row_sides v r))) in
      let sides : length (joined (part m.ptr m.col) a.size) ≡ length (joined (part m.ptr m.val) a.size) = joined_lengths (part m.ptr m.col) (part m.ptr m.val) a.size (row_sides v) in
      let all : length (joined (part m.ptr m.val) a.size) ≡ length m.val = ap (λ (n : ℕ). length (joined (part m.ptr m.val) n)) same ∙ ap length (parts_all m.rows m.ptr m.val v.frame) in
      omega (arith, local_rows, spread-le (kept_row m a) (active a) a.size, first, rows, sides, all, v.entries_in, v.sides)

  pub counting_done : (r nodes kept source : ℕ) → Counting m a r nodes kept source → m.rows ≤ r → a.size ≡ m.rows
      → ◌≡◌ {A = LocalRegion} (record { global_size = m.rows; local_nodes = nodes; local_nnz = kept; source_row_nnz = source }) (region_of m a)
  unfolding region_of region_members region_entries
  counting_done r nodes kept source inv h same =
      let e : r ≡ a.size = omega (arith, inv.inside) in
      let n : nodes ≡ length (region_members a) = inv.nodes_are ∙ ap (λ (k : ℕ). length (below (active a) k)) e in
      let k : kept ≡ length (local_list m a).val = inv.kept_are ∙ ap (λ (k : ℕ). length (spread (kept_row m a) (below (active a) k))) e ∙ sym (local_values ∙ local_rows) in
      let s : source ≡ length (region_entries m a) = inv.source_are ∙ ap (λ (k : ℕ). length (spread (entries m) (below (active a) k))) e in
      λ i. record { global_size = m.rows; local_nodes = n i; local_nnz = k i; source_row_nnz = s i }

-- ---- room for it

-- the four lists hold so many members and entries
pub record Held (nodes kept places : ℕ) (room : CsrRoom) : Type 0 where
  pub members_in : nodes ≤ places
  pub pointers_in : nodes < room.ptr
  pub columns_in : kept ≤ room.col
  pub values_in : kept ≤ room.val

module _ (m : Csr) (a : Mask) (room : CsrRoom) where
  pub fits_facts : fits_csr (local_list m a) room ≡ true → Held (length (region_members a)) (length (local_list m a).val) (length (region_members a)) room
  unfolding fits_csr
  fits_facts e =
      let p : Bool = leb (length (local_list m a).ptr) room.ptr in
      let c : Bool = leb (length (local_list m a).col) room.col in
      let v : Bool = leb (length (local_list m a).val) room.val in
      record {
        members_in = omega arith;
        pointers_in = omega (arith, local_pointers m a, leb-true (length (local_list m a).ptr) room.ptr (and_left p c (and_left (p && c) v e)));
        columns_in = omega (arith, local_columns m a, local_values m a, leb-true (length (local_list m a).col) room.col (and_right p c (and_left (p && c) v e)));
        values_in = leb-true (length (local_list m a).val) room.val (and_right (p && c) v e);
      }

  module _ (places : ℕ) where
    pub local_fits : fits_local m a places room ≡ true → (length (region_members a) ≤ places) × (fits_csr (local_list m a) room ≡ true)
    unfolding fits_local
    local_fits e =
        let n : Bool = leb (length (region_members a)) places in
        (leb-true (length (region_members a)) places (and_left n (fits_csr (local_list m a) room) e), and_right n (fits_csr (local_list m a) room) e)

    -- as the code has it: s is the region's numbers
    module _ (s : LocalRegion) (is : s ≡ region_of m a) where
      nodes_is : s.local_nodes ≡ length (region_members a)
      unfolding region_of
      nodes_is = ap (λ (t : LocalRegion). t.local_nodes) is

      kept_is : s.local_nnz ≡ length (local_list m a).val
      unfolding region_of
      kept_is = ap (λ (t : LocalRegion). t.local_nnz) is

      pub members_short : places < s.local_nodes → false ≡ fits_local m a places room
      unfolding fits_local
      members_short h = and_first (leb (length (region_members a)) places) (fits_csr (local_list m a) room) (is_above (length (region_members a)) places (omega (arith, nodes_is)))

      -- r tells whether the list fits, as the code finds it
      module _ (r : Bool) (e : r ≡ (ltb s.local_nodes room.ptr && leb s.local_nnz room.col && leb s.local_nnz room.val)) where
        fits : r ≡ fits_csr (local_list m a) room
        fits =
            e ∙ room_fits (local_list m a) room s.local_nodes s.local_nnz (local_pointers m a ∙ ap suc (sym nodes_is)) (local_columns m a ∙ sym (local_values m a) ∙ sym kept_is) (sym kept_is)

        pub room_fails : not r ≡ true → false ≡ fits_local m a places room
        unfolding fits_local
        room_fails f = and_second (leb (length (region_members a)) places) (fits_csr (local_list m a) room) (flag_off (fits_csr (local_list m a) room) r fits f)

        pub room_holds : s.local_nodes ≤ places → not r ≡ false → true ≡ fits_local m a places room
        unfolding fits_local
        room_holds h f = and-next (leb (length (region_members a)) places) (fits_csr (local_list m a) room) true (is_within (length (region_members a)) places (omega (arith, nodes_is))) (flag_on (fits_csr (local_list m a) room) r fits f)
