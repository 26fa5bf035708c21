-- The rows of a plot list packed one after the other: each has as many values as present columns. Assumes nothing.
use mathlib.Core.Bool.{Bool}
use mathlib.Core.List.{List, [], ◌∷◌, ◌++◌, map, zip, append_assoc, append-nil}
use mathlib.Core.Path.{◌≡◌, refl, sym, ap, ap₂, ◌∙◌, subst}
use Prim.Native.Nat.{ℕ, suc, ◌+◌, ◌-◌, ◌%◌, ◌^◌, ◌≤◌, ◌<◌, zero-le}
use native.Mathlib.Nat.{mod-eq_of_lt, sub-zero}
use native.Mathlib.Numerals.{add-one}
use native.Mathlib.Omega.{arith}
use lib.ListN.{length, take, drop, set, replicate, length-set, length-map, length-append, length-replicate, replicate-append-replicate}
use lib.Seq.{take-suc-set, take_all, take_at, drop_at}
use lib.Ieee.{Float}
use Rattle.hybit_core.specs.Answer.{accepted}
use Rattle.hybit_core.specs.Floats.{zero64}
use Rattle.hybit_core.proofs.BoolLaws.{eqb_turned}
use Rattle.lent.specs.Lists.{joined, each, starts, part, some}
use Rattle.lent.proofs.ListLaws.{joined_lengths, joined-le, length-joined-le, length-joined-suc, part_mid}
use Rattle.word.specs.Bits.{below, count, mask_of, words_of, ceil64}
use Rattle.word.proofs.BelowLaws.{below_same, length-below-le}
use Rattle.mask.specs.Calls.{listed}
use Rattle.csr32.specs.Csr.{Csr, Entry, csr_answer, entries, present, merged}
use Rattle.csr32.proofs.FrameLaws.{Framed, parts_all}
use Rattle.csr32.proofs.CsrLaws.{Valid, valid, present_row}
use Rattle.topology.specs.Words.{Words, topology_of, set_bits}
use Rattle.topology.proofs.RowLaws.{Row}
use Rattle.topology.proofs.TopologyLaws.{row_bits, row_words_lem, row_masks_lem}
use Rattle.topology_build.specs.Build.{topology_from}
use Rattle.levels.proofs.LevelLaws.{columns_few, zeros_long}
use Rattle.metadata_first.specs.Store.{packed_of}
use Rattle.metadata_first_merge.specs.Merge.{row_values}
use Rattle.metadata_first_build.specs.Pack.{store_of}

-- ---- the rows of the store

abbrev values_at : Csr → ℕ → List Float
values_at m r = row_values m.cols (entries m r)

abbrev columns_at : Csr → ℕ → List ℕ
columns_at m r = below (present (entries m r)) m.cols

module _ (m : Csr) where
  pub store_values : (store_of m).vals ≡ joined (values_at m) m.rows
  unfolding store_of packed_of row_values
  store_values = refl

  pub store_pointers : (store_of m).vptr ≡ starts (columns_at m) m.rows
  unfolding store_of packed_of
  store_pointers = refl

  as_many : (r : ℕ) → length (values_at m r) ≡ length (columns_at m r)
  unfolding row_values
  as_many r = length-map (columns_at m r) (merged (entries m r))

  pub store_long : length (store_of m).vals ≡ length (joined (columns_at m) m.rows)
  store_long = ap length store_values ∙ joined_lengths (values_at m) (columns_at m) m.rows as_many

  -- no more columns than entries
  pub columns_in_lem : Valid m → length (joined (columns_at m) m.rows) ≤ 2 ^ 24
  unfolding listed
  columns_in_lem v =
      let f : Framed m.rows m.ptr (length m.col) = subst (λ (k : ℕ). Framed m.rows m.ptr k) (sym v.sides) v.frame in
      omega (arith, joined-le (columns_at m) (part m.ptr m.col) m.rows (λ r h. row_few r), ap length (parts_all m.rows m.ptr m.col f), v.entries_in)
    where
      row_few : (r : ℕ) → length (columns_at m r) ≤ length (part m.ptr m.col r)
      row_few r =
          omega (
            arith,
            columns_few (part m.ptr m.col r) m.cols,
            ap length (below_same (present (entries m r)) (listed (part m.ptr m.col r)) m.cols (λ c. present_row v r c ∙ ap (λ (q : ℕ → Bool). some q (part m.ptr m.col r)) (λ j d. eqb_turned d c j))),
          )

-- ---- the first r rows are packed, `at` values

pub record Packing (m : Csr) (bits₀ starts₀ : List ℕ) (r at : ℕ) (bits starts vptr : List ℕ) (packed : List Float) : Type 0 where
  pub inside : r ≤ m.rows
  pub same_bits : length bits ≡ length bits₀
  pub same_starts : length starts ≡ length starts₀
  pub long_ptr : length vptr ≡ m.rows + 1
  pub count_is : at ≡ length (joined (columns_at m) r)
  pub starts_are : take r vptr ≡ each (λ i. length (joined (columns_at m) i)) r
  pub values_are : packed ≡ joined (values_at m) r ++ replicate (length (joined (columns_at m) m.rows) - at) zero64

-- a part from a to b, of two lists of x and y places
pub record Cut (a b x y : ℕ) : Type 0 where
  pub order : a ≤ b
  pub left : b ≤ x
  pub right : b ≤ y

module _ (m : Csr) (list : csr_answer m ≡ accepted) (t : Words) (src : t ≡ topology_from m) (bits₀ starts₀ : List ℕ) where
  ok : Valid m
  ok = valid m list

  -- the words have as many rows as the list
  pub packing_rows : t.rows ≡ m.rows
  unfolding topology_of
  packing_rows = ap (λ (w : Words). w.rows) src

  pub packing_none : (vptr : List ℕ) (packed : List Float) → length vptr ≡ m.rows + 1 → packed ≡ replicate (length (store_of m).vals) zero64 → Packing m bits₀ starts₀ 0 0 bits₀ starts₀ vptr packed
  unfolding joined each
  packing_none vptr packed l e = record {
    inside = zero-le;
    same_bits = refl;
    same_starts = refl;
    long_ptr = l;
    count_is = refl;
    starts_are = refl;
    values_are = e ∙ ap (λ (k : ℕ). replicate k zero64) (store_long m ∙ sym (sub-zero (length (joined (columns_at m) m.rows))));
  }

  module _ (r at : ℕ) (bits starts vptr : List ℕ) (packed : List Float) (inv : Packing m bits₀ starts₀ r at bits starts vptr packed) where
    pub packing_few : at ≤ 2 ^ 24
    packing_few = omega (arith, inv.count_is, length-joined-le (columns_at m) r m.rows inv.inside, columns_in_lem m ok)

    front_long : length (joined (values_at m) r) ≡ at
    front_long = joined_lengths (values_at m) (columns_at m) r (as_many m) ∙ sym inv.count_is

    long : length packed ≡ length (joined (columns_at m) m.rows)
    long =
        let rest : ℕ = length (joined (columns_at m) m.rows) - at in
        omega (arith, ap length inv.values_are, length-append (joined (values_at m) r) (replicate rest zero64), length-replicate rest zero64, front_long, inv.count_is, length-joined-le (columns_at m) r m.rows inv.inside)

    pub packing_same : (old : List Float) → old ≡ replicate (length (store_of m).vals) zero64 → length packed ≡ length old
    packing_same old e = long ∙ sym (ap length e ∙ length-replicate (length (store_of m).vals) zero64 ∙ store_long m)

    -- the last pointer
    pub packing_done : (v : ℕ) → m.rows ≤ r → v ≡ at % 2 ^ 32 → (set vptr m.rows v ≡ (store_of m).vptr) × (packed ≡ (store_of m).vals)
    unfolding starts each joined
    packing_done v h e =
        let q : r ≡ m.rows = omega (arith, inv.inside) in
        let i : v ≡ length (joined (columns_at m) m.rows) = e ∙ mod-eq_of_lt (omega (arith, packing_few)) ∙ inv.count_is ∙ ap (λ (k : ℕ). length (joined (columns_at m) k)) q in
        let none : length (joined (columns_at m) m.rows) - at ≡ 0 = omega (arith, inv.count_is, ap (λ (k : ℕ). length (joined (columns_at m) k)) q) in (
          sym (take_all (suc m.rows) (set vptr m.rows v) (omega (arith, length-set vptr m.rows v, inv.long_ptr))) ∙ take-suc-set vptr m.rows v (omega (arith, inv.long_ptr))
              ∙ ap₂ (λ (l : List ℕ) (x : ℕ). l ++ x ∷ []) (ap (λ (k : ℕ). take k vptr) (sym q) ∙ inv.starts_are ∙ ap (each (λ i. length (joined (columns_at m) i))) q) i ∙ sym (store_pointers m),
          inv.values_are ∙ ap (λ (k : ℕ). joined (values_at m) r ++ replicate k zero64) none ∙ append-nil (joined (values_at m) r) ∙ ap (joined (values_at m)) q ∙ sym (store_values m),
        )

    module _ (h : r < m.rows) where
      -- ws and ms are the row's words and masks
      module _ (ws ms : List ℕ) (ew : ws ≡ part t.ptr t.word r) (em : ms ≡ part t.ptr t.mask r) where
        words_are : ws ≡ words_of (present (entries m r)) m.cols
        words_are = ew ∙ ap (λ (t : Words). part t.ptr t.word r) src ∙ row_words_lem m.rows m.cols (λ r. present (entries m r)) r h

        masks_are : ms ≡ map (mask_of (present (entries m r)) m.cols) (words_of (present (entries m r)) m.cols)
        masks_are = em ∙ ap (λ (t : Words). part t.ptr t.mask r) src ∙ row_masks_lem m.rows m.cols (λ r. present (entries m r)) r h

        row : Row (present (entries m r)) m.cols ws ms
        row = record { words = words_are; masks = masks_are }

        -- k is how many bits the row's masks have
        module _ (k : ℕ) (ek : k ≡ set_bits ms % 2 ^ 64) where
          row_long : k ≡ length (columns_at m r)
          row_long =
              let e : set_bits ms ≡ length (columns_at m r) = ap set_bits masks_are ∙ row_bits (present (entries m r)) m.cols in
              omega (arith, length-below-le (present (entries m r)) m.cols, ok.cols_in)

          next-count : at + k ≡ length (joined (columns_at m) (r + 1))
          next-count = omega (arith, row_long, inv.count_is, length-joined-suc (columns_at m) r, ap (λ (i : ℕ). length (joined (columns_at m) i)) (add-one r))

          next_in : at + k ≤ length (joined (columns_at m) m.rows)
          next_in = omega (arith, next-count, length-joined-le (columns_at m) (r + 1) m.rows (omega arith))

          -- the row's part of the values
          pub packing_part : Cut at (at + k) (length packed) (2 ^ 24)
          packing_part = record { order = omega arith; left = omega (arith, next_in, long); right = omega (arith, next_in, columns_in_lem m ok) }

          abbrev rest : List Float
          rest = replicate (length (joined (columns_at m) m.rows) - (at + k)) zero64

          split : packed ≡ (joined (values_at m) r ++ replicate k zero64) ++ rest
          split =
              let left : ℕ = length (joined (columns_at m) m.rows) - (at + k) in
              let e : length (joined (columns_at m) m.rows) - at ≡ k + left = omega (arith, next_in) in
              inv.values_are ∙ ap (λ (i : ℕ). joined (values_at m) r ++ replicate i zero64) e ∙ ap (λ (t : List Float). joined (values_at m) r ++ t) (sym (replicate-append-replicate k left zero64))
              ∙ sym (append_assoc (joined (values_at m) r) (replicate k zero64) rest)

          zeros : take (at + k - at) (drop at packed) ≡ replicate k zero64
          zeros = part_mid at (at + k) (joined (values_at m) r) (replicate k zero64) rest packed split front_long (ap (λ (i : ℕ). at + i) (sym (length-replicate k zero64)))

          -- cs and vs are the columns and values of the row's entries
          module _ (cs : List ℕ) (vs : List Float) (ec : cs ≡ part m.ptr m.col r) (ev : vs ≡ part m.ptr m.val r) where
            same : zip cs vs ≡ entries m r
            unfolding entries
            same = ap₂ (λ (cs : List ℕ) (vs : List Float). zip cs vs) ec ev

            -- what `pack_row` requires
            pub packing_row : Row (present (zip cs vs)) m.cols ws ms
            packing_row = subst (λ (es : List Entry). Row (present es) m.cols ws ms) (sym same) row

            pub packing_room : (ceil64 m.cols ≤ length bits₀) × (ceil64 m.cols ≤ length starts₀) → (ceil64 m.cols ≤ length bits) × (ceil64 m.cols ≤ length starts)
            packing_room h = (omega (arith, inv.same_bits, h.0), omega (arith, inv.same_starts, h.1))

            pub packing_zeros : take (at + k - at) (drop at packed) ≡ replicate (count (present (zip cs vs)) m.cols) zero64
            packing_zeros = zeros ∙ ap (λ (i : ℕ). replicate i zero64) (row_long ∙ sym (ap (λ (es : List Entry). count (present es) m.cols) same))

            -- the row is packed to `out`, and its pointer v stored
            pub packing_more : (v : ℕ) (bits' starts' : List ℕ) (out : List Float) → v ≡ at % 2 ^ 32 → length bits' ≡ length bits → length starts' ≡ length starts → out ≡ row_values m.cols (zip cs vs)
                → Packing m bits₀ starts₀ (r + 1) (at + k) bits' starts' (set vptr r v) (take at packed ++ (out ++ drop (at + k - at) (drop at packed)))
            unfolding joined each
            packing_more v bits' starts' out ev lb ls eo =
                let i : v ≡ length (joined (columns_at m) r) = ev ∙ mod-eq_of_lt (omega (arith, packing_few)) ∙ inv.count_is in
                let whole : packed ≡ joined (values_at m) r ++ (replicate k zero64 ++ rest) = split ∙ append_assoc (joined (values_at m) r) (replicate k zero64) rest in
                let before : take at packed ≡ joined (values_at m) r = ap (take at) whole ∙ take_at (joined (values_at m) r) (replicate k zero64 ++ rest) at front_long in
                let behind : drop (at + k - at) (drop at packed) ≡ rest =
                ap (λ (t : List Float). drop (at + k - at) (drop at t)) whole ∙ ap (drop (at + k - at)) (drop_at (joined (values_at m) r) (replicate k zero64 ++ rest) at front_long)
                ∙ drop_at (replicate k zero64) rest (at + k - at) (omega (arith, length-replicate k zero64)) in
                record {
                  inside = omega arith;
                  same_bits = lb ∙ inv.same_bits;
                  same_starts = ls ∙ inv.same_starts;
                  long_ptr = length-set vptr r v ∙ inv.long_ptr;
                  count_is = next-count;
                  starts_are =
                      ap (λ (j : ℕ). take j (set vptr r v)) (add-one r) ∙ take-suc-set vptr r v (omega (arith, inv.long_ptr))
                      ∙ ap₂ (λ (t : List ℕ) (x : ℕ). t ++ x ∷ []) inv.starts_are i ∙ sym (ap (each (λ j. length (joined (columns_at m) j))) (add-one r));
                  values_are =
                      ap₂ (λ (x y : List Float). x ++ y) before (ap₂ (λ (x y : List Float). x ++ y) (eo ∙ ap (row_values m.cols) same) behind)
                      ∙ sym (append_assoc (joined (values_at m) r) (values_at m r) rest) ∙ sym (ap (λ (j : ℕ). joined (values_at m) j ++ rest) (add-one r));
                }

-- 16,384 places are enough
pub places_in : (m : Csr) → csr_answer m ≡ accepted → ceil64 m.cols ≤ length {A = ℕ} (take 16384 (replicate 16384 0))
places_in m list = omega (arith, zeros_long 16384 16384 (omega arith), (valid m list).cols_in)
