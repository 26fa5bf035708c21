-- A plot list has no more tiles than entries, and no tile more than 64 values. Assumes nothing.
use mathlib.Core.Bool.{Bool, true, false, not, ◌&&◌}
use mathlib.Core.List.{List, [], ◌∷◌, zip, zip_with}
use mathlib.Core.Path.{◌≡◌, refl, sym, ap, ◌∙◌, subst}
use mir.Val.{bool_byte}
use Prim.Native.Nat.{ℕ, zero, suc, ◌*◌, ◌≤◌, ◌<◌, ◌^◌, zero-le}
use native.Mathlib.Omega.{arith}
use native.Mathlib.Decide.{dec_lt}
use lib.Dec.{eqb}
use lib.ListN.{length, length-append, length-map}
use lib.Ieee.{Float}
use borrow.Author.Tests.{ne_eqb}
use Rattle.lent.specs.Lists.{joined, part, only, some, spread}
use Rattle.lent.proofs.ListLaws.{length-only, joined-le, spread-append}
use Rattle.word.specs.Bits.{below, count, words_of, mask_of}
use Rattle.word.proofs.BelowLaws.{below-zero, below_cong, length-below-suc, length-below-parts, length-below-or, none-counted, byte_le}
use Rattle.word.proofs.BitLaws.{words-le}
use Rattle.csr32.specs.Csr.{Csr, Entry, entries, present}
use Rattle.csr32.proofs.CsrLaws.{Valid}
use Rattle.csr32.proofs.FrameLaws.{Framed, parts_all}
use Rattle.csr32.proofs.MergedLaws.{merged_absent}
use Rattle.abtm.specs.declared.AbtmConfig.{AbtmConfig}
use Rattle.abtm_values.specs.Values.{is_zero, merged_nonzero}
use Rattle.abtm.specs.Tiles.{Tile, row_tiles_of, tile_of, slots_of}
use Rattle.abtm_values.proofs.ZeroLaws.{zero_is_zero}
use Rattle.abtm_build.specs.Written.{row_of}
use Rattle.abtm_build.proofs.RowsLaws.{slots_few}

-- ---- columns that have an entry

single : (d n : ℕ) → length (below (λ c. eqb d c) n) ≤ 1
single d zero = omega (arith, ap length (below-zero (λ c. eqb d c)))
single d (suc n) = go (dec_lt d n) (single d n)
  where
    go : Dec (d < n) → length (below (λ c. eqb d c) n) ≤ 1 → length (below (λ c. eqb d c) (suc n)) ≤ 1
    go (yes l) k = omega (arith, length-below-suc (λ c. eqb d c) n, ap bool_byte (ne_eqb d n (λ e. absurd (omega arith))), k)
    go (no l) k = omega (arith, length-below-suc (λ c. eqb d c) n, none-counted (λ c. eqb d c) n (λ i u. ne_eqb d i (λ e. absurd (omega arith))), byte_le (eqb d n))

present-few : (es : List Entry) (n : ℕ) → length (below (present es) n) ≤ length es
unfolding present some
present-few [] n = omega (arith, none-counted (present []) n (λ i l. refl))
present-few (e ∷ es) n = omega (arith, length-below-or (λ c. eqb e.0 c) (present es) n, single e.0 n, present-few es n)

-- a test that implies another counts no more
count-le : (p q : ℕ → Bool) (n : ℕ) → ((i : ℕ) → p i ≡ true → q i ≡ true) → length (below p n) ≤ length (below q n)
count-le p q n h = omega (arith, length-below-parts q p n, ap length (below_cong p (λ i. q i && p i) n (λ i l. both (p i) (q i) (h i))))
  where
    both : (s t : Bool) → (s ≡ true → t ≡ true) → s ≡ (t && s)
    both true t h = sym (ap (λ (b : Bool). b && true) (h refl))
    both false true h = refl
    both false false h = refl

-- a value that is not zero has an entry
nonzero-present : (es : List Entry) (c : ℕ) → not (is_zero (merged_nonzero es c)) ≡ true → present (only (λ (e : Entry). not (is_zero e.1)) es) c ≡ true
unfolding merged_nonzero
nonzero-present es c h = go (present (only (λ (e : Entry). not (is_zero e.1)) es) c) refl
  where
    go : (t : Bool) → present (only (λ (e : Entry). not (is_zero e.1)) es) c ≡ t → t ≡ true
    go true e = refl
    go false e = sym (ap (λ (x : Float). not (is_zero x)) (merged_absent (only (λ (e : Entry). not (is_zero e.1)) es) c e) ∙ ap not zero_is_zero) ∙ h

pub nonzero-few : (es : List Entry) (n : ℕ) → count (λ c. not (is_zero (merged_nonzero es c))) n ≤ length es
nonzero-few es n =
    let kept : List Entry = only (λ (e : Entry). not (is_zero e.1)) es in
    omega (arith, count-le (λ c. not (is_zero (merged_nonzero es c))) (present kept) n (nonzero-present es), present-few kept n, length-only (λ (e : Entry). not (is_zero e.1)) es)

-- ---- all rows

zip-le : {A B : Type 0} (l : List A) (m : List B) → length (zip l m) ≤ length l
unfolding zip zip_with
zip-le [] m = zero-le
zip-le (a ∷ l) [] = zero-le
zip-le (a ∷ l) (b ∷ m) = omega (arith, zip-le l m)

module _ (m : Csr) (h : AbtmConfig) where
  row_le : (r : ℕ) → length (row_of m h r) ≤ length (entries m r)
  unfolding row_tiles_of
  row_le r =
      let v : ℕ → Float = merged_nonzero (entries m r) in
      omega (arith, length-map (words_of (λ c. not (is_zero (v c))) m.cols) (λ w. tile_of h v (mask_of (λ c. not (is_zero (v c))) m.cols w) w), words-le (λ c. not (is_zero (v c))) m.cols, nonzero-few (entries m r) m.cols)

  entries-le : (r : ℕ) → length (entries m r) ≤ length (part m.ptr m.col r)
  unfolding entries
  entries-le r = zip-le (part m.ptr m.col r) (part m.ptr m.val r)

  one : (r : ℕ) → length (slots_of (row_of m h r)) ≤ 64 * length (row_of m h r)
  unfolding row_tiles_of
  one r =
      let v : ℕ → Float = merged_nonzero (entries m r) in
      let p : ℕ → Bool = λ c. not (is_zero (v c)) in
      omega (arith, slots_few h v (mask_of p m.cols) (words_of p m.cols), length-map (words_of p m.cols) (λ w. tile_of h v (mask_of p m.cols w) w))

  pub slots_le : (n : ℕ) → length (slots_of (joined (row_of m h) n)) ≤ 64 * length (joined (row_of m h) n)
  unfolding joined spread
  slots_le zero = zero-le
  slots_le (suc n) =
      let ts : List Tile = joined (row_of m h) n in
      omega (arith, slots_le n, ap length (spread-append (λ (e : Tile). e.slots) ts (row_of m h n)), length-append (slots_of ts) (slots_of (row_of m h n)), length-append ts (row_of m h n), one n)

  module _ (ok : Valid m) where
    pub tiles_few : length (joined (row_of m h) m.rows) ≤ 2 ^ 24
    tiles_few =
        let f : Framed m.rows m.ptr (length m.col) = subst (λ (n : ℕ). Framed m.rows m.ptr n) (sym ok.sides) ok.frame in
        omega (arith, joined-le (row_of m h) (entries m) m.rows (λ r l. row_le r), joined-le (entries m) (part m.ptr m.col) m.rows (λ r l. entries-le r), ap length (parts_all m.rows m.ptr m.col f), ok.entries_in)

    pub slots_few_in : length (slots_of (joined (row_of m h) m.rows)) ≤ 2 ^ 30
    slots_few_in = omega (arith, slots_le m.rows, tiles_few)
