-- Blocks wholly inside the frame: counted in a list of block columns, and in the full block rows, which are the list's front.
-- Assumes nothing.
use mathlib.Core.Bool.{Bool, true}
use mathlib.Core.List.{List}
use mathlib.Core.Path.{◌≡◌, sym, ap, ◌∙◌}
use Prim.Native.Nat.{ℕ, ◌+◌, ◌*◌, ◌/◌, ◌^◌, ◌≤◌, ◌<◌}
use native.Mathlib.Nat.{le_refl, mul-le-mul_right}
use native.Mathlib.Omega.{arith}
use lib.Dec.{leb}
use lib.ListN.{length, get_or, take}
use lib.Ieee.{Float}
use lib.Seq.{take_at}
use Rattle.lent.specs.Lists.{joined, part, only}
use Rattle.lent.proofs.ListLaws.{joined_split, only-joined}
use Rattle.csr32.specs.Csr.{framed}
use Rattle.csr32.proofs.FrameLaws.{Framed, framed_facts, parts_all, parts-length}
use Rattle.dense_block.specs.Blocks.{as_blocks, blocks_for, width_of}
use Rattle.dense_block.specs.Calls.{fast_blocks}
use Rattle.dense_block.specs.declared.DenseBlockSize.{DenseBlockSize}
use Rattle.dense_block.specs.declared.DenseBlockSize.TheVariants.{B3, B6}

-- no block column is so far that its columns leave a word
pub column_fits : (w c : ℕ) → w ≤ 6 → c < 2 ^ 32 → w * c < 2 ^ 63
column_fits w c h l = omega (arith, mul-le-mul_right c h)

-- a full block row is a block row
pub full_row : (s : DenseBlockSize) (n : ℕ) → n / width_of s ≤ blocks_for (width_of s) n
full_row B3 n = omega arith
full_row B6 n = omega arith

-- ---- the rows before row k are the list's front

module _ {A : Type 0} (rows : ℕ) (ptr : List ℕ) (l : List A) (f : Framed rows ptr (length l)) where
  pub parts-front : (k : ℕ) → k ≤ rows → joined (part ptr l) k ≡ take (get_or ptr k 0) l
  parts-front k h =
      let s = joined_split (part ptr l) k rows h in
      sym (ap (take (get_or ptr k 0)) (sym (parts_all rows ptr l f) ∙ s.1) ∙ take_at (joined (part ptr l) k) s.0 (get_or ptr k 0) (parts-length rows ptr l f k h))

-- the list's front up to e, the pointer of the row after the full ones
pub fast_front : (s : DenseBlockSize) (n m w k e r : ℕ) (ps cs : List ℕ) (vs : List Float) → framed (blocks_for (width_of s) n) ps (length cs) ≡ true → w ≡ width_of s → k ≡ n / width_of s → e ≡ get_or ps k 0
    → r ≡ length (only (λ C. leb (w * C + w) m) (take e cs)) → r ≡ fast_blocks (as_blocks n m (width_of s) ps cs vs)
unfolding fast_blocks
fast_front s n m w k e r ps cs vs f x y z g =
    let q : ℕ → ℕ → Bool = λ w C. leb (w * C + w) m in
    let rows : ℕ = blocks_for (width_of s) n in
    let front : take e cs ≡ joined (part ps cs) (n / width_of s) =
    ap (λ (j : ℕ). take j cs) (z ∙ ap (λ (j : ℕ). get_or ps j 0) y) ∙ sym (parts-front rows ps cs (framed_facts rows ps (length cs) f) (n / width_of s) (full_row s n)) in
    g
    ∙ ap (λ (l : List ℕ). length (only (q w) l)) front
    ∙ ap (λ (v : ℕ). length (only (q v) (joined (part ps cs) (n / width_of s)))) x
    ∙ ap length (only-joined (q (width_of s)) (part ps cs) (n / width_of s))

-- that pointer can be read, and lies inside the list
pub record FastEnd (k : ℕ) (ps cs : List ℕ) : Type 0 where
  pub here : k < length ps
  pub inside : get_or ps k 0 ≤ length cs

pub fast_end_lem : (s : DenseBlockSize) (n k : ℕ) (ps cs : List ℕ) → framed (blocks_for (width_of s) n) ps (length cs) ≡ true → k ≡ n / width_of s → FastEnd k ps cs
fast_end_lem s n k ps cs e q =
    let rows : ℕ = blocks_for (width_of s) n in
    let f : Framed rows ps (length cs) = framed_facts rows ps (length cs) e in
    let h : k ≤ rows = omega (arith, full_row s n) in
    record { here = omega (arith, f.long); inside = omega (arith, f.rising k rows h (le_refl rows), f.last) }
