-- The values of all block rows, one after the other, each written over zeros. Assumes nothing.
use mathlib.Core.Bool.{false}
use mathlib.Core.List.{List, ◌++◌, append_assoc, append-nil}
use mathlib.Core.Path.{◌≡◌, refl, sym, ap, ap₂, ◌∙◌, subst}
use Prim.Native.Nat.{ℕ, zero, suc, ◌+◌, ◌-◌, ◌*◌, ◌/◌, ◌^◌, ◌≤◌, ◌<◌, zero-le}
use native.Mathlib.Nat.{zero-mul, add-mul, mul-le-mul_right}
use native.Mathlib.Numerals.{add-one}
use native.Mathlib.Omega.{arith}
use lib.ListN.{length, get_or, take, drop, replicate, length-append, length-replicate, replicate-append-replicate}
use lib.Seq.{take_at, drop_at}
use lib.Ieee.{Float}
use Rattle.std.specs.Int.{div_ceil}
use Rattle.hybit_core.specs.Answer.{accepted}
use Rattle.hybit_core.specs.Floats.{zero64}
use Rattle.lent.specs.Lists.{joined, starts, part, spread}
use Rattle.lent.proofs.ListLaws.{length-joined-le, length-joined-suc, get_or-starts, length-starts, part-joined, part_lent, part_mid, zeros_front}
use Rattle.word.specs.Bits.{below, ceil64}
use Rattle.word.proofs.BitLaws.{ceil64_is}
use Rattle.mask.specs.Mask.{mask_words}
use Rattle.mask.specs.Calls.{listed}
use Rattle.mask.proofs.CallLaws.{empty-words}
use Rattle.levels.specs.Levels.{zeroed}
use Rattle.levels.specs.Ranks.{Ranks}
use Rattle.levels.proofs.ClearLaws.{forgotten}
use Rattle.csr32.specs.Csr.{Csr, csr_answer}
use Rattle.csr32.proofs.CsrLaws.{valid}
use Rattle.dense_block.specs.Blocks.{width_of, blocks_for, row_blocks, block_of, blocks_of, block_has}
use Rattle.dense_block.specs.declared.DenseBlockSize.{DenseBlockSize}
use Rattle.dense_block_columns.proofs.BandLaws.{band_in, blocks_few}
use Rattle.dense_block_build.proofs.NoteLaws.{below-listed}
use Rattle.dense_block_build.proofs.BandLaws.{spread-length}
use Rattle.dense_block_build.proofs.SizeLaws.{width_pos}

-- ---- parts written one after the other over zeros

module _ {A : Type 0} (z : A) (f : ℕ → List A) (n r : ℕ) (out : List A) (h : r < n) (is : out ≡ joined f r ++ replicate (length (joined f n) - length (joined f r)) z) where
  next-length : length (joined f (r + 1)) ≡ length (joined f r) + length (f r)
  next-length = ap (λ (k : ℕ). length (joined f k)) (add-one r) ∙ length-joined-suc f r

  next-room : length (joined f (r + 1)) ≤ length (joined f n)
  next-room = length-joined-le f (r + 1) n (omega arith)

  abbrev rest : List A
  rest = replicate (length (joined f n) - length (joined f (r + 1))) z

  cut : out ≡ (joined f r ++ replicate (length (f r)) z) ++ rest
  cut =
      let e : length (joined f n) - length (joined f r) ≡ length (f r) + (length (joined f n) - length (joined f (r + 1))) = omega (arith, next-length, next-room) in
      is ∙ ap (λ (k : ℕ). joined f r ++ replicate k z) e
      ∙ ap (λ (l : List A). joined f r ++ l) (sym (replicate-append-replicate (length (f r)) (length (joined f n) - length (joined f (r + 1))) z)) ∙ sym (append_assoc (joined f r) (replicate (length (f r)) z) rest)

  module _ (a b : ℕ) (ea : a ≡ length (joined f r)) (eb : b ≡ length (joined f (r + 1))) where
    pub next_zeros : take (b - a) (drop a out) ≡ replicate (length (f r)) z
    next_zeros = part_mid a b (joined f r) (replicate (length (f r)) z) rest out cut (sym ea) (omega (arith, next-length, length-replicate (length (f r)) z))

    pub next_written : (new : List A) → new ≡ f r → take a out ++ (new ++ drop (b - a) (drop a out)) ≡ joined f (r + 1) ++ replicate (length (joined f n) - length (joined f (r + 1))) z
    unfolding joined
    next_written new e =
        let whole : out ≡ joined f r ++ (replicate (length (f r)) z ++ rest) = cut ∙ append_assoc (joined f r) (replicate (length (f r)) z) rest in
        let front : take a out ≡ joined f r = ap (take a) whole ∙ take_at (joined f r) (replicate (length (f r)) z ++ rest) a (sym ea) in
        let back : drop (b - a) (drop a out) ≡ rest =
        ap (λ (l : List A). drop (b - a) (drop a l)) whole ∙ ap (drop (b - a)) (drop_at (joined f r) (replicate (length (f r)) z ++ rest) a (sym ea))
        ∙ drop_at (replicate (length (f r)) z) rest (b - a) (omega (arith, next-length, length-replicate (length (f r)) z)) in
        ap₂ (λ (s t : List A). s ++ (new ++ t)) front back ∙ ap (λ (l : List A). joined f r ++ (l ++ rest)) e ∙ sym (append_assoc (joined f r) (f r) rest)
        ∙ sym (ap (λ (k : ℕ). joined f k ++ rest) (add-one r))

-- ---- the first R block rows are written

pub in_bands : (s : DenseBlockSize) (n x R : ℕ) → x ≡ blocks_for (width_of s) n → R < x → R < blocks_for (width_of s) n
in_bands s n x R e h = subst (λ (k : ℕ). R < k) e h

module _ (m : Csr) (s : DenseBlockSize) where
  abbrev bands : ℕ
  bands = blocks_for (width_of s) m.rows

  abbrev cols_at : ℕ → List ℕ
  cols_at = row_blocks m (width_of s)

  abbrev vals_at : ℕ → List Float
  vals_at R = spread (block_of m (width_of s) R) (row_blocks m (width_of s) R)

  vals_long : (R : ℕ) → length (vals_at R) ≡ length (cols_at R) * (width_of s * width_of s)
  vals_long R = spread-length m (width_of s) R (cols_at R) (width_pos s)

  all_long : (k : ℕ) → length (joined vals_at k) ≡ length (joined cols_at k) * (width_of s * width_of s)
  unfolding joined
  all_long zero = sym (zero-mul (width_of s * width_of s))
  all_long (suc k) =
      length-append (joined vals_at k) (vals_at k) ∙ ap₂ (λ (a b : ℕ). a + b) (all_long k) (vals_long k)
      ∙ sym (add-mul (length (joined cols_at k)) (length (cols_at k)) (width_of s * width_of s)) ∙ ap (λ (a : ℕ). a * (width_of s * width_of s)) (sym (length-append (joined cols_at k) (cols_at k)))

  ptr_is : (blocks_of m (width_of s)).ptr ≡ starts cols_at bands
  unfolding blocks_of
  ptr_is = refl

  col_is : (blocks_of m (width_of s)).col ≡ joined cols_at bands
  unfolding blocks_of
  col_is = refl

  vals_is : (blocks_of m (width_of s)).vals ≡ joined vals_at bands
  unfolding blocks_of
  vals_is = refl

  pub vals-count : length (blocks_of m (width_of s)).vals ≡ length (blocks_of m (width_of s)).col * (width_of s * width_of s)
  vals-count = ap length vals_is ∙ all_long bands ∙ ap (λ (l : List ℕ). length l * (width_of s * width_of s)) (sym col_is)

  pub record Filling (starts₀ : List ℕ) (R : ℕ) (bits starts : List ℕ) (out : List Float) : Type 0 where
    pub within : R ≤ bands
    pub bits_are : bits ≡ mask_words (λ c. false) (blocks_for (width_of s) m.cols)
    pub same : length starts ≡ length starts₀
    pub is : out ≡ joined vals_at R ++ replicate (length (joined vals_at bands) - length (joined vals_at R)) zero64

  -- a part of the block columns, by its pointers
  module _ (ptr col : List ℕ) (ep : ptr ≡ (blocks_of m (width_of s)).ptr) (ec : col ≡ (blocks_of m (width_of s)).col) where
    pub pointers_long : length ptr ≡ bands + 1
    pointers_long = ap length (ep ∙ ptr_is) ∙ length-starts cols_at bands ∙ sym (add-one bands)

    module _ (R : ℕ) (h : R < bands) where
      pub pointers_here : R < length ptr
      pointers_here = omega (arith, pointers_long)

      pub pointers_next : R + 1 < length ptr
      pointers_next = omega (arith, pointers_long)

      start_is : get_or ptr R 0 ≡ length (joined cols_at R)
      start_is = ap (λ (l : List ℕ). get_or l R 0) (ep ∙ ptr_is) ∙ get_or-starts cols_at bands R (omega arith)

      end_is : get_or ptr (R + 1) 0 ≡ length (joined cols_at (R + 1))
      end_is = ap (λ (l : List ℕ). get_or l (R + 1) 0) (ep ∙ ptr_is) ∙ get_or-starts cols_at bands (R + 1) (omega arith)

      module _ (a b : ℕ) (ea : a ≡ get_or ptr R 0) (eb : b ≡ get_or ptr (R + 1) 0) where
        pub band_order : a ≤ b
        band_order = omega (arith, start_is, end_is, length-joined-le cols_at R (R + 1) (omega arith))

        pub band-inside : b ≤ length col
        band-inside = omega (arith, end_is, ap length (ec ∙ col_is), length-joined-le cols_at (R + 1) bands (omega arith))

        pub part_is : take (b - a) (drop a col) ≡ row_blocks m (width_of s) R
        part_is = part_lent ptr col R a b ea eb ∙ ap₂ (λ (p c : List ℕ). part p c R) (ep ∙ ptr_is) (ec ∙ col_is) ∙ part-joined cols_at cols_at bands R (λ r. refl) h

        -- the same of the values, where a block has k numbers
        module _ (k : ℕ) (ek : k ≡ width_of s * width_of s) where
          values_start : a * k ≡ length (joined vals_at R)
          values_start = ap₂ (λ (x y : ℕ). x * y) (ea ∙ start_is) ek ∙ sym (all_long R)

          values_end : b * k ≡ length (joined vals_at (R + 1))
          values_end = ap₂ (λ (x y : ℕ). x * y) (eb ∙ end_is) ek ∙ sym (all_long (R + 1))

    pub filling_none : (bits starts₀ : List ℕ) (out : List Float) → bits ≡ mask_words (λ c. false) (blocks_for (width_of s) m.cols) → out ≡ replicate (length col * (width_of s * width_of s)) zero64 → Filling starts₀ 0 bits starts₀ out
    unfolding joined
    filling_none bits starts₀ out eb e =
        let k : length col * (width_of s * width_of s) ≡ length (joined vals_at bands) - 0 = omega (arith, ap (λ (l : List ℕ). length l * (width_of s * width_of s)) (ec ∙ col_is), all_long bands) in
        record { within = zero-le; bits_are = eb; same = refl; is = e ∙ ap (λ (x : ℕ). replicate x zero64) k }

    module _ (starts₀ : List ℕ) (R : ℕ) (bits starts : List ℕ) (out : List Float) (inv : Filling starts₀ R bits starts out) where
      filling_long : length out ≡ length (joined vals_at bands)
      filling_long =
          let x : ℕ = length (joined vals_at bands) - length (joined vals_at R) in
          omega (arith, ap length inv.is, length-append (joined vals_at R) (replicate x zero64), length-replicate x zero64, length-joined-le vals_at R bands inv.within)

      pub filling_same : (old : List Float) → old ≡ replicate (length col * (width_of s * width_of s)) zero64 → length out ≡ length old
      filling_same old e =
          filling_long ∙ sym (ap length e ∙ length-replicate (length col * (width_of s * width_of s)) zero64 ∙ ap (λ (l : List ℕ). length l * (width_of s * width_of s)) (ec ∙ col_is) ∙ sym (all_long bands))

      pub filling_done : (x : ℕ) → x ≡ bands → x ≤ R → out ≡ (blocks_of m (width_of s)).vals
      filling_done x e h =
          let q : R ≡ bands = omega (arith, inv.within) in
          let none : length (joined vals_at bands) - length (joined vals_at R) ≡ 0 = omega (arith, ap (λ (k : ℕ). length (joined vals_at k)) q) in
          inv.is ∙ ap (λ (k : ℕ). joined vals_at R ++ replicate k zero64) none ∙ append-nil (joined vals_at R) ∙ ap (joined vals_at) q ∙ sym vals_is

      module _ (h : R < bands) (a b : ℕ) (ea : a ≡ get_or ptr R 0) (eb : b ≡ get_or ptr (R + 1) 0) where
        -- what `note_columns` requires
        pub filling_notes : csr_answer m ≡ accepted → (x : ℕ) → x ≡ blocks_for (width_of s) m.cols → ceil64 (blocks_for (width_of s) m.cols) ≤ length starts₀
            → (x ≤ 349526) × ((take (b - a) (drop a col) ≡ below (listed (take (b - a) (drop a col))) x) × ((bits ≡ mask_words (λ c. false) x) × (ceil64 x ≤ length starts)))
        unfolding row_blocks
        filling_notes ok x ex room =
            subst (λ (x : ℕ). (x ≤ 349526) × ((take (b - a) (drop a col) ≡ below (listed (take (b - a) (drop a col))) x) × ((bits ≡ mask_words (λ c. false) x) × (ceil64 x ≤ length starts)))) (sym ex)
            (blocks_few s m.cols (valid m ok).cols_in, (below-listed (block_has m (width_of s) R) (blocks_for (width_of s) m.cols) (take (b - a) (drop a col)) (part_is R h a b ea eb), (inv.bits_are, omega (arith, inv.same))))

        module _ (k : ℕ) (ek : k ≡ width_of s * width_of s) where
          pub filling_start : a * k ≤ b * k
          filling_start = mul-le-mul_right k (band_order R h a b ea eb)

          pub filling_end : b * k ≤ length out
          filling_end = omega (arith, values_end R h a b ea eb k ek, filling_long, length-joined-le vals_at (R + 1) bands (omega arith))

          -- what `add_band` requires, once the columns are noted
          pub filling_asks : (x : ℕ) (bits' starts' : List ℕ) → x ≡ blocks_for (width_of s) m.cols → bits' ≡ mask_words (listed (take (b - a) (drop a col))) x → Ranks (listed (take (b - a) (drop a col))) x bits' starts'
              → (width_of s * R < m.rows) × ((bits' ≡ mask_words (listed (row_blocks m (width_of s) R)) (blocks_for (width_of s) m.cols)) × (Ranks (listed (row_blocks m (width_of s) R)) (blocks_for (width_of s) m.cols) bits' starts' × (take (b * k - a * k) (drop (a * k) out) ≡ replicate (length (row_blocks m (width_of s) R) * (width_of s * width_of s)) zero64)))
          filling_asks x bits' starts' ex e ranks =
              let p : take (b - a) (drop a col) ≡ row_blocks m (width_of s) R = part_is R h a b ea eb in
              (band_in s m.rows R h, (e ∙ ap₂ (λ (l : List ℕ) (y : ℕ). mask_words (listed l) y) p ex, (subst (λ (l : List ℕ). Ranks (listed l) (blocks_for (width_of s) m.cols) bits' starts') p (subst (λ (y : ℕ). Ranks (listed (take (b - a) (drop a col))) y bits' starts') ex ranks), next_zeros zero64 vals_at bands R out h inv.is (a * k) (b * k) (values_start R h a b ea eb k ek) (values_end R h a b ea eb k ek) ∙ ap (λ (y : ℕ). replicate y zero64) (vals_long R))))

          -- the block row is written, and its columns are forgotten
          pub filling_more : (x : ℕ) (bits' bits'' starts' : List ℕ) (new : List Float) → x ≡ blocks_for (width_of s) m.cols → bits' ≡ mask_words (listed (take (b - a) (drop a col))) x → bits'' ≡ zeroed (λ c. c / 64) (take (b - a) (drop a col)) bits' → length starts' ≡ length starts → new ≡ vals_at R
              → Filling starts₀ (R + 1) bits'' starts' (take (a * k) out ++ (new ++ drop (b * k - a * k) (drop (a * k) out)))
          filling_more x bits' bits'' starts' new ex e f l n = record {
            within = omega arith;
            bits_are = forgotten (take (b - a) (drop a col)) x bits' bits'' e f ∙ ap (mask_words (λ c. false)) ex;
            same = l ∙ inv.same;
            is = next_written zero64 vals_at bands R out h inv.is (a * k) (b * k) (values_start R h a b ea eb k ek) (values_end R h a b ea eb k ek) new n;
          }

-- ---- the local lists are long enough, and empty

module _ (s : DenseBlockSize) (n x : ℕ) (few : n ≤ 2 ^ 20) (e : x ≡ blocks_for (width_of s) n) where
  pub local_few : x ≤ 349526
  local_few = subst (λ (k : ℕ). k ≤ 349526) (sym e) (blocks_few s n few)

  -- so many words, as the code has it
  module _ (words : ℕ) (ew : words ≡ div_ceil x 64) where
    pub local_words : words ≤ 5462
    local_words = omega (arith, local_few)

    pub local_bits : take words (replicate 5462 0) ≡ mask_words (λ c. false) (blocks_for (width_of s) n)
    local_bits =
        let up : words ≡ (x + 63) / 64 = ew ∙ ceil64_is x in
        zeros_front 0 words 5462 local_words ∙ ap (λ (k : ℕ). replicate k 0) up ∙ ap (λ (k : ℕ). replicate ((k + 63) / 64) 0) e ∙ sym (empty-words (blocks_for (width_of s) n))

  pub local_starts : ceil64 (blocks_for (width_of s) n) ≤ length {A = ℕ} (replicate 5462 0)
  local_starts = rw (← e) (simp length-replicate (omega (arith, local_few)))
