-- Laws of the public build: its figures, which lists are too short, and what each of its ends answers and leaves. Assumes nothing.
use Rattle.std.specs.Prelude.{Result, Ok, Err}
use mathlib.Core.Bool.{Bool, true, false, ◌&&◌}
use mathlib.Core.List.{List, [], ◌++◌}
use mathlib.Core.Path.{◌≡◌, refl, sym, ap, ap₂, ◌∙◌, subst}
use Prim.Native.Nat.{ℕ, ◌+◌, ◌-◌, ◌*◌, ◌/◌, ◌≤◌, ◌<◌}
use native.Mathlib.Nat.{div-lt_iff_lt-mul, div-mul-le_self, mul-le-mul_right}
use native.Mathlib.Omega.{arith}
use lib.Dec.{leb}
use lib.ListN.{length, take, drop, replicate}
use lib.Seq.{take_at, length-take-le}
use lib.Ieee.{Float}
use borrow.Author.Tests.{le-leb, lt-leb, leb-true}
use Rattle.hybit_core.specs.Answer.{Answer, accepted, refused, plain, demand, ◌and_then◌, Given, gives, refuses, answers}
use Rattle.hybit_core.specs.Floats.{zero64}
use Rattle.hybit_core.specs.Table.{paper, given}
use Rattle.hybit_core.specs.declared.HybitError.{HybitError}
use Rattle.hybit_core.proofs.BoolLaws.{and_left, and_right}
use Rattle.hybit_core.proofs.AnswerLaws.{demand_accepted, then_first, then_second}
use Rattle.lent.specs.Lent.{padded, built}
use Rattle.lent.proofs.LentLaws.{front_zeros, written_front}
use Rattle.csr32.specs.Csr.{Csr, csr_answer}
use Rattle.csr32.specs.Made.{as_csr_room}
use Rattle.dense_block.specs.Blocks.{width_of, blocks_for, blocks_of, structural_slots, valid_slots}
use Rattle.dense_block.specs.Calls.{figures_of, columns_answer, fits_blocks, build_blocks_answer}
use Rattle.dense_block.specs.declared.DenseBlockSize.{DenseBlockSize}
use Rattle.dense_block.specs.declared.DenseBlocks.{DenseBlocks}
use Rattle.dense_block_build.specs.Making.{Padded}
use Rattle.dense_block_build.proofs.SizeLaws.{square_is, square_pos}
use Rattle.dense_block_build.proofs.FillLaws.{pointers_long, vals-count}

-- ---- a result in a lent list, and its used part

pub used_part : {A : Type 0} (z : A) (l out : List A) (k : ℕ) → Padded z l out → k ≡ length l → take k out ≡ l
unfolding padded
used_part {A} z l out k p e = ap (take k) p.is ∙ take_at l (replicate (length out - length l) z) k (sym e)

pub used_length : {A : Type 0} (z : A) (l out : List A) (k : ℕ) → Padded z l out → k ≡ length l → k ≡ length (take k out)
used_length z l out k p e = sym (length-take-le k out (omega (arith, p.room)))

pub padded-at : {A : Type 0} (z : A) (a n : ℕ) (l out : List A) → a ≡ n → out ≡ padded z a l → out ≡ padded z n l
padded-at z a n l out e p = p ∙ ap (λ (k : ℕ). padded z k l) e

-- ---- the figures and the values of blocks whose pointers and block columns are written

module _ (m : Csr) (s : DenseBlockSize) (ok : csr_answer m ≡ accepted) where
  pub pointers_count : (x : ℕ) → x ≡ blocks_for (width_of s) m.rows → x + 1 ≡ length (blocks_of m (width_of s)).ptr
  pointers_count x e = ap (λ (k : ℕ). k + 1) e ∙ sym (pointers_long m s (blocks_of m (width_of s)).ptr (blocks_of m (width_of s)).col refl refl)

  -- blocks of them, of width v
  module _ (blocks v : ℕ) (eb : blocks ≡ length (blocks_of m (width_of s)).col) (ev : v ≡ width_of s) where
    slots_are : blocks * (v * v) ≡ length (blocks_of m (width_of s)).vals
    slots_are = ap₂ (λ (x y : ℕ). x * y) eb (square_is s v ev) ∙ sym (vals-count m s)

    pub slots_room : (n : ℕ) → blocks * (width_of s * width_of s) ≤ n → blocks * (v * v) ≤ n
    slots_room n h = subst (λ (x : ℕ). blocks * x ≤ n) (sym (square_is s v ev)) h

    -- zeros in the values before
    module _ (n : ℕ) (h : blocks * (width_of s * width_of s) ≤ n) (zeros : List Float) (ez : zeros ≡ padded zero64 n []) where
      pub slots_zeros : (col : List ℕ) → col ≡ (blocks_of m (width_of s)).col → take (blocks * (v * v)) zeros ≡ replicate (length col * (width_of s * width_of s)) zero64
      slots_zeros col ec =
          front_zeros zero64 (blocks * (v * v)) n zeros ez (slots_room n h) ∙ ap (λ (x : ℕ). replicate x zero64) (slots_are ∙ vals-count m s ∙ ap (λ (l : List ℕ). length l * (width_of s * width_of s)) (sym ec))

      pub values_written : (new : List Float) → new ≡ (blocks_of m (width_of s)).vals → new ++ drop (blocks * (v * v)) zeros ≡ padded zero64 n (blocks_of m (width_of s)).vals
      values_written new e = written_front zero64 (blocks * (v * v)) n zeros new ez (ap length e ∙ sym slots_are) ∙ ap (padded zero64 n) e

    pub figures_are : (bands st va : ℕ) → bands ≡ blocks_for (width_of s) m.rows → st ≡ structural_slots m → va ≡ valid_slots m (width_of s)
        → ◌≡◌ {A = DenseBlocks} (record { nrows = m.rows; ncols = m.cols; block_rows = bands; unique_blocks = blocks; dense_value_slots = blocks * (v * v); structural_slots = st; valid_dense_slots = va }) (figures_of m (width_of s))
    unfolding figures_of
    figures_are bands st va x y z = λ i. record { nrows = m.rows; ncols = m.cols; block_rows = x i; unique_blocks = eb i; dense_value_slots = slots_are i; structural_slots = y i; valid_dense_slots = z i }

-- ---- what the call answers, and what its lists of np, nc and nv places hold

abbrev Outcome : Answer → Given DenseBlocks → Csr → ℕ → ℕ → ℕ → ℕ → List ℕ → List ℕ → List Float → Type 0
Outcome a g m w np nc nv op oc ov = (g ≡ answers a (figures_of m w)) × ((op ≡ built 0 np a (blocks_of m w).ptr) × ((oc ≡ built 0 nc a (blocks_of m w).col) × (ov ≡ built zero64 nv a (blocks_of m w).vals)))

-- ---- after the build of the block columns, which answered r

module _ (m : Csr) (s : DenseBlockSize) (np nc nv : ℕ) (r : Result ℕ HybitError) (e : given r ≡ answers (columns_answer m (width_of s) np nc) (length (blocks_of m (width_of s)).col)) where
  abbrev whole : Answer
  whole = build_blocks_answer m (width_of s) (as_csr_room np nc nv)

  abbrev first : Answer
  first = columns_answer m (width_of s) np nc

  refusal : (t : HybitError) → first ≡ refused (paper t) → whole ≡ refused (paper t)
  unfolding columns_answer build_blocks_answer fits_blocks
  refusal t x = go (csr_answer m) (leb (length (blocks_of m (width_of s)).ptr) np) (leb (length (blocks_of m (width_of s)).col) nc) x
    where
      go : (a : Answer) (p q : Bool) → (a and_then demand (p && q) 13) ≡ refused (paper t) → (a and_then demand (p && q && leb (length (blocks_of m (width_of s)).vals) nv) 13) ≡ refused (paper t)
      go accepted true true x = let z : ◌≡◌ {A = ℕ} 0 1 = cc in absurd (omega arith)
      go accepted true false x = x
      go accepted false q x = x
      go (refused u) p q x = x

  -- they are refused
  pub columns_refused : (t : HybitError) (op oc : List ℕ) (ov : List Float) → r ≡ Err t → op ≡ built 0 np (columns_answer m (width_of s) np nc) (blocks_of m (width_of s)).ptr → oc ≡ built 0 nc (columns_answer m (width_of s) np nc) (blocks_of m (width_of s)).col → ov ≡ padded zero64 nv []
      → Outcome (build_blocks_answer m (width_of s) (as_csr_room np nc nv)) (refuses (paper t)) m (width_of s) np nc nv op oc ov
  columns_refused t op oc ov k x y z = rw (refusal t no) (refl, (x ∙ ap (λ (a : Answer). built 0 np a (blocks_of m (width_of s)).ptr) no, (y ∙ ap (λ (a : Answer). built 0 nc a (blocks_of m (width_of s)).col) no, z)))
    where
      no : first ≡ refused (paper t)
      no = go first (sym (ap given k) ∙ e)
        where
          go : (a : Answer) → refuses (paper t) ≡ answers a (length (blocks_of m (width_of s)).col) → a ≡ refused (paper t)
          go accepted q = let z : ◌≡◌ {A = ℕ} 0 1 = cc in absurd (omega arith)
          go (refused u) q = cc

  module _ (blocks : ℕ) (k : r ≡ Ok blocks) where
    made : (first ≡ accepted) × (blocks ≡ length (blocks_of m (width_of s)).col)
    made = go first refl (sym (ap given k) ∙ e)
      where
        go : (a : Answer) → first ≡ a → gives blocks ≡ answers a (length (blocks_of m (width_of s)).col) → (first ≡ accepted) × (blocks ≡ length (blocks_of m (width_of s)).col)
        go accepted q z = (q, cc)
        go (refused u) q z = let y : ◌≡◌ {A = ℕ} 0 1 = cc in absurd (omega arith)

    pub checked : csr_answer m ≡ accepted
    unfolding columns_answer
    checked = then_first (csr_answer m) (demand (leb (length (blocks_of m (width_of s)).ptr) np && leb (length (blocks_of m (width_of s)).col) nc) 13) made.0

    fitting : (leb (length (blocks_of m (width_of s)).ptr) np && leb (length (blocks_of m (width_of s)).col) nc) ≡ true
    unfolding columns_answer
    fitting = demand_accepted (leb (length (blocks_of m (width_of s)).ptr) np && leb (length (blocks_of m (width_of s)).col) nc) 13 (then_second (csr_answer m) (demand (leb (length (blocks_of m (width_of s)).ptr) np && leb (length (blocks_of m (width_of s)).col) nc) 13) made.0)

    decided : (b : Bool) → leb (length (blocks_of m (width_of s)).vals) nv ≡ b → whole ≡ demand b 13
    unfolding build_blocks_answer fits_blocks
    decided b x =
        ap (λ (a : Answer). a and_then demand (fits_blocks (blocks_of m (width_of s)) (as_csr_room np nc nv)) 13) checked
        ∙ ap (λ (t : Bool). demand t 13) (three (leb (length (blocks_of m (width_of s)).ptr) np) (leb (length (blocks_of m (width_of s)).col) nc) (leb (length (blocks_of m (width_of s)).vals) nv) fitting ∙ x)
      where
        three : (p q t : Bool) → (p && q) ≡ true → (p && q && t) ≡ t
        three true true t h = refl
        three true false t h = cc
        three false q t h = cc

    -- v is the width
    module _ (v : ℕ) (ev : v ≡ width_of s) where
      total : blocks * (v * v) ≡ length (blocks_of m (width_of s)).vals
      total = slots_are m s checked blocks v made.1 ev

      pub values_short : (op oc : List ℕ) (ov : List Float) → nv / (v * v) < blocks → op ≡ padded 0 np [] → oc ≡ padded 0 nc [] → ov ≡ padded zero64 nv []
          → Outcome (build_blocks_answer m (width_of s) (as_csr_room np nc nv)) (refuses (plain 13)) m (width_of s) np nc nv op oc ov
      values_short op oc ov h x y z =
          let l : nv < blocks * (v * v) = (div-lt_iff_lt-mul {k = v * v} {x = nv} {y = blocks} (square_pos s v ev)).0 h in
          let f : whole ≡ refused (plain 13) = decided false (lt-leb (length (blocks_of m (width_of s)).vals) nv (omega (arith, total))) in
          rw f (refl, (x, (y, z)))

      module _ (h : blocks ≤ nv / (v * v)) where
        room : blocks * (v * v) ≤ nv
        room = omega (arith, mul-le-mul_right (v * v) h, div-mul-le_self nv (v * v))

        -- what `fill` requires
        pub fill_asks : (op oc : List ℕ) → length op ≡ np → length oc ≡ nc → op ≡ built 0 np (columns_answer m (width_of s) np nc) (blocks_of m (width_of s)).ptr → oc ≡ built 0 nc (columns_answer m (width_of s) np nc) (blocks_of m (width_of s)).col
            → (blocks ≡ length (blocks_of m (width_of s)).col) × (Padded 0 (blocks_of m (width_of s)).ptr op × (Padded 0 (blocks_of m (width_of s)).col oc × (blocks * (width_of s * width_of s) ≤ nv)))
        fill_asks op oc lp lc x y =
            let p : leb (length (blocks_of m (width_of s)).ptr) np ≡ true = and_left (leb (length (blocks_of m (width_of s)).ptr) np) (leb (length (blocks_of m (width_of s)).col) nc) fitting in
            let q : leb (length (blocks_of m (width_of s)).col) nc ≡ true = and_right (leb (length (blocks_of m (width_of s)).ptr) np) (leb (length (blocks_of m (width_of s)).col) nc) fitting in (
              made.1,
              (
                record { room = omega (arith, leb-true (length (blocks_of m (width_of s)).ptr) np p); is = x ∙ ap₂ (λ (a : Answer) (n : ℕ). built 0 n a (blocks_of m (width_of s)).ptr) made.0 (sym lp) },
                (record { room = omega (arith, leb-true (length (blocks_of m (width_of s)).col) nc q); is = y ∙ ap₂ (λ (a : Answer) (n : ℕ). built 0 n a (blocks_of m (width_of s)).col) made.0 (sym lc) }, subst (λ (w : ℕ). blocks * w ≤ nv) (square_is s v ev) room),
              ),
            )

        pub blocks_built : (figures : DenseBlocks) (op oc : List ℕ) (ov : List Float) → figures ≡ figures_of m (width_of s) → op ≡ built 0 np (columns_answer m (width_of s) np nc) (blocks_of m (width_of s)).ptr → oc ≡ built 0 nc (columns_answer m (width_of s) np nc) (blocks_of m (width_of s)).col → ov ≡ padded zero64 nv (blocks_of m (width_of s)).vals
            → Outcome (build_blocks_answer m (width_of s) (as_csr_room np nc nv)) (gives figures) m (width_of s) np nc nv op oc ov
        blocks_built figures op oc ov f x y z =
            let t : whole ≡ accepted = decided true (le-leb (length (blocks_of m (width_of s)).vals) nv (omega (arith, total, room))) in
            rw t (ap gives f, (x ∙ ap (λ (a : Answer). built 0 np a (blocks_of m (width_of s)).ptr) made.0, (y ∙ ap (λ (a : Answer). built 0 nc a (blocks_of m (width_of s)).col) made.0, z)))
