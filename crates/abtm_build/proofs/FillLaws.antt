-- Laws of the windows of a row, one after another: what they leave out is zero. Assumes nothing.
use mathlib.Core.Bool.{Bool, true, false, not, ◌||◌, false≢true}
use mathlib.Core.List.{List, [], ◌∷◌, zip}
use mathlib.Core.Path.{◌≡◌, refl, sym, ap, ◌∙◌}
use Prim.Native.Nat.{ℕ, ◌+◌, ◌-◌, ◌*◌, ◌/◌, ◌≤◌, ◌<◌}
use native.Mathlib.Nat.{le_refl}
use native.Mathlib.Omega.{arith}
use lib.Dec.{eqb, ltb}
use lib.ListN.{length, get_or, take, replicate, length-replicate}
use lib.Seq.{length-take-le}
use lib.Ieee.{Float, nan}
use borrow.Author.Tests.{ltb-true}
use Rattle.hybit_core.specs.Floats.{zero64}
use Rattle.lent.specs.Lists.{cons_if, each, every, only, some}
use Rattle.lent.proofs.ListLaws.{length-each, get_or-each, every-at, zeros_front}
use Rattle.csr32.specs.Csr.{Entry, of_column, present}
use Rattle.csr32.specs.Window.{Outside}
use Rattle.csr32.proofs.CsrLaws.{present_columns}
use Rattle.csr32.proofs.MergedLaws.{merged_absent}
use Rattle.abtm.specs.declared.AbtmConfig.{AbtmConfig}
use Rattle.abtm_values.specs.Values.{is_zero, merged_nonzero}
use Rattle.abtm.specs.Tiles.{row_tiles_of}
use Rattle.abtm_build.specs.declared.TilesSize.{TilesSize}
use Rattle.abtm_build.specs.Window.{tiles_between, window_value, Sized, Next}
use Rattle.abtm_build.specs.Written.{Wrote}
use Rattle.abtm_build.proofs.WroteLaws.{wrote_as, tiles_row}
use Rattle.abtm_build.proofs.EmitLaws.{Emitting, emitting_skip, emitting_more}

-- ---- columns without an entry

some-only : {A : Type 0} (p q : A → Bool) (l : List A) → some q l ≡ false → some q (only p l) ≡ false
unfolding some only
some-only p q [] h = refl
some-only p q (a ∷ l) h = go (p a) (q a) refl h (some-only p q l)
  where
    go : (s t : Bool) → q a ≡ t → (t || some q l) ≡ false → (some q l ≡ false → some q (only p l) ≡ false) → some q (cons_if s a (only p l)) ≡ false
    go s true e k r = absurd (false≢true (sym k))
    go true false e k r = ap (λ (t : Bool). t || some q (only p l)) e ∙ r k
    go false false e k r = r k

module _ (cs : List ℕ) (vs : List Float) (same : length vs ≡ length cs) where
  nonzero_absent : (c : ℕ) → some (λ d. eqb d c) cs ≡ false → merged_nonzero (zip cs vs) c ≡ zero64
  unfolding merged_nonzero present
  nonzero_absent c h =
      merged_absent (only (λ (e : Entry). not (is_zero e.1)) (zip cs vs)) c
      (some-only (λ (e : Entry). not (is_zero e.1)) (of_column c) (zip cs vs) (present_columns cs vs c (sym same) ∙ h))

  past_columns : (n : ℕ) → every (λ c. ltb c n) cs ≡ true → (c : ℕ) → n ≤ c → merged_nonzero (zip cs vs) c ≡ zero64
  past_columns n inside c h = go (some (λ d. eqb d c) cs) refl
    where
      go : (t : Bool) → some (λ d. eqb d c) cs ≡ t → merged_nonzero (zip cs vs) c ≡ zero64
      go true e = let l : c < n = ltb-true c n (every-at (λ c. ltb c n) cs c inside e) in absurd (omega arith)
      go false e = nonzero_absent c e

  -- the window of a row
  module _ (base width : ℕ) (sums : List Float) (e : sums ≡ each (λ i. merged_nonzero (zip cs vs) (base + i)) width) where
    sum-at : (i : ℕ) → i < width → get_or sums i nan ≡ merged_nonzero (zip cs vs) (base + i)
    sum-at i h = ap (λ (s : List Float). get_or s i nan) e ∙ get_or-each (λ i. merged_nonzero (zip cs vs) (base + i)) width i nan h

    pub window_outside : Outside cs base sums
    window_outside =
        let l : length sums ≡ width = ap length e ∙ length-each (λ i. merged_nonzero (zip cs vs) (base + i)) width in
        record { zeros = λ i h s. sum-at i (omega arith) ∙ nonzero_absent (base + i) s }

    window_value_lem : (c : ℕ) → base ≤ c → c < base + width → window_value base sums c ≡ merged_nonzero (zip cs vs) c
    window_value_lem c l u = let z : base + (c - base) ≡ c = omega arith in sum-at (c - base) (omega arith) ∙ ap (merged_nonzero (zip cs vs)) z

-- ---- a row's tiles up to the word of the next column

-- the columns of that word below the next one are zeros
pub record Passed (v : ℕ → Float) (next : ℕ) : Type 0 where
  pub zeros : (c : ℕ) → 64 * (next / 64) ≤ c → c < next → v c ≡ zero64

pub passed_none : (v : ℕ → Float) → Passed v 0
passed_none v = record { zeros = λ c l u. absurd (omega arith) }

module _ (h : AbtmConfig) (cs : List ℕ) (vs : List Float) (same : length vs ≡ length cs) where
  -- a window of n words from word m on, and the next column after it
  module _ (m n width next : ℕ) (size : width ≡ 64 * n) (found : Next (zip cs vs) (64 * m + width) next) where
    pub passed_more : Passed (merged_nonzero (zip cs vs)) next
    passed_more = record { zeros = λ c l u. found.none c (omega (arith, found.after)) u }

    module _ (sums : List Float) (e : sums ≡ each (λ i. merged_nonzero (zip cs vs) (64 * m + i)) width) (from mid to : TilesSize) (ms₀ ms₁ ms₂ os₀ os₁ os₂ ks₀ ks₁ ks₂ : List ℕ) (vals₀ vals₁ vals₂ : List Float) where
      pub filling_more : Emitting h (merged_nonzero (zip cs vs)) 0 m from mid ms₀ ms₁ os₀ os₁ ks₀ ks₁ vals₀ vals₁
          → length ms₂ ≡ length ms₁ → length os₂ ≡ length os₁ → length ks₂ ≡ length ks₁ → length vals₂ ≡ length vals₁
          → (k : ℕ) → k ≡ n → Wrote (tiles_between h (window_value (64 * m) sums) m (m + k)) mid to ms₁ ms₂ os₁ os₂ ks₁ ks₂ vals₁ vals₂
          → Emitting h (merged_nonzero (zip cs vs)) 0 (next / 64) from to ms₀ ms₂ os₀ os₂ ks₀ ks₂ vals₀ vals₂
      filling_more inv lm lo lk lv k f w =
          let v : ℕ → Float = merged_nonzero (zip cs vs) in
          emitting_skip h v 0 (m + n) from to ms₀ ms₂ os₀ os₂ ks₀ ks₂ vals₀ vals₂
          (emitting_more h v 0 m from mid ms₀ ms₁ os₀ os₁ ks₀ ks₁ vals₀ vals₁ inv (window_value (64 * m) sums) m (m + k) (m + n) to ms₂ os₂ ks₂ vals₂ refl (ap (λ (j : ℕ). m + j) f) (omega arith)
          (λ c l u. window_value_lem cs vs same (64 * m) width sums e c l (omega arith)) lm lo lk lv w)
          (next / 64) (omega (arith, found.after)) (λ c l u. found.none c (omega arith) (omega arith))

  pub filling_done : (cols next : ℕ) → every (λ c. ltb c cols) cs ≡ true → cols ≤ next → Passed (merged_nonzero (zip cs vs)) next → (from at : TilesSize) (ms₀ ms os₀ os ks₀ ks : List ℕ) (vals₀ vals : List Float)
      → Emitting h (merged_nonzero (zip cs vs)) 0 (next / 64) from at ms₀ ms os₀ os ks₀ ks vals₀ vals
      → Wrote (row_tiles_of h cols (λ c. not (is_zero (merged_nonzero (zip cs vs) c))) (merged_nonzero (zip cs vs))) from at ms₀ ms os₀ os ks₀ ks vals₀ vals
  filling_done cols next inside past p from at ms₀ ms os₀ os ks₀ ks vals₀ vals inv =
      let v : ℕ → Float = merged_nonzero (zip cs vs) in
      wrote_as (tiles_between h v 0 (next / 64)) (row_tiles_of h cols (λ c. not (is_zero (v c))) v) from at ms₀ ms os₀ os ks₀ ks vals₀ vals
      (tiles_row h v cols (past_columns cs vs same cols inside) (next / 64) (λ c l u. p.zeros c l (omega arith))) inv.wrote

-- ---- the window at the start: the first places of arrays of zeros

pub start_sized : (a b c : ℕ) → a ≡ 64 * b → b ≡ 64 * c → 0 < c → c ≤ 16 → Sized (length (take a (replicate a zero64))) (length {A = ℕ} (take b (replicate b 0))) (length {A = ℕ} (take c (replicate c 0)))
start_sized a b c e f g h =
    let i : length (take a (replicate a zero64)) ≡ a = length-take-le a (replicate a zero64) (omega (arith, length-replicate a zero64)) in
    let j : length {A = ℕ} (take b (replicate b 0)) ≡ b = length-take-le {A = ℕ} b (replicate b 0) (omega (arith, length-replicate {A = ℕ} b 0)) in
    let k : length {A = ℕ} (take c (replicate c 0)) ≡ c = length-take-le {A = ℕ} c (replicate c 0) (omega (arith, length-replicate {A = ℕ} c 0)) in
    record { words_are = omega (arith, i, j, e); blocks_are = omega (arith, j, k, f); some_block = omega (arith, k, g); few_blocks = omega (arith, k, h) }

pub start_zeros : (a : ℕ) → take a (replicate a zero64) ≡ replicate (length (take a (replicate a zero64))) zero64
start_zeros a =
    let i : length (take a (replicate a zero64)) ≡ a = length-take-le a (replicate a zero64) (omega (arith, length-replicate a zero64)) in
    zeros_front zero64 a a (le_refl a) ∙ ap (λ (n : ℕ). replicate n zero64) (sym i)
