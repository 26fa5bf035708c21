-- Kinds, places and thresholds, as the code tests them. Assumes nothing.
use Rattle.std.specs.Prelude.{Option, None, Some, Result}
use Rattle.std.specs.Option.{option_eq, ok_or}
use mathlib.Core.Path.{◌≡◌, refl, sym, ap, ◌∙◌}
use mathlib.Core.Bool.{Bool, true, false, cond, ◌&&◌}
use Prim.Native.Nat.{ℕ, zero, suc, ◌≤◌, ◌<◌}
use native.Mathlib.Omega.{arith}
use lib.Dec.{leb, ltb, eqb}
use lib.ListN.{length}
use Rattle.hybit_core.specs.Answer.{refused, accepted, plain, demand, answers}
use Rattle.hybit_core.specs.declared.HybitError.{HybitError}
use Rattle.hybit_core.proofs.BoolLaws.{and_first, and-next, is_equal, is_unequal, is_below, is_not_below, is_within, is_above}
use Rattle.hybit_core.proofs.AnswerLaws.{last_fails, last_passes}
use Rattle.word.specs.Bits.{has, below, count, members}
use Rattle.word.proofs.BelowLaws.{all-places}
use Rattle.word.proofs.OpLaws.{members-count}
use Rattle.abtm.specs.declared.AbtmConfig.{AbtmConfig}
use Rattle.abtm.specs.Tiles.{kind_in, places_of, places, threshold_rules, kind_of}
use Rattle.abtm.specs.declared.TileKind.{TileKind}
use Rattle.abtm.specs.declared.TileKind.TheVariants as kind
use Rattle.abtm.specs.contracts.TileKindPartialEq.TheImpl.{eq-value}
use Rattle.abtm.specs.Calls.{threshold_answer, kind_number, kind_numbered, told_kind, kind_answer}

-- ---- kinds and their numbers

pub kind_above : (n : ℕ) → 2 < n → None ≡ kind_numbered n
kind_above zero l = absurd (omega arith)
kind_above (suc zero) l = absurd (omega arith)
kind_above (suc (suc zero)) l = absurd (omega arith)
kind_above (suc (suc (suc n))) l = refl

-- what `==` of kinds tests
kind_eq : (a b : TileKind) → eq-value.it a b ≡ eqb (kind_number a) (kind_number b)
kind_eq kind.Sparse kind.Sparse = refl
kind_eq kind.Sparse kind.Bitmap = refl
kind_eq kind.Sparse kind.Dense = refl
kind_eq kind.Bitmap kind.Sparse = refl
kind_eq kind.Bitmap kind.Bitmap = refl
kind_eq kind.Bitmap kind.Dense = refl
kind_eq kind.Dense kind.Sparse = refl
kind_eq kind.Dense kind.Bitmap = refl
kind_eq kind.Dense kind.Dense = refl

numbered_eq : (n : ℕ) (k : TileKind) → option_eq eq-value.it (kind_numbered n) (Some k) ≡ eqb n (kind_number k)
numbered_eq zero k = kind_eq kind.Sparse k
numbered_eq (suc zero) k = kind_eq kind.Bitmap k
numbered_eq (suc (suc zero)) k = kind_eq kind.Dense k
numbered_eq (suc (suc (suc n))) kind.Sparse = is_unequal (suc (suc (suc n))) 0 (λ e. omega arith)
numbered_eq (suc (suc (suc n))) kind.Bitmap = is_unequal (suc (suc (suc n))) 1 (λ e. omega arith)
numbered_eq (suc (suc (suc n))) kind.Dense = is_unequal (suc (suc (suc n))) 2 (λ e. omega arith)

pub kind_tested : (meta : ℕ) (k : TileKind) (o : Option TileKind) (r : Bool) → o ≡ kind_numbered (kind_in meta) → r ≡ option_eq eq-value.it o (Some k) → r ≡ eqb (kind_in meta) (kind_number k)
kind_tested meta k o r e f = f ∙ ap (λ o. option_eq eq-value.it o (Some k)) e ∙ numbered_eq (kind_in meta) k

-- the places of a Dense tile and of any other
pub dense_places : (kind mask : ℕ) → kind ≡ 2 → places_of kind mask ≡ below (λ i. true) 64
unfolding places_of
dense_places kind mask e = ap (λ (b : Bool). cond b (below (λ i. true) 64) (members mask)) (sym (is_equal kind 2 e))

pub compact_places : (kind mask : ℕ) → (kind ≡ 2 → ⊥) → places_of kind mask ≡ members mask
unfolding places_of
compact_places kind mask e = ap (λ (b : Bool). cond b (below (λ i. true) 64) (members mask)) (sym (is_unequal kind 2 e))

pub dense_count : (k mask meta : ℕ) → k ≡ kind_in meta → k ≡ 2 → 64 ≡ length (places mask meta)
dense_count k mask meta e d = sym (ap length (dense_places (kind_in meta) mask (sym e ∙ d)) ∙ all-places)

pub compact_count : (k mask meta n : ℕ) → k ≡ kind_in meta → (k ≡ 2 → ⊥) → n ≡ count (has mask) 64 → n ≡ length (places mask meta)
compact_count k mask meta n e d c = c ∙ sym (ap length (compact_places (kind_in meta) mask (λ f. d (e ∙ f))) ∙ members-count mask)

-- the kind of a tile by value
kind_or_12 : (n : ℕ) → told_kind (ok_or (kind_numbered n) HybitError.BadStore) ≡ answers (demand (leb n 2) 12) n
kind_or_12 zero = refl
kind_or_12 (suc zero) = refl
kind_or_12 (suc (suc zero)) = refl
kind_or_12 (suc (suc (suc n))) = ap (λ a. answers a (suc (suc (suc n)))) (last_fails (leb (suc (suc (suc n))) 2) 12 (is_above (suc (suc (suc n))) 2 (omega arith)))

pub kind_told : (meta : ℕ) (o : Option TileKind) (r : Result TileKind HybitError) → o ≡ kind_numbered (kind_in meta) → r ≡ ok_or o HybitError.BadStore → told_kind r ≡ kind_answer meta
unfolding kind_answer
kind_told meta o r e f = ap told_kind (f ∙ ap (λ o. ok_or o HybitError.BadStore) e) ∙ kind_or_12 (kind_in meta)

-- the kind that a count has
module _ (h : AbtmConfig) (n : ℕ) where
  pub sparse_kind : n ≤ h.sparse_max_nnz → 0 ≡ kind_of h n
  unfolding kind_of
  sparse_kind l = ap (λ (b : Bool). cond b 0 (cond (leb h.dense_min_nnz n) 2 1)) (is_within n h.sparse_max_nnz l)

  pub dense_kind : h.sparse_max_nnz < n → h.dense_min_nnz ≤ n → 2 ≡ kind_of h n
  unfolding kind_of
  dense_kind l m =
      ap (λ (b : Bool). cond b 2 1) (is_within h.dense_min_nnz n m)
      ∙ ap (λ (b : Bool). cond b 0 (cond (leb h.dense_min_nnz n) 2 1)) (is_above n h.sparse_max_nnz l)

  pub bitmap_kind : h.sparse_max_nnz < n → n < h.dense_min_nnz → 1 ≡ kind_of h n
  unfolding kind_of
  bitmap_kind l m =
      ap (λ (b : Bool). cond b 2 1) (is_above h.dense_min_nnz n m)
      ∙ ap (λ (b : Bool). cond b 0 (cond (leb h.dense_min_nnz n) 2 1)) (is_above n h.sparse_max_nnz l)

-- the thresholds
module _ (h : AbtmConfig) where
  pub sparse_low : h.sparse_max_nnz < 1 → refused (plain 9) ≡ threshold_answer h
  unfolding threshold_answer threshold_rules
  sparse_low l = last_fails (threshold_rules h) 9 (and_first (leb 1 h.sparse_max_nnz && leb h.dense_min_nnz 64) (ltb h.sparse_max_nnz h.dense_min_nnz) (and_first (leb 1 h.sparse_max_nnz) (leb h.dense_min_nnz 64) (is_above 1 h.sparse_max_nnz l)))

  pub dense_high : 1 ≤ h.sparse_max_nnz → 64 < h.dense_min_nnz → refused (plain 9) ≡ threshold_answer h
  unfolding threshold_answer threshold_rules
  dense_high k l = last_fails (threshold_rules h) 9 (and_first (leb 1 h.sparse_max_nnz && leb h.dense_min_nnz 64) (ltb h.sparse_max_nnz h.dense_min_nnz) (and-next (leb 1 h.sparse_max_nnz) (leb h.dense_min_nnz 64) false (is_within 1 h.sparse_max_nnz k) (is_above h.dense_min_nnz 64 l)))

  both_in : 1 ≤ h.sparse_max_nnz → h.dense_min_nnz ≤ 64 → true ≡ (leb 1 h.sparse_max_nnz && leb h.dense_min_nnz 64)
  both_in k l = and-next (leb 1 h.sparse_max_nnz) (leb h.dense_min_nnz 64) true (is_within 1 h.sparse_max_nnz k) (is_within h.dense_min_nnz 64 l)

  pub not_below_dense : 1 ≤ h.sparse_max_nnz → h.dense_min_nnz ≤ 64 → h.dense_min_nnz ≤ h.sparse_max_nnz → refused (plain 9) ≡ threshold_answer h
  unfolding threshold_answer threshold_rules
  not_below_dense k l m = last_fails (threshold_rules h) 9 (and-next (leb 1 h.sparse_max_nnz && leb h.dense_min_nnz 64) (ltb h.sparse_max_nnz h.dense_min_nnz) false (both_in k l) (is_not_below h.sparse_max_nnz h.dense_min_nnz m))

  pub thresholds_good : 1 ≤ h.sparse_max_nnz → h.dense_min_nnz ≤ 64 → h.sparse_max_nnz < h.dense_min_nnz → accepted ≡ threshold_answer h
  unfolding threshold_answer threshold_rules
  thresholds_good k l m = last_passes (threshold_rules h) 9 (and-next (leb 1 h.sparse_max_nnz && leb h.dense_min_nnz 64) (ltb h.sparse_max_nnz h.dense_min_nnz) true (both_in k l) (is_below h.sparse_max_nnz h.dense_min_nnz m))
