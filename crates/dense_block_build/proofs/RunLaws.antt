-- A run of entries in one block: where it ends. Assumes nothing.
use mathlib.Core.Bool.{true}
use mathlib.Core.List.{List, [], ◌∷◌}
use mathlib.Core.Path.{◌≡◌, refl, sym, ap, ◌∙◌}
use Prim.Native.Nat.{ℕ, suc, ◌+◌, ◌-◌, ◌/◌, ◌≤◌, ◌<◌}
use native.Mathlib.Omega.{arith}
use lib.Dec.{eqb}
use lib.ListN.{length, get_or, take, drop, length-drop}
use lib.Seq.{take-suc, get_or-drop}
use borrow.Author.Tests.{eq-eqb}
use Rattle.lent.specs.Lists.{every}
use Rattle.lent.proofs.ListLaws.{every_append}
use Rattle.hybit_core.proofs.BoolLaws.{and_both}

-- ---- the entries from place `from` to `end` are in block column key

pub record Running (w key : ℕ) (cs : List ℕ) (from end : ℕ) : Type 0 where
  pub some : from < end
  pub inside : end ≤ length cs
  pub is : every (λ c. eqb (c / w) key) (take (end - from) (drop from cs)) ≡ true

module _ (w key : ℕ) (cs : List ℕ) (from : ℕ) where
  run_next : (end : ℕ) → from ≤ end → end < length cs → get_or cs end 0 / w ≡ key → every (λ c. eqb (c / w) key) (take (end - from) (drop from cs)) ≡ true → every (λ c. eqb (c / w) key) (take (end + 1 - from) (drop from cs)) ≡ true
  unfolding every
  run_next end o h e was =
      let n : end + 1 - from ≡ suc (end - from) = omega arith in
      let q : from + (end - from) ≡ end = omega arith in
      ap (λ (m : ℕ). every (λ c. eqb (c / w) key) (take m (drop from cs))) n
      ∙ ap (every (λ c. eqb (c / w) key)) (take-suc (drop from cs) (end - from) 0 (omega (arith, length-drop from cs)))
      ∙ every_append (λ c. eqb (c / w) key) (take (end - from) (drop from cs)) (get_or (drop from cs) (end - from) 0 ∷ []) was
      (and_both (eqb (get_or (drop from cs) (end - from) 0 / w) key) true
      (eq-eqb (get_or (drop from cs) (end - from) 0 / w) key (ap (λ (m : ℕ). m / w) (get_or-drop from cs (end - from) 0 ∙ ap (λ (m : ℕ). get_or cs m 0) q) ∙ e)) refl)

  pub run_none : from < length cs → get_or cs from 0 / w ≡ key → Running w key cs from (from + 1)
  unfolding every
  run_none h e =
      let z : from - from ≡ 0 = omega arith in
      record { some = omega arith; inside = omega arith; is = run_next from (omega arith) h e (ap (λ (m : ℕ). every (λ c. eqb (c / w) key) (take m (drop from cs))) z) }

  pub run_more : (end r : ℕ) → Running w key cs from end → end < length cs → r ≡ get_or cs end 0 / w → r ≡ key → Running w key cs from (end + 1)
  run_more end r inv h e k = record { some = omega (arith, inv.some); inside = omega arith; is = run_next end (omega (arith, inv.some)) h (sym e ∙ k) inv.is }
