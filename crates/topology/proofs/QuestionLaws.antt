-- Ranks, selects and counts of a row, for callers: rank and select are inverse, and a row's count is its rank at the column count.
-- Assumes nothing but masks of 64 bits.
use Rattle.std.proofs.Common.{◌≡◌, ℕ, ◌<◌, ◌≤◌, true, sym, ap, ◌∙◌, arith}
use Rattle.std.specs.Prelude.{None, Some}
use Rattle.std.proofs.lemmas.Option.{none-some, same_Some}
use native.Mathlib.Decide.{dec_lt}
use Rattle.lent.specs.Lists.{part}
use Rattle.word.specs.Bits.{count}
use Rattle.word.proofs.BelowLaws.{Selects, selected_finds, selected_nothing, selected_of_rank}
use Rattle.topology.specs.Words.{Words, member, set_bits}
use Rattle.topology.specs.Calls.{rank, select}
use Rattle.topology.proofs.RowLaws.{small}
use Rattle.topology.proofs.TopologyLaws.{Accepted, row_of, row_bits}

module _ (t : Words) (r : ℕ) where
  -- select undoes rank
  pub select_of_rank : (c : ℕ) → c < t.cols → member t r c ≡ true → select t r (rank t r c) ≡ Some c
  select_of_rank c l e = selected_of_rank (member t r) t.cols c l e

  -- rank undoes select: what select k gives is a present column with k present ones below it
  pub rank_of_select : (k c : ℕ) → select t r k ≡ Some c → Selects (member t r) t.cols k c
  rank_of_select k c e = go (dec_lt k (count (member t r) t.cols))
    where
      go : Dec (k < count (member t r) t.cols) → Selects (member t r) t.cols k c
      go (yes h) =
          let f = selected_finds (member t r) t.cols k h in
          let q : f.0 ≡ c = same_Some f.0 c (sym f.1 ∙ e) in
          rw (← q) f.2
      go (no h) = absurd (none-some c (sym (selected_nothing (member t r) t.cols k (omega arith)) ∙ e))

  -- Nothing exactly if there is no such column
  pub select_nothing : (k : ℕ) → rank t r t.cols ≤ k → select t r k ≡ None
  select_nothing k h = selected_nothing (member t r) t.cols k h

  pub nothing_select : (k : ℕ) → select t r k ≡ None → rank t r t.cols ≤ k
  nothing_select k e = go (dec_lt k (count (member t r) t.cols))
    where
      go : Dec (k < count (member t r) t.cols) → rank t r t.cols ≤ k
      go (yes h) = let f = selected_finds (member t r) t.cols k h in absurd (none-some f.0 (sym e ∙ f.1))
      go (no h) = omega arith

  -- the rank at the column count is the number of ones of the row's masks
  pub rank-all : Accepted t → small t.mask ≡ true → r < t.rows → rank t r t.cols ≡ set_bits (part t.ptr t.mask r)
  rank-all k s l = sym (ap set_bits (row_of t k s r l).masks ∙ row_bits (member t r) t.cols)
