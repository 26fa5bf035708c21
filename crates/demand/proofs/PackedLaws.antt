-- What an accepted packing says of a plot list: its checks find nothing, its rows lie in the frame, it has at most 2^24 entries, and
-- its merged values are finite. Assumes nothing.
use mathlib.Core.Bool.{true, ◌&&◌}
use mathlib.Core.Path.{◌≡◌, sym, ap, ◌∙◌, subst}
use Prim.Native.Nat.{ℕ, ◌^◌, ◌≤◌, ◌<◌}
use native.Mathlib.Omega.{arith}
use lib.Dec.{ltb}
use lib.ListN.{length}
use Rattle.hybit_core.specs.Answer.{accepted, demand}
use Rattle.hybit_core.specs.Floats.{finite}
use Rattle.hybit_core.proofs.AnswerLaws.{demand_accepted, then_first, then_second}
use Rattle.lent.specs.Lists.{joined, part, every}
use Rattle.lent.proofs.ListLaws.{joined-le, every_map, every-zip}
use Rattle.lent.proofs.PartLaws.{length-zip}
use Rattle.word.specs.Bits.{below}
use Rattle.word.proofs.BitLaws.{every-below-at}
use Rattle.csr32.specs.Csr.{Csr, Entry, csr_sizes, csr_rules, csr_answer, entries, present, merged}
use Rattle.csr32.proofs.CsrLaws.{Valid, valid, row_columns, row_values_lem, row_sides}
use Rattle.csr32.proofs.FrameLaws.{Framed, parts_all}
use Rattle.metadata_first_merge.specs.Merge.{row_values, merged_finite, merge_answer}
use Rattle.metadata_first_merge.proofs.MergeLaws.{merged_row, Packable}
use Rattle.metadata_first_build.specs.Pack.{StoreRoom, store_of, fits_store, pack_answer}

pub packable : (m : Csr) (room : StoreRoom) → pack_answer m room ≡ accepted → Packable m
unfolding pack_answer merge_answer
packable m room e =
    let merging : merge_answer m ≡ accepted = then_first (merge_answer m) (demand (fits_store (store_of m) room) 13) e in
    record {
      list = then_first (csr_answer m) (demand (merged_finite m) 4) merging;
      finites = demand_accepted (merged_finite m) 4 (then_second (csr_answer m) (demand (merged_finite m) 4) merging);
    }

module _ (m : Csr) (k : Packable m) where
  pub sizes_in : csr_sizes m ≡ true
  unfolding csr_answer
  sizes_in = demand_accepted (csr_sizes m) 1 (then_first (demand (csr_sizes m) 1) (csr_rules m) k.list)

  pub rules_in : csr_rules m ≡ accepted
  unfolding csr_answer
  rules_in = then_second (demand (csr_sizes m) 1) (csr_rules m) k.list

  pub is_valid : Valid m
  is_valid = valid m k.list

  pub entries-good : (r : ℕ) → every (λ (e : Entry). ltb e.0 m.cols && finite e.1) (entries m r) ≡ true
  unfolding entries
  entries-good r = every-zip (λ c. ltb c m.cols) finite (part m.ptr m.col r) (part m.ptr m.val r) (row_columns is_valid r) (row_values_lem is_valid r)

  row_length : (r : ℕ) → length (entries m r) ≡ length (part m.ptr m.col r)
  unfolding entries
  row_length r = length-zip (part m.ptr m.col r) (part m.ptr m.val r) (sym (row_sides is_valid r))

  pub entries-few : length (joined (entries m) m.rows) ≤ 2 ^ 24
  entries-few =
      let f : Framed m.rows m.ptr (length m.col) = subst (λ (n : ℕ). Framed m.rows m.ptr n) (sym is_valid.sides) is_valid.frame in
      omega (arith, joined-le (entries m) (part m.ptr m.col) m.rows (λ r l. omega (arith, row_length r)), ap length (parts_all m.rows m.ptr m.col f), is_valid.entries_in)

  pub merged-at : (r c : ℕ) → r < m.rows → c < m.cols → present (entries m r) c ≡ true → finite (merged (entries m r) c) ≡ true
  unfolding row_values
  merged-at r c h l e =
      every-below-at (λ c. finite (merged (entries m r) c)) (present (entries m r)) m.cols c
      (sym (every_map finite (merged (entries m r)) (below (present (entries m r)) m.cols)) ∙ merged_row m r k.finites h) l e
