-- What holds of the tiles of an accepted plot list: `check` accepts them, and each row lists exactly the columns whose merged value
-- of nonzero entries is not zero, with that value. Assumes nothing.
use mathlib.Core.Bool.{true, not}
use mathlib.Core.List.{map}
use mathlib.Core.Path.{◌≡◌}
use Prim.Native.Nat.{ℕ, ◌<◌}
use lib.Ieee.{Float}
use Rattle.hybit_core.specs.Answer.{accepted}
use Rattle.hybit_core.specs.Floats.{finite}
use Rattle.lent.specs.Lists.{part, every}
use Rattle.lent.proofs.ListLaws.{every_right}
use Rattle.word.specs.Bits.{below, within}
use Rattle.csr32.specs.Csr.{Csr, Entry, csr_answer, entries}
use Rattle.csr32.proofs.CsrLaws.{Valid, valid, row_values_lem}
use Rattle.abtm.specs.declared.AbtmConfig.{AbtmConfig}
use Rattle.abtm_values.specs.Values.{is_zero, merged_nonzero}
use Rattle.abtm.specs.Tiles.{tiles_answer, in_tiles, tile_entries}
use Rattle.abtm_check.proofs.RecordLaws.{tiles_accepted, entries_of_tiles, in_tiles_lem}
use Rattle.abtm_build.specs.Build.{tiles_from}
use Rattle.abtm_build.proofs.FewLaws.{tiles_few}
use Rattle.abtm_build.proofs.NumberLaws.{merged-solid}

module _ (m : Csr) (h : AbtmConfig) (e : csr_answer m ≡ accepted) where
  ok : Valid m
  ok = valid m e

  -- the merged value of the nonzero entries
  abbrev value : ℕ → ℕ → Float
  value r = merged_nonzero (entries m r)

  row_finite : (r : ℕ) → every (λ (x : Entry). finite x.1) (entries m r) ≡ true
  unfolding entries
  row_finite r = every_right finite (part m.ptr m.col r) (part m.ptr m.val r) (row_values_lem ok r)

  pub built_accepted : tiles_answer (tiles_from m h) ≡ accepted
  unfolding tiles_from
  built_accepted = tiles_accepted m.rows m.cols h (λ r c. not (is_zero (value r c))) value ok.cols_in (λ r c l k z. merged-solid (entries m r) c (row_finite r) z) ok.rows_in (tiles_few m h ok)

  -- its present columns with their values, ascending
  pub built-entries : (r : ℕ) → r < m.rows → tile_entries (tiles_from m h) r ≡ map (λ c. (c, value r c)) (below (λ c. not (is_zero (value r c))) m.cols)
  unfolding tiles_from
  built-entries r l = entries_of_tiles m.rows m.cols h (λ r c. not (is_zero (value r c))) value ok.cols_in r l

  -- its columns, by the masks alone
  pub built_columns : (r c : ℕ) → r < m.rows → in_tiles (tiles_from m h) r c ≡ within m.cols (λ c. not (is_zero (value r c))) c
  unfolding tiles_from
  built_columns r c l = in_tiles_lem m.rows m.cols h (λ r c. not (is_zero (value r c))) value ok.cols_in r c l
