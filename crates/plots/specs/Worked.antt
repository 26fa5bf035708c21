-- Document 01's worked plots marked (M), as rows of one table: what the definitions give, and what the document says.
use Rattle.std.specs.Prelude.{ℕ, Option, Some, None, Bool, true, false, List, [], ◌∷◌, pos, negsuc, replicate, Float}
use Rattle.std.specs.Float.{fin}
use Rattle.hybit_core.specs.Answer.{Given, gives, refuses}
use Rattle.hybit_core.specs.Floats.{zero64}
use Rattle.word.specs.declared.Operation.TheVariants.{Union, Intersection, AndNot, Xor}
use Rattle.mask.specs.Mask.{Mask}
use Rattle.csr32.specs.Csr.{Csr}
use Rattle.topology.specs.Words.{Words, member}
use Rattle.topology.specs.Calls.{rank_answer, select, metadata_bytes}
use Rattle.topology_build.specs.Build.{topology_from}
use Rattle.topology_combine.specs.Combine.{combined_words}
use Rattle.metadata_first.specs.declared.AbtmRowDot.{AbtmRowDot}
use Rattle.metadata_first.specs.Store.{Store}
use Rattle.metadata_first.specs.Dot.{sparse_dot_row}
use Rattle.metadata_first_build.specs.Pack.{store_of}
use Rattle.abtm.specs.declared.AbtmConfig.{AbtmConfig}
use Rattle.abtm_build.specs.Build.{tiles_from}

-- what a row of the table compares
pub data Cell : Type 0 where
  number : ℕ → Cell
  numbers : List ℕ → Cell
  floats : List Float → Cell
  report : Float → ℕ → ℕ → ℕ → ℕ → ℕ → Cell
  place : ℕ → Cell
  nowhere : Cell
  refusal : ℕ → Cell
  test : Bool → Cell

abbrev pub of_given : Given ℕ → Cell
of_given (gives n) = number n
of_given (refuses t) = refusal t.number

abbrev pub of_option : Option ℕ → Cell
of_option (Some n) = place n
of_option None = nowhere

-- the number, then candidate, executed, skipped, topology words, active words
abbrev pub of_report : Given AbtmRowDot → Cell
of_report (gives d) = report d.sum d.candidate_products d.executed_products d.skipped_products d.topology_words d.active_words
of_report (refuses t) = refusal t.number

-- m ÷ 2; 2 ^ k; −1
abbrev pub half : ℕ → Float
half m = fin false m (negsuc 0)

abbrev pub two : ℕ → Float
two k = fin false 1 (pos k)

abbrev pub minus_one : Float
minus_one = fin true 1 (pos 0)

-- 70 columns, row 65, 3, 3, 64 with 2.0, 1.0, 0.5, 4.0
abbrev pub plots : Csr
plots = record { rows = 1; cols = 70; ptr = 0 ∷ 4 ∷ []; col = 65 ∷ 3 ∷ 3 ∷ 64 ∷ []; val = two 1 ∷ two 0 ∷ half 1 ∷ two 2 ∷ [] }

-- its words, as they are handed on
abbrev pub plot_words : Words
plot_words = record { rows = 1; cols = 70; ptr = 0 ∷ 2 ∷ []; word = 0 ∷ 1 ∷ []; mask = 8 ∷ 3 ∷ []; total = 3 }

-- its packed store, as it is handed on
abbrev pub plot_store : Store
plot_store = record { words = plot_words; vptr = 0 ∷ 3 ∷ []; vals = half 3 ∷ two 2 ∷ two 1 ∷ [] }

-- x all 1.0; active 3 and 65; active 3 only
abbrev pub ones : List Float
ones = replicate 70 (two 0)

abbrev pub active65 : Mask
active65 = record { size = 70; bits = 8 ∷ 2 ∷ [] }

abbrev pub active3 : Mask
active3 = record { size = 70; bits = 8 ∷ 0 ∷ [] }

-- an empty row
abbrev pub empty : Csr
empty = record { rows = 1; cols = 70; ptr = 0 ∷ 0 ∷ []; col = []; val = [] }

abbrev pub empty_store : Store
empty_store = record { words = record { rows = 1; cols = 70; ptr = 0 ∷ 0 ∷ []; word = []; mask = []; total = 0 }; vptr = 0 ∷ 0 ∷ []; vals = [] }

-- a one-row record of one mask with two bits
abbrev pub one_mask : ℕ → Words
one_mask m = record { rows = 1; cols = 64; ptr = 0 ∷ 1 ∷ []; word = 0 ∷ []; mask = m ∷ []; total = 2 }

-- column 5 with 1.0 and −1.0
abbrev pub cancels : Csr
cancels = record { rows = 1; cols = 70; ptr = 0 ∷ 2 ∷ []; col = 5 ∷ 5 ∷ []; val = two 0 ∷ minus_one ∷ [] }

-- the default thresholds
abbrev pub standard : AbtmConfig
standard = record { sparse_max_nnz = 8; dense_min_nnz = 40 }

unfoldable pub table : List (Cell × Cell)
table =
    -- word 0 mask 8, word 1 mask 3
    (numbers (topology_from plots).ptr, numbers (0 ∷ 2 ∷ []))
    ∷ (numbers (topology_from plots).word, numbers (0 ∷ 1 ∷ []))
    ∷ (numbers (topology_from plots).mask, numbers (8 ∷ 3 ∷ []))
    ∷ (number (topology_from plots).total, number 3)
    -- ranks at 0, 4, 64, 65, 70: 0, 1, 1, 2, 3; at 71: refusal 7
    ∷ (of_given (rank_answer plot_words 0 0), number 0)
    ∷ (of_given (rank_answer plot_words 0 4), number 1)
    ∷ (of_given (rank_answer plot_words 0 64), number 1)
    ∷ (of_given (rank_answer plot_words 0 65), number 2)
    ∷ (of_given (rank_answer plot_words 0 70), number 3)
    ∷ (of_given (rank_answer plot_words 0 71), refusal 7)
    -- selects 0 to 3: 3, 64, 65, Nothing
    ∷ (of_option (select plot_words 0 0), place 3)
    ∷ (of_option (select plot_words 0 1), place 64)
    ∷ (of_option (select plot_words 0 2), place 65)
    ∷ (of_option (select plot_words 0 3), nowhere)
    -- metadata_bytes: 32
    ∷ (number (metadata_bytes plot_words), number 32)
    -- packed 1.5, 4.0, 2.0
    ∷ (numbers (store_of plots).words.word, numbers (0 ∷ 1 ∷ []))
    ∷ (numbers (store_of plots).words.mask, numbers (8 ∷ 3 ∷ []))
    ∷ (numbers (store_of plots).vptr, numbers (0 ∷ 3 ∷ []))
    ∷ (floats (store_of plots).vals, floats (half 3 ∷ two 2 ∷ two 1 ∷ []))
    -- active 3 and 65: 3.5, counts 3, 2, 1, 2, 2; active 3 only: 1.5, counts 3, 1, 2, 2, 1
    ∷ (of_report (sparse_dot_row plot_store active65 ones 0), report (half 7) 3 2 1 2 2)
    ∷ (of_report (sparse_dot_row plot_store active3 ones 0), report (half 3) 3 1 2 2 1)
    -- an empty row: 0.0, all counts 0
    ∷ (floats (store_of empty).vals, floats [])
    ∷ (of_report (sparse_dot_row empty_store active65 ones 0), report zero64 0 0 0 0 0)
    -- an empty row has no word
    ∷ (numbers (topology_from empty).ptr, numbers (0 ∷ 0 ∷ []))
    ∷ (numbers (topology_from empty).word, numbers [])
    -- masks 6 and 3: union 7, intersection 2, and_not 4, xor 5; xor with itself: no word
    ∷ (numbers (combined_words Union (one_mask 6) (one_mask 3)).mask, numbers (7 ∷ []))
    ∷ (numbers (combined_words Intersection (one_mask 6) (one_mask 3)).mask, numbers (2 ∷ []))
    ∷ (numbers (combined_words AndNot (one_mask 6) (one_mask 3)).mask, numbers (4 ∷ []))
    ∷ (numbers (combined_words Xor (one_mask 6) (one_mask 3)).mask, numbers (5 ∷ []))
    ∷ (numbers (combined_words Xor (one_mask 6) (one_mask 6)).word, numbers [])
    -- column 5 with 1.0 and −1.0: present, packed 0.0, no tile
    ∷ (test (member (topology_from cancels) 0 5), test true)
    ∷ (floats (store_of cancels).vals, floats (zero64 ∷ []))
    ∷ (numbers (tiles_from cancels standard).ptr, numbers (0 ∷ 0 ∷ []))
    ∷ (numbers (tiles_from cancels standard).mask, numbers [])
    ∷ (floats (tiles_from cancels standard).vals, floats [])
    ∷ (number (tiles_from cancels standard).nnz, number 0)
    ∷ []
