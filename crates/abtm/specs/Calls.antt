-- What a tile by value and thresholds answer.
use Rattle.std.specs.Prelude.{ℕ, zero, suc, leb, Option, None, Some, Result, Ok, Err}
use Rattle.hybit_core.specs.Answer.{Answer, Given, gives, refuses, demand, answers}
use Rattle.hybit_core.specs.Table.{paper}
use Rattle.hybit_core.specs.declared.HybitError.{HybitError}
use Rattle.abtm.specs.declared.AbtmConfig.{AbtmConfig}
use Rattle.abtm.specs.declared.TileKind.{TileKind}
use Rattle.abtm.specs.declared.TileKind.TheVariants as kind
use Rattle.abtm.specs.Tiles.{kind_in, threshold_rules}

-- thresholds: 9
unfoldable pub threshold_answer : AbtmConfig → Answer
threshold_answer h = demand (threshold_rules h) 9

-- a kind as `meta` has it
abbrev pub kind_number : TileKind → ℕ
kind_number kind.Sparse = 0
kind_number kind.Bitmap = 1
kind_number kind.Dense = 2

-- the kind of a number
abbrev pub kind_numbered : ℕ → Option TileKind
kind_numbered zero = Some kind.Sparse
kind_numbered (suc zero) = Some kind.Bitmap
kind_numbered (suc (suc zero)) = Some kind.Dense
kind_numbered (suc (suc (suc n))) = None

abbrev pub told_kind : Result TileKind HybitError → Given ℕ
told_kind (Ok k) = gives (kind_number k)
told_kind (Err e) = refuses (paper e)

-- the kind of a tile: 12 for kind 3
unfoldable pub kind_answer : ℕ → Given ℕ
kind_answer meta = answers (demand (leb (kind_in meta) 2) 12) (kind_in meta)
