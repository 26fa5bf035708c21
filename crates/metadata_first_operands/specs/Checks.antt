-- The checks of the dot of every row; those of one row stand in metadata_first's Dot.
use Rattle.std.specs.Prelude.{ℕ, ◌&&◌, List, leb, Float}
use Rattle.hybit_core.specs.Answer.{Answer, demand, ◌and_then◌}
use Rattle.mask.specs.Mask.{Mask}
use Rattle.metadata_first.specs.Store.{Store}
use Rattle.metadata_first.specs.Dot.{operands_answer}

-- into two lists of so many places: 1; 11, 12; 5; 6 the mask's length; 6 the vector's; 13
unfoldable pub rows_answer : Store → Mask → List Float → ℕ → ℕ → Answer
rows_answer s a x sums counts = operands_answer s a x and_then demand (leb s.words.rows sums && leb s.words.rows counts) 13
