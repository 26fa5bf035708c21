-- The checks of a set operation on two records of words, and of room for so many words.
use Rattle.std.specs.Prelude.{ℕ, suc, ◌&&◌, eqb, leb}
use Rattle.hybit_core.specs.Answer.{Answer, demand, ◌and_then◌}
use Rattle.hybit_core.specs.Domain.{many}
use Rattle.topology.specs.Words.{Words, word_sizes, word_rules}
use Rattle.topology.specs.Calls.{Room}

-- two records of one frame: 1 over both; 11 of each; 8
unfoldable pub pair_answer : Words → Words → Answer
pair_answer a b =
    demand (word_sizes a && word_sizes b) 1
    and_then demand (word_rules a) 11
    and_then demand (word_rules b) 11
    and_then demand (eqb a.rows b.rows && eqb a.cols b.cols) 8

-- so many words of so many rows: 1; 13
unfoldable pub room_answer : ℕ → ℕ → Room → Answer
room_answer rows words room = demand (many words) 1 and_then demand (leb (suc rows) room.ptr && leb words room.word && leb words room.mask) 13
