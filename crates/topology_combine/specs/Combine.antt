-- The set operations on words: they act on memberships (document 01, "Words").
use Rattle.std.specs.Prelude.{ℕ, Bool, List, length}
use Rattle.hybit_core.specs.Answer.{Answer, demand, ◌and_then◌}
use Rattle.hybit_core.specs.Domain.{many}
use Rattle.word.specs.Word.{combined}
use Rattle.word.specs.declared.Operation.{Operation}
use Rattle.topology.specs.Words.{Words, topology_of, row_member, member}
use Rattle.topology.specs.Calls.{Room, fits_words}
use Rattle.topology_pair.specs.Pair.{pair_answer}

-- the words of the combined memberships
abbrev pub combined_words : Operation → Words → Words → Words
combined_words op a b = topology_of a.rows a.cols (λ r c. combined op (member a r c) (member b r c))

-- combine: 1; 11, 11; 8; 1 for more than 2^24 words; 13
unfoldable pub combine_answer : Operation → Words → Words → Room → Answer
combine_answer op a b room =
    pair_answer a b
    and_then demand (many (length (combined_words op a b).word)) 1
    and_then demand (fits_words (combined_words op a b) room) 13

-- one row, by its words and masks and the other's
abbrev pub combined_row : Operation → List ℕ → List ℕ → List ℕ → List ℕ → ℕ → Bool
combined_row op ws ms vs ns c = combined op (row_member ws ms c) (row_member vs ns c)
