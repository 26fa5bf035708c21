-- What each call on a mask asks of its input, in order, and what membership it leaves.
use Rattle.std.specs.Prelude.{ℕ, ◌/◌, ◌%◌, Bool, cond, ◌&&◌, ◌||◌, List, eqb, leb, ltb}
use Rattle.hybit_core.specs.Answer.{Answer, demand, length_is, ◌and_then◌}
use Rattle.hybit_core.specs.Domain.{few}
use Rattle.lent.specs.Lists.{every, some}
use Rattle.word.specs.Bits.{has, count, ceil64}
use Rattle.mask.specs.Mask.{Mask, active, mask_rules, mask_answer}

-- new: 1; 13
unfoldable pub new_answer : ℕ → ℕ → Answer
new_answer n room = demand (few n) 1 and_then demand (leb (ceil64 n) room) 13

-- from_indices: 1; 7; 13
unfoldable pub from_indices_answer : ℕ → List ℕ → ℕ → Answer
from_indices_answer n is room = demand (few n) 1 and_then demand (every (λ i. ltb i n) is) 7 and_then demand (leb (ceil64 n) room) 13

-- c is among the indices
unfoldable pub listed : List ℕ → ℕ → Bool
listed is c = some (eqb c) is

-- set: 1; 5; 7
unfoldable pub set_answer : Mask → ℕ → Answer
set_answer a i = mask_answer a and_then demand (ltb i a.size) 7

-- the membership with i in it or not, as v says
abbrev pub changed : (ℕ → Bool) → ℕ → Bool → ℕ → Bool
changed p i v c = cond (eqb c i) v (p c)

-- indices: 1; 5; 13
unfoldable pub indices_answer : Mask → ℕ → Answer
indices_answer a room = mask_answer a and_then demand (leb (count (active a) a.size) room) 13

-- two masks: 1 over both; 5 of each; 6
unfoldable pub pair_answer : Mask → Mask → Answer
pair_answer a b = demand (few a.size && few b.size) 1 and_then demand (mask_rules a) 5 and_then demand (mask_rules b) 5 and_then length_is a.size b.size

-- the membership joined with the bits of one word
abbrev pub joined_word : (ℕ → Bool) → ℕ → ℕ → ℕ → Bool
joined_word p w bits c = p c || (eqb (c / 64) w && has bits (c % 64))
