-- What a step of a merge says: one word of two rows side by side.
use Rattle.std.specs.Prelude.{ℕ, ◌+◌, ◌^◌, ◌<◌, List, ◌≡◌, length, get_or}
use Rattle.word.specs.Bits.{has, word_of}
use Rattle.word.specs.Word.{combined}
use Rattle.word.specs.declared.Operation.{Operation}

-- a row at word `index`, its next word standing at place `at`: the mask that it lists for that word, and the place after
pub data Side (ws ms : List ℕ) (at index m next : ℕ) : Type 0 where
  taken : at < length ws → index ≡ get_or ws at 0 → m ≡ get_or ms at 0 → next ≡ at + 1 → Side ws ms at index m next
  waits : (at < length ws → index < get_or ws at 0) → m ≡ 0 → next ≡ at → Side ws ms at index m next

-- the next word of either, and how far it takes them
pub record Stepped (op : Operation) (ws ms vs ns : List ℕ) (at other index mask next other-next : ℕ) : Type 0 where
  pub one : ℕ
  pub two : ℕ
  pub here : Side ws ms at index one next
  pub there : Side vs ns other index two other-next
  pub is : mask ≡ word_of (λ i. combined op (has one i) (has two i))
  pub small : index < 2 ^ 32
  pub onward : at + other < next + other-next
