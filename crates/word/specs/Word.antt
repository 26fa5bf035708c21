-- Questions to one word, and the set operations, which act on memberships (document 01, "Words").
use Rattle.std.specs.Prelude.{Bool, not, ◌&&◌, ◌||◌, ℕ, leb}
use Rattle.std.specs.Bool.{beq}
use Rattle.hybit_core.specs.Answer.{Given, demand, answers}
use Rattle.word.specs.Bits.{has, count}
use Rattle.word.specs.declared.Operation.{Operation}
use Rattle.word.specs.declared.Operation.TheVariants.{Union, Intersection, AndNot, Xor}

-- the rank at an offset from 0 to 64, 64 giving all ones; 7 above
unfoldable pub rank_answer : ℕ → ℕ → Given ℕ
rank_answer w i = answers (demand (leb i 64) 7) (count (has w) i)

-- what an operation does to two memberships
abbrev pub combined : Operation → Bool → Bool → Bool
combined Union s t = s || t
combined Intersection s t = s && t
combined AndNot s t = s && not t
combined Xor s t = not (beq s t)
