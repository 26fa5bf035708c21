-- A region in the making: what the private functions require.
use Rattle.std.specs.Prelude.{ℕ, ◌+◌, ◌/◌, ◌%◌, ◌^◌, ◌≤◌, ◌<◌, List, ◌&&◌, ◌≡◌, eqb, length, get_or}
use Rattle.hybit_core.specs.Answer.{Answer, accepted, demand, length_is, ◌and_then◌, Given, answers}
use Rattle.hybit_core.specs.Domain.{few}
use Rattle.word.specs.Bits.{has, count, ceil64}
use Rattle.mask.specs.Mask.{Mask, active, mask_rules, mask_answer}
use Rattle.csr32.specs.Csr.{Csr, csr_sizes, csr_rules, csr_answer}
use Rattle.csr32.specs.Made.{CsrRoom}
use Rattle.restricted.specs.Local.{local_answer, region_of}
use Rattle.restricted.specs.declared.LocalRegion.{LocalRegion}

-- the checks of from_csr32 before 13: 1; 2, 3, 4; 5; 10; 6
unfoldable pub region_checks : Csr → Mask → Answer
region_checks m a =
    demand (few a.size && csr_sizes m) 1
    and_then csr_rules m
    and_then demand (mask_rules a) 5
    and_then demand (eqb m.rows m.cols) 10
    and_then length_is m.rows a.size

-- what from_csr32 answers
unfoldable pub region_answer : Csr → Mask → ℕ → CsrRoom → Given LocalRegion
region_answer m a places room = answers (local_answer m a places room) (region_of m a)

-- a plot list and a region that the checks before 13 accept
pub record Region (m : Csr) (a : Mask) : Type 0 where
  pub list_accepted : csr_answer m ≡ accepted
  pub mask_accepted : mask_answer a ≡ accepted
  pub square : m.rows ≡ m.cols
  pub size_is : a.size ≡ m.rows

-- the new number of each column can be read: the members in the words before the column's, and those below it in its word
pub record Numbered (a : Mask) (counts : List ℕ) : Type 0 where
  pub small : a.size ≤ 2 ^ 20
  pub counts_room : ceil64 a.size ≤ length counts
  pub words_room : ceil64 a.size ≤ length a.bits
  pub number_is : (c : ℕ) → c < a.size → get_or counts (c / 64) 0 + count (has (get_or a.bits (c / 64) 0)) (c % 64) ≡ count (active a) c
