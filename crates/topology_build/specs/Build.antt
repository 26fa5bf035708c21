-- The words of a plot list (document 01, "Words": every stored entry sets its bit).
use Rattle.hybit_core.specs.Answer.{Answer, demand, ◌and_then◌}
use Rattle.csr32.specs.Csr.{Csr, csr_answer, entries, present}
use Rattle.topology.specs.Words.{Words, topology_of}
use Rattle.topology.specs.Calls.{Room, fits_words}

-- the words of the columns that have an entry, zeros and cancelling entries included
abbrev pub topology_from : Csr → Words
topology_from m = topology_of m.rows m.cols (λ r. present (entries m r))

-- from_csr32: 1; 2, 3, 4; 13
unfoldable pub build_answer : Csr → Room → Answer
build_answer m room = csr_answer m and_then demand (fits_words (topology_from m) room) 13
