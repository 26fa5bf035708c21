-- `denimrasp_answers::part` meets its contract. Assumes nothing.
use mathlib.Core.Path.{ap}
use Rattle.hybit_core.specs.Answer.{gives}
use Rattle.denimrasp_answers.specs.Answers.{part_of}
use Rattle.denimrasp_answers.proofs.PlaceLaws.{places-past, places_are}
use Rattle.denimrasp_answers.proofs.part.Goals as goal

pub returns-then-row-row_ptr : goal.returns-then-row-row_ptr
returns-then-row-row_ptr c = ap (λ p. part_of (gives p)) (places-past _ _ c.if-row-row_ptr.true)

pub returns : goal.returns
returns c = ap (λ p. part_of (gives p)) (places_are _ _ _ _ c.pointer.ensures c.pointer-2.ensures)
