-- `topology_pair::examine_room` meets its contract. Assumes nothing.
use Rattle.topology_pair.specs.Pair.{room_answer}
use Rattle.hybit_core.proofs.BoolLaws.{tests}
use Rattle.hybit_core.proofs.AnswerLaws.{checks}
use borrow.Author.Rules.{rules}
use Rattle.topology_pair.proofs.examine_room.Goals as goal

pub returns-then-not-entries_fit : goal.returns-then-not-entries_fit
unfolding room_answer
returns-then-not-entries_fit c = search (checks, tests, rules)

pub returns-then-ptr_room-nrows : goal.returns-then-ptr_room-nrows
unfolding room_answer
returns-then-ptr_room-nrows c = search (checks, tests, rules)

pub returns-then-word_room-words : goal.returns-then-word_room-words
unfolding room_answer
returns-then-word_room-words c = search (checks, tests, rules)

pub returns-then-mask_room-words : goal.returns-then-mask_room-words
unfolding room_answer
returns-then-mask_room-words c = search (checks, tests, rules)

pub returns : goal.returns
unfolding room_answer
returns c = search (checks, tests, rules)
