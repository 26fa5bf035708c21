-- `topology::check_lists` meets its contract. Assumes nothing.
use Rattle.hybit_core.proofs.AnswerLaws.{checks}
use Rattle.hybit_core.proofs.BoolLaws.{tests}
use Rattle.topology.specs.Words.{word_answer}
use Rattle.std.proofs.Common.{rules}
use Rattle.topology.proofs.matrix.AbtmTopology.check_lists.Goals as goal

pub returns-then-not-sizes_fit : goal.returns-then-not-sizes_fit
unfolding word_answer
returns-then-not-sizes_fit c = search (checks, tests, rules)

pub returns-then-not-lists_hold : goal.returns-then-not-lists_hold
unfolding word_answer
returns-then-not-lists_hold c = search (checks, tests, rules)

pub returns : goal.returns
unfolding word_answer
returns c = search (checks, tests, rules)
