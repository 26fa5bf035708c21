-- `dense_block_check::check` meets its contract. Assumes nothing.
use Rattle.hybit_core.proofs.AnswerLaws.{checks}
use Rattle.hybit_core.proofs.BoolLaws.{tests}
use Rattle.dense_block.specs.Blocks.{blocks_answer}
use Rattle.dense_block_check.proofs.RuleLaws.{sizes_few, columns_few}
use borrow.Author.Rules.{rules}
use mathlib.Core.Path.{ap}
use mathlib.Core.Bool.{not}
use Rattle.dense_block_check.proofs.check.Goals as goal

pub returns-then-not-sizes_fit : goal.returns-then-not-sizes_fit
unfolding blocks_answer
returns-then-not-sizes_fit c = search (checks, tests, rules)

pub rules_hold-requires : goal.rules_hold-requires
rules_hold-requires c = (sizes_few _ _ _ _ _ c.sizes_fit.ensures (ap not c.if-not-sizes_fit.false), columns_few _ _ _ _ _ c.sizes_fit.ensures (ap not c.if-not-sizes_fit.false))

pub returns-then-not-rules_hold : goal.returns-then-not-rules_hold
unfolding blocks_answer
returns-then-not-rules_hold c = search (checks, tests, rules)

pub returns : goal.returns
unfolding blocks_answer
returns c = search (checks, tests, rules)
