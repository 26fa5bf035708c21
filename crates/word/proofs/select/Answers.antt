-- `word::select` meets its contract. The loop's invariant: the members of `bits` are those of the mask after the first k. Assumes nothing.
use borrow.Author.Rules.{rules}
use Rattle.word.proofs.OpLaws.{nothing_left, left-none, left_more, left-selected}
use Rattle.word.proofs.select.Goals as goal

pub returns-then-ordinal-popcount : goal.returns-then-ordinal-popcount
returns-then-ordinal-popcount c = search (nothing_left, rules)

pub loop-init : goal.loop-init
loop-init c = search (left-none, rules)

pub loop-preserved : goal.loop-preserved
loop-preserved c = search (left_more, rules)

pub returns : goal.returns
returns c = search (left-selected, rules)
