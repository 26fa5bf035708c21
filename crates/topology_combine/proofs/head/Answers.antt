-- `topology_combine::head` meets its contract. Assumes nothing.
use mathlib.Core.Path.{refl}
use native.Mathlib.Omega.{arith}
use borrow.Author.Rules.{rules}
use Rattle.topology_combine.proofs.MergeLaws.{head_at, head_end}
use Rattle.topology_combine.proofs.head.Goals as goal

pub returns-then-at-words : goal.returns-then-at-words
returns-then-at-words c = record { number = head_at c.args.words.now c.args.at _ (search rules) refl; below = λ l. search rules }

pub returns : goal.returns
returns c = record { number = head_end c.args.words.now c.args.at (search rules); below = λ l. absurd (omega arith) }
