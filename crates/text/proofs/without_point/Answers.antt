-- `text::without_point` meets its contract. Assumes nothing.
use borrow.Author.Rules.{rules}
use Rattle.text.proofs.DecimalLaws.{alone_bad, alone-good}
use Rattle.text.proofs.without_point.Goals as goal

pub returns-in_err-v : goal.returns-in_err-v
returns-in_err-v c = rw c.from_residual.ensures (search (alone_bad, rules))

pub returns : goal.returns
returns c = search (alone-good, rules)
