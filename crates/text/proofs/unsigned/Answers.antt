-- `text::unsigned` meets its contract. Assumes nothing.
use borrow.Author.Rules.{rules}
use Rattle.text.proofs.DecimalLaws.{unsigned_alone, unsigned_parts}
use Rattle.text.proofs.unsigned.Goals as goal

pub returns-in-Some : goal.returns-in-Some
returns-in-Some c = search (unsigned_parts, rules)

pub returns-in-None : goal.returns-in-None
returns-in-None c = search (unsigned_alone, rules)
