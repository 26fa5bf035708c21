-- `mask::DofMask::contains` meets its contract. Assumes nothing.
use borrow.Author.Rules.{rules}
use Rattle.hybit_core.proofs.AnswerLaws.{outcomes}
use Rattle.mask.proofs.dof.DofMask.contains.Goals as goal

pub returns : goal.returns
returns c = search (outcomes, rules)
