-- `word::rank` meets its contract. Assumes nothing.
use borrow.Author.Rules.{rules}
use Rattle.word.proofs.RankLaws.{rank_refused, rank-counted}
use Rattle.word.proofs.rank.Goals as goal

pub returns-then-offset-gt64 : goal.returns-then-offset-gt64
returns-then-offset-gt64 c = search (rank_refused, rules)

pub returns : goal.returns
returns c = search (rank-counted, rules)
