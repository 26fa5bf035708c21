-- `mask_sets::words_meet` meets its contract. Assumes nothing.
use borrow.Author.Rules.{rules}
use Rattle.mask_sets.proofs.PairLaws.{apart_none, apart_more, apart_found, apart_done}
use Rattle.mask_sets.proofs.words_meet.Goals as goal

pub loop-k-init : goal.loop-k-init
loop-k-init c = apart_none _ _

pub returns-then-intersection-ne0 : goal.returns-then-intersection-ne0
returns-then-intersection-ne0 c = search (apart_found, rules)

pub loop-k-preserved : goal.loop-k-preserved
loop-k-preserved c = search (apart_more, rules)

pub returns : goal.returns
returns c = search (apart_done, rules)
