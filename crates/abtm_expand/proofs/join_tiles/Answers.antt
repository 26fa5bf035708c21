-- `abtm_expand::join_tiles` meets its contract. Assumes nothing.
use native.Mathlib.Omega.{arith}
use borrow.Author.Rules.{rules}
use Rattle.abtm_expand.proofs.JoinLaws.{joined-none, joined_index, joined_more, joined_done}
use Rattle.abtm_expand.proofs.join_tiles.Goals as goal

pub loop-place-init : goal.loop-place-init
loop-place-init c = joined-none _ _ _ (search rules)

pub bounds-words-index : goal.bounds-words-index
bounds-words-index c = joined_index _ _ _ _ _ c.loop-place.invariant c.requires.paired (omega arith) _ (c.word_in-index.ensures) c.requires.inside

pub bounds-words-index-in-loop-place : goal.bounds-words-index-in-loop-place
bounds-words-index-in-loop-place c = joined_index _ _ _ _ _ c.loop-place.invariant c.requires.paired (omega arith) _ (c.word_in-index.ensures) c.requires.inside

pub loop-place-preserved : goal.loop-place-preserved
loop-place-preserved c = joined_more _ _ _ _ _ c.loop-place.invariant c.requires.paired (omega arith) _ (c.word_in-index.ensures) (joined_index _ _ _ _ _ c.loop-place.invariant c.requires.paired (omega arith) _ (c.word_in-index.ensures) c.requires.inside) _ c.union.ensures

pub returns : goal.returns
returns c = joined_done _ _ _ _ _ c.loop-place.invariant c.requires.paired (omega arith)
