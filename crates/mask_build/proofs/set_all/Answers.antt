-- `mask_build::set_all` meets its contract. Assumes nothing.
use borrow.Author.Rules.{rules}
use native.Mathlib.Omega.{arith}
use Rattle.mask_build.proofs.BuildLaws.{setting_none, setting_more, setting_length, setting_done, index_word}
use Rattle.mask_build.proofs.set_all.Goals as goal

pub loop-index-init : goal.loop-index-init
loop-index-init c = search (setting_none, rules)

pub offset_bounds-words-at : goal.offset_bounds-words-at
offset_bounds-words-at c = omega (arith, c.type_inv.indices c.loop-index.index-index)

pub bounds-words-at : goal.bounds-words-at
bounds-words-at c = search (index_word, rules)

pub offset_bounds-words-at-in-loop-index : goal.offset_bounds-words-at-in-loop-index
offset_bounds-words-at-in-loop-index c = omega (arith, c.type_inv.indices c.loop-index.index-index)

pub bounds-words-at-in-loop-index : goal.bounds-words-at-in-loop-index
bounds-words-at-in-loop-index c = search (index_word, rules)

pub loop-index-preserved : goal.loop-index-preserved
loop-index-preserved c = search (setting_more, rules)

pub shape_of-words : goal.shape_of-words
shape_of-words c = search (setting_length, rules)

pub returns : goal.returns
returns c = search (setting_done, rules)
