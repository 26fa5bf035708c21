-- `abtm_check::numbers_climb` meets its contract. Assumes nothing.
use Rattle.std.proofs.Common.{refl, rules}
use Rattle.topology.proofs.LastLaws.{climb-none}
use Rattle.abtm_check.proofs.MetaLaws.{numbers_more, numbers_done}
use Rattle.abtm_check.proofs.numbers_climb.Goals as goal

pub loop-i-init : goal.loop-i-init
loop-i-init c = (search rules, climb-none _)

pub loop-i-preserved : goal.loop-i-preserved
loop-i-preserved c = (search rules, numbers_more c.args.metas.now c.loop-i.holds c.loop-i.i c.loop-i.invariant.1 (search rules) _ _ _ c.word_in.ensures c.word_in-in-loop-i.ensures refl)

pub returns : goal.returns
returns c = numbers_done c.args.metas.now c.loop-i.holds c.loop-i.i c.loop-i.invariant.1 (search rules)
