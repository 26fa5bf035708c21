-- `abtm_build::word_mask` meets its contract. Assumes nothing.
use mathlib.Core.Path.{refl}
use native.Mathlib.Omega.{arith}
use lib.ListN.{get_or}
use lib.Ieee.{nan}
use Rattle.abtm_values.specs.Values.{is_zero}
use Rattle.abtm_build.proofs.WordLaws.{first-none, first_more, first_done}
use Rattle.abtm_build.proofs.word_mask.Goals as goal

pub loop-i-init : goal.loop-i-init
loop-i-init c = first-none _

pub loop-i-preserved : goal.loop-i-preserved
loop-i-preserved c = first_more _ c.loop-i.i _ _ (is_zero (get_or c.args.sums.list.now c.loop-i.i nan)) c.loop-i-test.true refl c.loop-i.invariant c.also_marked-mask.ensures

pub returns : goal.returns
returns c = first_done _ c.loop-i.i _ (omega arith) c.loop-i.invariant
