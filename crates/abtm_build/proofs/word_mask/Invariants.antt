use mathlib.Core.Bool.{not, ◌&&◌}
use mathlib.Core.Path.{◌≡◌}
use lib.Dec.{ltb}
use lib.ListN.{get_or}
use lib.Ieee.{nan}
use Rattle.word.specs.Bits.{word_of}
use Rattle.abtm_values.specs.Values.{is_zero}
use Rattle.abtm_build.proofs.word_mask.Given as goal

abbrev pub invariant-loop-i : goal.invariant-loop-i
invariant-loop-i l = l.mask ≡ word_of (λ j. ltb j l.i && not (is_zero (get_or l.sums.list.now j nan)))
