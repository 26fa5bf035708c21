use lib.ListN.{length}
use Rattle.word.specs.Bits.{members}
use Rattle.restricted_abtm.proofs.BitsLaws.{Testing}
use Rattle.restricted_abtm.proofs.tile_finite.Given as goal

abbrev pub invariant-loop-rest : goal.invariant-loop-rest
invariant-loop-rest l = Testing l.values l.bits l.tile.mask l.tile.value_offset l.tile.meta l.rest

abbrev pub decreases-loop-rest : goal.decreases-loop-rest
decreases-loop-rest l = length (members l.rest)
