use lib.ListN.{length}
use Rattle.word.specs.Bits.{members}
use Rattle.restricted_abtm.proofs.BitsLaws.{Keeping}
use Rattle.restricted_abtm.proofs.keep_tile.Given as goal

abbrev pub invariant-loop-rest : goal.invariant-loop-rest
invariant-loop-rest l = Keeping l.values l.bits l.tile.mask l.tile.value_offset l.tile.meta l.from l.room l.initial.out_col_idx l.initial.out_values l.rest l.next l.out_col_idx l.out_values

abbrev pub decreases-loop-rest : goal.decreases-loop-rest
decreases-loop-rest l = length (members l.rest)
