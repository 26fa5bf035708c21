use Rattle.topology.specs.Words.{row_member}
use Rattle.metadata_first_build.proofs.PlaceLaws.{Placing}
use Rattle.metadata_first_build.proofs.place_words.Given as goal

abbrev pub invariant-loop-i : goal.invariant-loop-i
invariant-loop-i l = Placing (row_member l.checked.row.words.now l.checked.row.masks.now) l.checked.ncols l.initial.bits l.initial.starts l.i l.place l.bits l.starts
