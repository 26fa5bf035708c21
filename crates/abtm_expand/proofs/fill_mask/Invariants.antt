use Rattle.abtm_expand.proofs.ExpandLaws.{Expanding}
use Rattle.abtm.specs.Matrix.{lent_tiles}
use Rattle.abtm_expand.proofs.fill_mask.Given as goal

abbrev pub invariant-loop-row : goal.invariant-loop-row
invariant-loop-row l = Expanding (lent_tiles l.tiles) l.mask.len l.mask.words.now l.row l.out
