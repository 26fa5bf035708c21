use Rattle.abtm_apply.proofs.ProductLaws.{Rows}
use Rattle.abtm.specs.Matrix.{lent_tiles}
use Rattle.abtm_apply.proofs.fill_product.Given as goal

abbrev pub invariant-loop-row : goal.invariant-loop-row
invariant-loop-row l = Rows (lent_tiles l.tiles) l.x l.initial.y l.row l.y
