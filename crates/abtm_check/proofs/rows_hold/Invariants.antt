use Rattle.std.proofs.Common.{◌≡◌, ◌-◌, true, map}
use Rattle.lent.specs.Lists.{every, part}
use Rattle.word.specs.Bits.{from}
use Rattle.topology.specs.Words.{row_rule, row_rules}
use Rattle.abtm.specs.Tiles.{word_in, tile_words}
use Rattle.abtm.specs.Matrix.{lent_tiles}
use Rattle.abtm_check.proofs.rows_hold.Given as goal

abbrev pub invariant-loop-row : goal.invariant-loop-row
invariant-loop-row l =
    let m = l.tiles.matrix in
    row_rules (tile_words (lent_tiles m)) ≡ every (λ r. row_rule m.ncols (part m.row_tile_ptr.now (map word_in m.metas.now) r) (part m.row_tile_ptr.now m.masks.now r)) (from (λ r. true) l.row (m.nrows - l.row))
