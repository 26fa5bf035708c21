use Rattle.std.proofs.Common.{◌≡◌, ◌-◌, true}
use Rattle.topology.specs.Words.{row_rule, row_rules}
use Rattle.word.specs.Bits.{from}
use Rattle.lent.specs.Lists.{every, part}
use Rattle.topology.specs.Matrix.{lent_topology}
use Rattle.topology.proofs.rows_hold.Given as goal

abbrev pub invariant-loop-row : goal.invariant-loop-row
invariant-loop-row l = row_rules (lent_topology l.framed.topology) ≡ every (λ r. row_rule l.framed.topology.ncols (part l.framed.topology.row_word_ptr.now l.framed.topology.word_indices.now r) (part l.framed.topology.row_word_ptr.now l.framed.topology.masks.now r)) (from (λ r. true) l.row (l.framed.topology.nrows - l.row))
