use Rattle.topology.specs.Matrix.{lent_topology}
use Rattle.topology_combine.proofs.FillLaws.{Filling}
use Rattle.topology_combine.proofs.merge_rows.Given as goal

abbrev pub invariant-loop-row : goal.invariant-loop-row
invariant-loop-row l = Filling l.operation (lent_topology l.topology) (lent_topology l.other) l.initial.out_ptr l.initial.out_words l.initial.out_masks l.row l.to l.out_ptr l.out_words l.out_masks
