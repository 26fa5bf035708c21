-- A lent packed store.
use Rattle.topology.specs.Matrix.{lent_topology}
use Rattle.metadata_first.specs.declared.matrix.AbtmMetadataFirstMatrix.{AbtmMetadataFirstMatrix}
use Rattle.metadata_first.specs.Store.{Store}

abbrev pub lent_store : AbtmMetadataFirstMatrix → Store
lent_store s = record { words = lent_topology s.topology; vptr = s.row_value_ptr.now; vals = s.values.now }
