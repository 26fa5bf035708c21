-- `metadata_first_merge::merged_finite` meets its contract. Assumes nothing.
use native.Mathlib.Omega.{arith}
use Rattle.metadata_first_merge.proofs.WindowLaws.{window_start}
use Rattle.metadata_first_merge.proofs.merged_finite.Goals as goal

pub rows_hold-requires : goal.rows_hold-requires
rows_hold-requires c = let rest = window_start 32768 32768 (omega arith) (omega arith) (omega arith) in record { sizes = rest.0; window = rest.1 }
