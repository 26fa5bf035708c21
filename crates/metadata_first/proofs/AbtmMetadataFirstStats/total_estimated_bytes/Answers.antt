-- `metadata_first::AbtmMetadataFirstStats::total_estimated_bytes` meets its contract. Assumes nothing.
use native.Mathlib.Omega.{arith}
use Rattle.metadata_first.proofs.AbtmMetadataFirstStats.total_estimated_bytes.Goals as goal

pub returns : goal.returns
returns c = omega (arith, c.saturating_add-2.ensures, c.saturating_add.ensures)
